-- The level says a number, or nothing.
use Rattle.std.proofs.Common.{sym, ◌∙◌}
use Rattle.key_index.proofs.Entries.{through_some, through_none}
use Rattle.key_index.proofs.levels.number_by.Goals as goal

pub returns-in-Some : goal.returns-in-Some
returns-in-Some g c = λ found is. sym (through_some c.args.level.now.entries found c.args.key.now _ (sym c.in-Some.ensures.value))

pub returns-in-None : goal.returns-in-None
returns-in-None g c = λ found is. is ∙ sym (through_none c.args.level.now.entries found c.args.key.now (sym c.in-None.ensures.value))
