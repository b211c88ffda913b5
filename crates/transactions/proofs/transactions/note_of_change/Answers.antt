-- A further name is joined at the end.
use Rattle.std.proofs.Common.{[], ◌∷◌, ◌++◌, sym, ap, ◌∙◌}
use Rattle.transactions.proofs.Noting.{joined_known, joined_new}
use Rattle.transactions.proofs.transactions.note_of_change.Goals as goal

pub returns-then-is_among : goal.returns-then-is_among
returns-then-is_among c = joined_known c.args.changed.now c.args.name.now (sym c.is_among.ensures ∙ c.if-is_among.true)

pub returns : goal.returns
returns c = ap (λ n. c.args.changed.now ++ n ∷ []) c.in_ok-copy.ensures ∙ joined_new c.args.changed.now c.args.name.now (sym c.is_among.ensures ∙ c.if-is_among.false)
