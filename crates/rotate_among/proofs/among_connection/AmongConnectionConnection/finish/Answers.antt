-- None is left, or one is.
use Rattle.std.proofs.Common.{sym, ◌∙◌}
use Rattle.script_run.proofs.Interface.{rests_same}
use Rattle.run_command.proofs.Interface.{none_left, one_left}
use Rattle.rotate_among.proofs.among_connection.AmongConnectionConnection.finish.Goals as goal

pub returns-then-is_empty-clause-finishes : goal.returns-then-is_empty-clause-finishes
returns-then-is_empty-clause-finishes g c = (rests_same _, none_left _ _ c.args.self.now.waiting.now.replies.ok.0 (sym c.is_empty.ensures ∙ c.if-is_empty.true))

pub returns-else-is_empty-clause-finishes : goal.returns-else-is_empty-clause-finishes
returns-else-is_empty-clause-finishes g c = (rests_same _, one_left _ _ c.args.self.now.waiting.now.replies.ok.0 (sym c.is_empty.ensures ∙ c.if-is_empty.false))
