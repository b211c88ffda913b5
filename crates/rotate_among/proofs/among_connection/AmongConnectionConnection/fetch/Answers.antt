-- One waits, or none does.
use Rattle.std.proofs.Common.{sym, ◌∙◌}
use Rattle.script_run.proofs.Interface.{rests_same}
use Rattle.run_command.proofs.Interface.{none_waits, one_waits}
use Rattle.rotate_among.proofs.among_connection.AmongConnectionConnection.fetch.Goals as goal

pub returns-then-is_empty : goal.returns-then-is_empty
returns-then-is_empty g c = (rests_same _, none_waits _ _ c.args.self.now.waiting.now.replies.ok.0 (sym c.is_empty.ensures ∙ c.if-is_empty.true))

pub returns-else-is_empty : goal.returns-else-is_empty
returns-else-is_empty g c = (rests_same _, one_waits c.args.self.now.version _ _ c.args.self.now.waiting.now.replies.ok.0 (sym c.is_empty.ensures ∙ c.if-is_empty.false))
