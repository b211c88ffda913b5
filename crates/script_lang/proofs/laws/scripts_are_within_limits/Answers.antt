use Rattle.script_lang.proofs.Within.{within_limits}
use Rattle.script_lang.proofs.laws.scripts_are_within_limits.Goals as goal

pub returns : goal.returns
returns c = within_limits
