use Rattle.std.proofs.Common.{◌-◌}
use Rattle.inference.proofs.infer.+last_typed.Given as goal

abbrev pub decreases-last_typed : goal.decreases-last_typed
decreases-last_typed l = l.high - l.low
