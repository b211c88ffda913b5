-- Fewer others are left.
use Rattle.std.proofs.Common.{length}
use Rattle.ae_base.proofs.params.+is_among.Given as goal

abbrev pub decreases-is_among : goal.decreases-is_among
decreases-is_among g l = length l.others.now
