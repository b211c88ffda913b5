-- Fewer keys are left.
use Rattle.std.proofs.Common.{length}
use Rattle.wire_messages.proofs.key_lists.+has_key.Given as goal

abbrev pub decreases-has_key : goal.decreases-has_key
decreases-has_key l = length l.keys.now
