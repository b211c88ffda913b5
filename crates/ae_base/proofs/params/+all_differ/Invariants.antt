-- Fewer items are left.
use Rattle.std.proofs.Common.{length}
use Rattle.ae_base.proofs.params.+all_differ.Given as goal

abbrev pub decreases-all_differ : goal.decreases-all_differ
decreases-all_differ g l = length l.items.now
