-- By the batch that was sent last, and its outcome.
use Rattle.column_rotate.proofs.Rotated.{rotation_next}
use Rattle.column_rotate.proofs.laws.rotations_are_next.Goals as goal

pub returns : goal.returns
returns c = rotation_next
