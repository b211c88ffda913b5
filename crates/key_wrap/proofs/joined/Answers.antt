use Rattle.std.proofs.Common.{refl}
use Rattle.key_wrap.proofs.Joining.{halves_written}
use Rattle.key_wrap.proofs.joined.Goals as goal

pub returns : goal.returns
returns c = rw (c.copy_from_slice.ensures.after, c.copy_from_slice-2.ensures.after) (halves_written 8 _ _ _ c.told-high refl)
