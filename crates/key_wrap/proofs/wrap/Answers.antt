use Rattle.std.proofs.Common.{arith, ◌∙◌}
use Rattle.key_wrap.proofs.Rounds.{wrapped-from_rounds}
use Rattle.key_wrap.proofs.wrap.Goals as goal

pub returns : goal.returns
returns c = wrapped-from_rounds _ _ _ _ _ _ c.registers_of-registers.ensures c.loop-j.invariant (omega arith) (c.copy_from_slice.ensures.after ∙ c.as_flattened.ensures.value)
