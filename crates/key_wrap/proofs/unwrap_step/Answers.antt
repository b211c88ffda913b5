use Rattle.std.proofs.Common.{arith}
use Rattle.key_wrap.proofs.Steps.{wrap_step-undoes}
use Rattle.key_wrap.proofs.unwrap_step.Goals as goal

pub returns-clause-undoes : goal.returns-clause-undoes
returns-clause-undoes c =
    wrap_step-undoes _ _ _ _ _ _ _ _ _ _ c.requires.step.0 (omega arith) c.step_number.ensures c.xor-check.ensures.undoes (omega arith)
    c.joined.ensures c.decrypt.ensures.undoes c.halves.ensures.high c.halves.ensures.low
