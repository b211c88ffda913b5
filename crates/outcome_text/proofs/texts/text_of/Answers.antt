-- The count, and what stands around it.
use Rattle.std.specs.Prelude.{codes}
use Rattle.outcome_text.proofs.Printed.{line-counted}
use Rattle.outcome_text.proofs.texts.text_of.Goals as goal

pub returns-in-Changed : goal.returns-in-Changed
returns-in-Changed c = rw c.in-Changed.is (line-counted (codes "(") (codes " affected)") c.format.result c.in-Changed.count c.format.ensures.ok)

pub returns-in-Rotated : goal.returns-in-Rotated
returns-in-Rotated c = rw c.in-Rotated.is (line-counted (codes "rotated ") (codes " rows") c.format-in-Rotated.result c.in-Rotated.count c.format-in-Rotated.ensures.ok)
