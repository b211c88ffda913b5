use Rattle.std.proofs.Common.{ap, ◌∙◌}
use Rattle.sql_tree.specs.Conditions.{AllOf}
use Rattle.sql_tree.specs.Listed.{conditions_listed}
use Rattle.sql_tree.proofs.Interface.{condition_of-AllOf}
use Rattle.store_tests.proofs.joins.on.Goals as goal

pub returns : goal.returns
returns c = condition_of-AllOf c.in_ok-vec.field-0 ∙ ap (λ all. AllOf (conditions_listed all)) c.in_ok-vec.ensures.items
