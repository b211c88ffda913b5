-- The rules in the order of their places.
use Rattle.std.proofs.Common.{ap, ◌∙◌, ◌++◌}
use Rattle.sql_tree.specs.Bound.{bound_of, statement_of}
use Rattle.enc_types.specs.Rules.{statement_rules}
use Rattle.enc_types.proofs.Trees.{rules_are}
use Rattle.enc_types.proofs.statements.rules.Goals as goal

pub returns : goal.returns
returns c =
    rw (← (rules_are (bound_of c.args.bound.now) c.of_statement.new.rules
    (c.in_ok-of_statement.ensures ∙ ap (λ z. z ++ statement_rules (statement_of c.args.bound.now.statement)) c.new-rules.ensures))) c.in_order.ensures
