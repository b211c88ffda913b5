use Rattle.std.specs.Option.{option_map}
use Rattle.sql_tree.specs.Operands.{operand_of}
use Rattle.sql_grammar.specs.Parse.{operand_parens}
use Rattle.sql_expressions.specs.Views.{inner_of, test_of}
use Rattle.sql_expressions.proofs.Tested.{sum_then_test}
use Rattle.sql_expressions.proofs.conditions.rest_of_sum.Goals as goal

pub returns-in-Ok : goal.returns-in-Ok
returns-in-Ok c =
    sum_then_test (operand_parens c.args.depth) (operand_of c.args.first) (operand_of c.in_ok-left.left)
    c.args.tokens.now c.sum_from.new.tokens c.optional_test.new.tokens (option_map test_of c.in-Ok.test) (inner_of c.with_rest.result) c.in_ok-left.ensures c.in-Ok.ensures c.with_rest.ensures
