use Rattle.std.proofs.Common.{◌+◌, ◌*◌, length, map}
use Rattle.sql_grammar.specs.Parse.{signed, operand_parens}
use Rattle.sql_grammar.proofs.Interface.{Goes}
use Rattle.sql_expressions.specs.Views.{signed_of, signs}
use Rattle.sql_expressions.proofs.operands.+operand.Given as goal

abbrev pub decreases-parenthesised : goal.decreases-parenthesised
decreases-parenthesised l = 10 * l.depth + 0

abbrev pub decreases-primary : goal.decreases-primary
decreases-primary l = 10 * l.depth + 1

abbrev pub decreases-minus : goal.decreases-minus
decreases-minus l = 10 * l.depth + 2

abbrev pub decreases-term : goal.decreases-term
decreases-term l = 10 * l.depth + 3

abbrev pub decreases-signed : goal.decreases-signed
decreases-signed l = 10 * l.depth + 4

abbrev pub decreases-terms : goal.decreases-terms
decreases-terms l = 10 * l.depth + 5

abbrev pub decreases-sum_from : goal.decreases-sum_from
decreases-sum_from l = 10 * l.depth + 6

abbrev pub decreases-operand_in : goal.decreases-operand_in
decreases-operand_in l = 10 * l.depth + 7

abbrev pub invariant-terms-terms : goal.invariant-terms-terms
invariant-terms-terms l = Goes signs (signed (operand_parens l.fn.depth)) l.fn.tokens (map signed_of l.terms) l.tokens

abbrev pub decreases-terms-terms : goal.decreases-terms-terms
decreases-terms-terms l = length l.tokens
