use Rattle.std.proofs.Common.{◌+◌, ◌*◌, [], ◌∷◌, length, map}
use Rattle.sql_tree.specs.Conditions.{condition_of}
use Rattle.sql_tree.specs.declared.lexemes.Keyword.TheVariants as keyword
use Rattle.sql_grammar.specs.Readers as terminal
use Rattle.sql_grammar.specs.Parse.{and_literal, or_conjunction, operand_parens, inner_parens}
use Rattle.sql_grammar.proofs.Interface.{Goes}
use Rattle.sql_expressions.proofs.conditions.+condition.Given as goal

abbrev pub decreases-parenthesised : goal.decreases-parenthesised
decreases-parenthesised l = 20 * l.depth + 0

abbrev pub decreases-first : goal.decreases-first
decreases-first l = 20 * l.depth + 1

abbrev pub decreases-predicate : goal.decreases-predicate
decreases-predicate l = 20 * l.depth + 2

abbrev pub decreases-asked : goal.decreases-asked
decreases-asked l = 20 * l.depth + 3

abbrev pub decreases-literal : goal.decreases-literal
decreases-literal l = 20 * l.depth + 4

abbrev pub decreases-first_literal : goal.decreases-first_literal
decreases-first_literal l = 20 * l.depth + 5

abbrev pub decreases-and_literal : goal.decreases-and_literal
decreases-and_literal l = 20 * l.depth + 6

abbrev pub decreases-and_literals : goal.decreases-and_literals
decreases-and_literals l = 20 * l.depth + 7

abbrev pub decreases-all_from : goal.decreases-all_from
decreases-all_from l = 20 * l.depth + 8

abbrev pub decreases-any_from : goal.decreases-any_from
decreases-any_from l = 20 * l.depth + 12

abbrev pub decreases-conjunction : goal.decreases-conjunction
decreases-conjunction l = 20 * l.depth + 9

abbrev pub decreases-or_conjunction : goal.decreases-or_conjunction
decreases-or_conjunction l = 20 * l.depth + 10

abbrev pub decreases-or_conjunctions : goal.decreases-or_conjunctions
decreases-or_conjunctions l = 20 * l.depth + 11

abbrev pub decreases-with_more : goal.decreases-with_more
decreases-with_more l = 20 * l.depth + 13

abbrev pub decreases-after_literal : goal.decreases-after_literal
decreases-after_literal l = 20 * l.depth + 14

abbrev pub decreases-inner_in : goal.decreases-inner_in
decreases-inner_in l = 20 * l.depth + 15

abbrev pub invariant-and_literals-literals : goal.invariant-and_literals-literals
invariant-and_literals-literals l =
    Goes (terminal.Word keyword.And ∷ []) (and_literal (operand_parens l.fn.depth) (inner_parens l.fn.depth)) l.fn.tokens (map condition_of l.all) l.tokens

abbrev pub decreases-and_literals-literals : goal.decreases-and_literals-literals
decreases-and_literals-literals l = length l.tokens

abbrev pub invariant-or_conjunctions-conjunctions : goal.invariant-or_conjunctions-conjunctions
invariant-or_conjunctions-conjunctions l =
    Goes (terminal.Word keyword.Or ∷ []) (or_conjunction (operand_parens l.fn.depth) (inner_parens l.fn.depth)) l.fn.tokens (map condition_of l.any) l.tokens

abbrev pub decreases-or_conjunctions-conjunctions : goal.decreases-or_conjunctions-conjunctions
decreases-or_conjunctions-conjunctions l = length l.tokens
