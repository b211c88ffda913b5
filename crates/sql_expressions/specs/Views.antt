-- The parts of the code as trees without where they lie in memory.
use Rattle.std.specs.Prelude.{ℕ, List, [], ◌∷◌, Option, Some, true, false, map}
use Rattle.sql_tree.specs.declared.operands.ColumnRef.{ColumnRef}
use Rattle.sql_tree.specs.declared.operands.Term as code_term
use Rattle.sql_tree.specs.declared.lexemes.Symbol.TheVariants as symbol
use Rattle.sql_tree.specs.Operands.{operand_of}
use Rattle.sql_tree.specs.Conditions.{condition_of}
use Rattle.sql_tree.specs.declared.lexemes.Token.{Token}
use Rattle.sql_tree.specs.Statements.{Operand, Condition}
use Rattle.sql_grammar.specs.Readers.{Terminal, Reading, made}
use Rattle.sql_grammar.specs.Readers as terminal
use Rattle.sql_grammar.specs.Making as make
use Rattle.sql_grammar.specs.Making.{Signed, Inner, Asks}
use Rattle.sql_grammar.specs.Parse.{and_literals, or_conjunctions}
use Rattle.sql_expressions.specs.declared.conditions.Test as code_test
use Rattle.sql_expressions.specs.declared.conditions.Inner as code_inner

abbrev pub signs : List Terminal
signs = terminal.Sign symbol.Plus ∷ terminal.Sign symbol.Minus ∷ []

abbrev pub signed_of : code_term.Term ColumnRef (List ℕ) → Signed
signed_of (code_term.Plus at operand) = ((false, at), operand_of operand)
signed_of (code_term.Minus at operand) = ((true, at), operand_of operand)

abbrev pub test_of : code_test.Test → make.Test
test_of (code_test.TheVariants.Compared at comparison right) = make.Compared at comparison (operand_of right)
test_of (code_test.TheVariants.IsNull negated) = make.IsNull negated
test_of (code_test.TheVariants.IsIn at negated list) = make.IsIn at negated (map operand_of list.items)

abbrev pub inner_of : code_inner.Inner → make.Inner
inner_of (code_inner.TheVariants.Computes operand) = make.Computes (operand_of operand)
inner_of (code_inner.TheVariants.Asks condition) = make.Asks (condition_of condition)

-- a token is somewhere
abbrev pub at_offset : Token → Option ℕ
at_offset t = Some t.at

-- a literal with those after it
abbrev pub all_from : Reading Operand → Reading Inner → Condition → Reading Condition
all_from r q first = made (λ more. Some (make.all_with first more)) (and_literals r q)

-- a conjunction with those after it
abbrev pub any_from : Reading Operand → Reading Inner → Condition → Reading Inner
any_from r q first = made (λ more. Some (Asks (make.any_with first more))) (or_conjunctions r q)
