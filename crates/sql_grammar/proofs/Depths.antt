-- Readers at any depth have a token at least.
use Rattle.std.proofs.Common.{◌≡◌, ℕ, zero, suc, false, [], ◌∷◌, refl}
use Rattle.sql_tree.specs.declared.lexemes.Keyword.TheVariants as keyword
use Rattle.sql_tree.specs.declared.lexemes.Symbol.TheVariants as symbol
use Rattle.sql_tree.specs.Statements.{Operand, Condition}
use Rattle.sql_grammar.specs.Readers as terminal
use Rattle.sql_grammar.specs.Shortening.{Shortens}
use Rattle.sql_grammar.specs.Spelling.{Spelling}
use Rattle.sql_grammar.specs.Making as make
use Rattle.sql_grammar.specs.Making.{Inner}
use Rattle.sql_grammar.specs.Grammar.{InParens, Nowhere, SpellsOperandIn, SpellsConditionIn}
use Rattle.sql_grammar.specs.Parse.{operand_parens, inner_parens, signed, and_literal, or_conjunction}
use Rattle.sql_grammar.proofs.Agreement.{Agrees, both_agrees, made_agrees}
use Rattle.sql_grammar.proofs.Pieces.{word_agrees, in_parens_agrees}
use Rattle.sql_grammar.proofs.Operands.{nowhere_agrees, signed_agrees, operand_in_agrees}
use Rattle.sql_grammar.proofs.Conditions.{Between, SpellsInner, inner_in_agrees, parens_between, nowhere_between, literal_agrees, conjunction_agrees}
use Rattle.sql_grammar.proofs.Going.{shortens}

abbrev OperandParens : ℕ → Spelling Operand
OperandParens zero = Nowhere
OperandParens (suc depth) = InParens (SpellsOperandIn depth)

abbrev ConditionParens : ℕ → Spelling Condition
ConditionParens zero = Nowhere
ConditionParens (suc depth) = InParens (SpellsConditionIn depth)

abbrev InnerParens : ℕ → Spelling Inner
InnerParens zero = Nowhere
InnerParens (suc depth) = InParens (SpellsInner depth)

operand_parens_agrees : (depth : ℕ) → Agrees (terminal.Sign symbol.Open ∷ []) false [] (operand_parens depth) (OperandParens depth)
operand_parens_agrees zero = nowhere_agrees
operand_parens_agrees (suc depth) = in_parens_agrees (operand_in_agrees depth) refl refl

inner_parens_agrees : (depth : ℕ) → Agrees (terminal.Sign symbol.Open ∷ []) false [] (inner_parens depth) (InnerParens depth)
inner_parens_agrees zero = nowhere_agrees
inner_parens_agrees (suc depth) = in_parens_agrees (inner_in_agrees depth) refl refl

between : (depth : ℕ) → Between (OperandParens depth) (ConditionParens depth) (InnerParens depth)
between zero = nowhere_between
between (suc depth) = parens_between depth

pub signed_shortens : (depth : ℕ) → Shortens (signed (operand_parens depth))
signed_shortens depth = shortens (signed_agrees (operand_parens_agrees depth))

pub and_shortens : (depth : ℕ) → Shortens (and_literal (operand_parens depth) (inner_parens depth))
and_shortens depth = shortens
    (made_agrees make.behind (both_agrees (word_agrees keyword.And) (literal_agrees (ConditionParens depth) (between depth) (operand_parens_agrees depth) (inner_parens_agrees depth)) refl))

pub or_shortens : (depth : ℕ) → Shortens (or_conjunction (operand_parens depth) (inner_parens depth))
or_shortens depth = shortens
    (made_agrees make.behind (both_agrees (word_agrees keyword.Or) (conjunction_agrees (ConditionParens depth) (between depth) (operand_parens_agrees depth) (inner_parens_agrees depth)) refl))
