-- What some lists of keywords and symbols say of the next token, and readers at a depth.
use Rattle.std.proofs.Common.{◌≡◌, ℕ, zero, suc, ◌-◌, ◌≤◌, Bool, false, ◌||◌, List, [], ◌∷◌, ◌++◌, map, refl, sym, ◌∙◌, ap, arith, sub-one}
use Rattle.std.specs.List.{list_any}
use Rattle.sql_tree.specs.declared.lexemes.Keyword.{Keyword}
use Rattle.sql_tree.specs.declared.lexemes.Symbol.{Symbol}
use Rattle.sql_tree.specs.declared.lexemes.Lexeme.{Lexeme}
use Rattle.sql_tree.specs.declared.lexemes.Token.{Token}
use Rattle.sql_grammar.specs.Readers.{member, is_keyword, is_symbol}
use Rattle.sql_grammar.specs.Readers as terminal
use Rattle.sql_grammar.specs.Parse.{sum, in_parens, inner, operand_in, operand_parens, inner_in, inner_parens}
use Rattle.sql_grammar.proofs.Sets.{member-append}

word_member : (words : List Keyword) (l : Lexeme) → member (map terminal.Word words) l ≡ list_any (λ word. is_keyword word l) words
word_member [] l = refl
word_member (w ∷ words) l = ap (λ b. is_keyword w l || b) (word_member words l)

sign_member : (signs : List Symbol) (l : Lexeme) → member (map terminal.Sign signs) l ≡ list_any (λ sign. is_symbol sign l) signs
sign_member [] l = refl
sign_member (s ∷ signs) l = ap (λ b. is_symbol s l || b) (sign_member signs l)

pub any_kind : (words : List Keyword) (signs : List Symbol) (l : Lexeme)
    → member (map terminal.Word words ++ map terminal.Sign signs) l ≡ (list_any (λ word. is_keyword word l) words || list_any (λ sign. is_symbol sign l) signs)
any_kind words signs l = member-append (map terminal.Word words) (map terminal.Sign signs) l ∙ rw (word_member words l, sign_member signs l) refl

pub operand_in_is : (depth : ℕ) → operand_in depth ≡ sum (operand_parens depth)
unfolding operand_in
operand_in_is zero = refl
operand_in_is (suc depth) = refl

pub operand_parens_is : (depth : ℕ) → 1 ≤ depth → operand_parens depth ≡ in_parens (operand_in (depth - 1))
operand_parens_is zero some = absurd (omega arith)
operand_parens_is (suc depth) some = rw sub-one refl

pub inner_in_is : (depth : ℕ) → inner_in depth ≡ inner (operand_parens depth) (inner_parens depth)
unfolding inner_in
inner_in_is zero = refl
inner_in_is (suc depth) = refl

pub inner_parens_is : (depth : ℕ) → 1 ≤ depth → inner_parens depth ≡ in_parens (inner_in (depth - 1))
inner_parens_is zero some = absurd (omega arith)
inner_parens_is (suc depth) some = rw sub-one refl
