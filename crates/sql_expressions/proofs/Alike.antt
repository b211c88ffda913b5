-- Readings that read the same.
use Rattle.std.proofs.Common.{◌≡◌, ℕ, Bool, true, false, List, Option, Some, None, Result, refl, sym, subst}
use Rattle.ae_base.specs.declared.faults.SqlFault.{SqlFault}
use Rattle.ae_base.specs.declared.refusals.Refusal.{Refusal}
use Rattle.sql_tree.specs.declared.lexemes.Keyword.{Keyword}
use Rattle.sql_tree.specs.declared.lexemes.Token.{Token}
use Rattle.sql_grammar.specs.Readers.{Reading, both, made, choice_by}
use Rattle.sql_grammar.specs.Making as make
use Rattle.sql_grammar.specs.Parse.{word}
use Rattle.sql_expressions.specs.Reads.{Gives}

-- what is given of a reading is given of one that reads the same
pub same_gives : {X Y : Type 0} (view : X → Y) (result : Result X (Refusal SqlFault)) (rest : List Token) (one other : Option (Y × List Token)) → one ≡ other
    → Gives view result rest other → Gives view result rest one
same_gives view result rest one other e g = subst (λ read. Gives view result rest read) (sym e) g

pub here : {A : Type 0} (test : List Token → Bool) (r s : Reading A) (tokens : List Token) → test tokens ≡ true → choice_by test r s tokens ≡ r tokens
here test r s tokens h = rw h refl

pub away : {A : Type 0} (test : List Token → Bool) (r s : Reading A) (tokens : List Token) → test tokens ≡ false → choice_by test r s tokens ≡ s tokens
away test r s tokens h = rw h refl

abbrev placed : ℕ → Reading ℕ
placed at tokens = Some (at, tokens)

abbrev fixed : {A : Type 0} → Option (A × List Token) → Reading A
fixed read tokens = read

unpaired : {A : Type 0} (at : ℕ) (rest : List Token) (read : Option (A × List Token)) → made make.behind (both (placed at) (fixed read)) rest ≡ read
unpaired at rest None = refl
unpaired at rest (Some r) = refl

pub behind : {A : Type 0} (k : Keyword) (r : Reading A) (tokens rest : List Token) (at : ℕ) → word k tokens ≡ Some (at, rest) → made make.behind (both (word k) r) tokens ≡ r rest
behind k r tokens rest at e = rw e (unpaired at rest (r rest))
