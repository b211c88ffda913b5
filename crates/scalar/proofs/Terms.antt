-- The terms of a sum one by one.
use Rattle.std.proofs.Common.{◌≡◌, ℕ, zero, suc, ◌+◌, ◌<◌, List, [], ◌∷◌, length, get_or, drop, refl, ap, sym, subst, ◌∙◌, arith, Result, Ok, Err, unwrap_or, Box, Vec, Global}
use Rattle.std.proofs.lemmas.Option.{slice_get_read}
use Rattle.std.proofs.lemmas.List.{at_drop_more}
use Rattle.ae_base.specs.declared.atoms.AtomOf.{AtomOf}
use Rattle.ae_base.specs.declared.atoms.AtomOf.TheVariants.{Null}
use Rattle.sql_tree.specs.Operands as operands
use Rattle.sql_tree.specs.declared.operands.Operand as code
use Rattle.sql_tree.specs.declared.operands.Term as code_term
use Rattle.ae_base.specs.Results.{◌>>=◌}
use Rattle.scalar.specs.declared.faults.Overflow.{Overflow}
use Rattle.scalar.specs.Eval.{atom_at, number_or_null, eval, eval_terms}
use Rattle.sql_tree.specs.Listed.{terms_listed}
use Rattle.sql_tree.specs.Placed.{IsPlaced, ArePlaced}
use Rattle.sql_tree.proofs.Interface.{operand_of-Sum}

-- the terms of a sum lie within the places where the sum does
pub terms_within : (width count : ℕ) (operand : code.Operand ℕ ℕ) (first : Box (code.Operand ℕ ℕ) Global) (terms : Vec (code_term.Term ℕ ℕ) Global) (items : List (code_term.Term ℕ ℕ))
    → operand ≡ code.Sum first terms → items ≡ terms.items → IsPlaced width count (operands.operand_of operand) → ArePlaced width count (terms_listed items)
terms_within width count operand first terms items e f h =
    let g : IsPlaced width count (operands.Sum (operands.operand_of first.value) (terms_listed items)) =
    subst (IsPlaced width count) (ap operands.operand_of e ∙ operand_of-Sum first terms ∙ ap (λ x. operands.Sum (operands.operand_of first.value) (terms_listed x)) (sym f)) h in
    g.1

-- a sum is its first value and then its terms
pub sum_of_parts : (row params : List (AtomOf (List ℕ))) (operand one : code.Operand ℕ ℕ) (first : Box (code.Operand ℕ ℕ) Global)
    (terms : Vec (code_term.Term ℕ ℕ) Global) (items : List (code_term.Term ℕ ℕ))
    (sum : AtomOf (List ℕ)) → operand ≡ code.Sum first terms → one ≡ first.value → items ≡ terms.items → eval row params (operands.operand_of one) ≡ Ok sum
    → eval row params (operands.operand_of operand) ≡ eval_terms row params (number_or_null sum) (terms_listed items)
sum_of_parts row params operand one first terms items sum e f g h =
    ap (eval row params) (ap operands.operand_of e ∙ operand_of-Sum first terms)
    ∙ ap (λ x. x >>= λ a. eval_terms row params (number_or_null a) (terms_listed terms.items)) (ap (λ x. eval row params (operands.operand_of x)) (sym f) ∙ h)
    ∙ ap (λ x. eval_terms row params (number_or_null sum) (terms_listed x)) (sym g)

-- a term lies within the places where all do
within_there : (width count : ℕ) (terms : List (code_term.Term ℕ ℕ)) (i : ℕ) (default : code_term.Term ℕ ℕ) → i < length terms
    → ArePlaced width count (terms_listed terms) → ArePlaced width count (operands.term_before (get_or terms i default) operands.NoMore)
within_there width count [] i default lt h = absurd (omega arith)
within_there width count (code_term.Plus at operand ∷ terms) zero default lt h = (h.0, tt)
within_there width count (code_term.Minus at operand ∷ terms) zero default lt h = (h.0, tt)
within_there width count (code_term.Plus at operand ∷ terms) (suc i) default lt h = within_there width count terms i default (omega arith) h.1
within_there width count (code_term.Minus at operand ∷ terms) (suc i) default lt h = within_there width count terms i default (omega arith) h.1

pub term_within : (width count : ℕ) (terms : List (code_term.Term ℕ ℕ)) (i : ℕ) (term : code_term.Term ℕ ℕ) → i < length terms → term ≡ get_or terms i term
    → ArePlaced width count (terms_listed terms) → ArePlaced width count (operands.term_before term operands.NoMore)
term_within width count terms i term lt e h =
    subst (λ x. ArePlaced width count (operands.term_before x operands.NoMore)) (sym e) (within_there width count terms i term lt h)

last_then : {A B E : Type 0} (o : Result A E) (g : A → Result B E) → (o >>= g) ≡ ((o >>= λ a. Ok a) >>= g)
last_then (Err e) g = refl
last_then (Ok a) g = refl

both_then : {A B C E : Type 0} (o : Result A E) (f : A → Result B E) (g : B → Result C E) → (o >>= λ a. f a >>= g) ≡ ((o >>= λ a. f a >>= λ b. Ok b) >>= g)
both_then (Err e) f g = refl
both_then (Ok a) f g = last_then (f a) g

one_then : (row params : List (AtomOf (List ℕ))) (sum : AtomOf (List ℕ)) (term : code_term.Term ℕ ℕ) (terms : List (code_term.Term ℕ ℕ))
    → eval_terms row params sum (terms_listed (term ∷ terms)) ≡ (eval_terms row params sum (terms_listed (term ∷ [])) >>= λ next. eval_terms row params next (terms_listed terms))
one_then row params sum (code_term.Plus at operand) terms = both_then (eval row params (operands.operand_of operand)) _ _
one_then row params sum (code_term.Minus at operand) terms = both_then (eval row params (operands.operand_of operand)) _ _

term_then : (row params : List (AtomOf (List ℕ))) (sum : AtomOf (List ℕ)) (terms : List (code_term.Term ℕ ℕ)) (i : ℕ) (term : code_term.Term ℕ ℕ) → i < length terms → term ≡ get_or terms i term
    → eval_terms row params sum (terms_listed (drop i terms))
    ≡ (eval_terms row params sum (terms_listed (term ∷ [])) >>= λ next. eval_terms row params next (terms_listed (drop (i + 1) terms)))
term_then row params sum terms i term lt e =
    at_drop_more (λ left. eval_terms row params sum (terms_listed left)) terms i term lt
    ∙ ap (λ x. eval_terms row params sum (terms_listed (x ∷ drop (i + 1) terms))) (sym e)
    ∙ one_then row params sum term (drop (i + 1) terms)

-- the sum goes on with the next term
pub sum_more : (row params : List (AtomOf (List ℕ))) (whole : Result (AtomOf (List ℕ)) Overflow) (sum next : AtomOf (List ℕ)) (terms : List (code_term.Term ℕ ℕ)) (i : ℕ) (term : code_term.Term ℕ ℕ)
    → i < length terms → term ≡ get_or terms i term → whole ≡ eval_terms row params sum (terms_listed (drop i terms))
    → eval_terms row params sum (terms_listed (term ∷ [])) ≡ Ok next → whole ≡ eval_terms row params next (terms_listed (drop (i + 1) terms))
sum_more row params whole sum next terms i term lt e w h =
    w ∙ term_then row params sum terms i term lt e ∙ ap (λ x. x >>= λ next. eval_terms row params next (terms_listed (drop (i + 1) terms))) h

-- or it ends there
pub sum_fault : (row params : List (AtomOf (List ℕ))) (whole : Result (AtomOf (List ℕ)) Overflow) (sum : AtomOf (List ℕ))
    (fault : Overflow) (terms : List (code_term.Term ℕ ℕ)) (i : ℕ) (term : code_term.Term ℕ ℕ)
    → i < length terms → term ≡ get_or terms i term → whole ≡ eval_terms row params sum (terms_listed (drop i terms))
    → eval_terms row params sum (terms_listed (term ∷ [])) ≡ Err fault → whole ≡ Err fault
sum_fault row params whole sum fault terms i term lt e w h =
    w ∙ term_then row params sum terms i term lt e ∙ ap (λ x. x >>= λ next. eval_terms row params next (terms_listed (drop (i + 1) terms))) h

abbrev pub ok_atom : AtomOf (List ℕ) → Result (AtomOf (List ℕ)) Overflow
ok_atom atom = Ok atom

-- an atom that was read is the one at its place
pub atom_read : (atoms : List (AtomOf (List ℕ))) (i : ℕ) (atom : AtomOf (List ℕ)) → i < length atoms → atom ≡ get_or atoms i atom → ok_atom atom ≡ ok_atom (atom_at atoms i)
atom_read atoms i atom lt e = ap (λ x. ok_atom (unwrap_or x Null)) (sym (slice_get_read atoms (length atoms) i atom refl lt e))
