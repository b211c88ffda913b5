-- The kinds of replies, and their test.
use Rattle.std.proofs.Common.{◌≡◌, ◌↔◌, ℕ, List, [], ◌∷◌, ◌++◌, length, map, Bool, true, false, ◌&&◌, IsTrue, refl, ap, sym, ◌∙◌, subst}
use Rattle.std.specs.List.{All, list_all}
use Rattle.std.proofs.lemmas.Bool.{eqb-true, eq-eqb, and_parts, and_from}
use Rattle.std.proofs.lemmas.List.Elements.{All-nil, All-cons, All-head, All-tail}
use Rattle.ae_base.specs.declared.atoms.AtomOf.{AtomOf}
use Rattle.ae_base.specs.declared.batches.ParamDecl.{ParamDecl}
use Rattle.wire_messages.specs.declared.params.SentParam.{SentParam}
use Rattle.wire_messages.specs.declared.replies.Done.TheVariants.{Defined, Changed, Answered}
use Rattle.wire_messages.specs.declared.replies.Reply.{Reply}
use Rattle.wire_messages.specs.declared.replies.Reply.TheVariants.{Described, Columns, Row, Ended, Refused}
use Rattle.wire_messages.specs.declared.requests.Request.{Request}
use Rattle.wire_messages.specs.declared.requests.Request.TheVariants.{Describe, Execute}
use Rattle.wire_messages.specs.Exchanges.{HasKinds, Refusal, Description, Definition, Change, Rows}
use Rattle.mem_peer.specs.Tested.{describes, is_row, is_end, are_rows, executes, suits}

abbrev Atoms : Type 0
Atoms = List (AtomOf (List ℕ))

abbrev HasWidth : ℕ → Atoms → Type 0
HasWidth width row = length row ≡ width

-- ---- rows, tested from their end

and-true : (b : Bool) → b ≡ (b && true)
and-true true = refl
and-true false = refl

and-swap : (a b c : Bool) → (a && (b && c)) ≡ (b && (a && c))
and-swap true b c = refl
and-swap false true c = refl
and-swap false false c = refl

end-first : (width : ℕ) (front : List Reply) (end : Reply) → are_rows width (front ++ end ∷ []) ≡ (is_end end && list_all (is_row width) front)
end-first width [] end = and-true (is_end end)
end-first width (row ∷ []) end = ap (λ b. is_row width row && b) (and-true (is_end end)) ∙ and-swap (is_row width row) (is_end end) true
end-first width (row ∷ next ∷ front) end =
    ap (λ b. is_row width row && b) (end-first width (next ∷ front) end) ∙ and-swap (is_row width row) (is_end end) (list_all (is_row width) (next ∷ front))

module _ (width : ℕ) (all front : List Reply) (end : Reply) (e : all ≡ front ++ end ∷ []) where
  tested : are_rows width all ≡ (is_end end && list_all (is_row width) front)
  tested = ap (are_rows width) e ∙ end-first width front end

  pub rows-then : (end_is each : Bool) → end_is ≡ is_end end → end_is ≡ true → each ≡ list_all (is_row width) front → each ≡ are_rows width all
  rows-then end_is each f t k = k ∙ ap (λ b. b && list_all (is_row width) front) (sym t ∙ f) ∙ sym tested

  pub rows-else : (end_is : Bool) → end_is ≡ is_end end → end_is ≡ false → end_is ≡ are_rows width all
  rows-else end_is f t = t ∙ ap (λ b. b && list_all (is_row width) front) (sym t ∙ f) ∙ sym tested

-- ---- what is of the kinds passes

rows-pass : (width count : ℕ) (rows : List Atoms) → All (HasWidth width) rows → are_rows width (map Row rows ++ Ended (Answered count) ∷ []) ≡ true
rows-pass width count [] all = refl
rows-pass width count (row ∷ []) all = and_from _ _ (eq-eqb (length row) width (All-head (HasWidth width) row [] all)) refl
rows-pass width count (row ∷ next ∷ rows) all =
    and_from _ _ (eq-eqb (length row) width (All-head (HasWidth width) row (next ∷ rows) all)) (rows-pass width count (next ∷ rows) (All-tail (HasWidth width) row (next ∷ rows) all))

passes : (request : Request) (replies : List Reply) → HasKinds request replies → suits request replies ≡ true
passes _ _ (Refusal (Describe session text declarations) f) = refl
passes _ _ (Refusal (Execute session version text params) f) = refl
passes _ _ (Description session text declarations description) = refl
passes _ _ (Definition session version text params) = refl
passes _ _ (Change session version text params count) = refl
passes _ _ (Rows session version text params header rows count all) = rows-pass (length header.columns) count rows all

-- ---- what passes is of the kinds

record AreRows (width : ℕ) (replies : List Reply) : Type 0 where
  rows : List Atoms
  count : ℕ
  is : replies ≡ map Row rows ++ Ended (Answered count) ∷ []
  each : All (HasWidth width) rows

ended : (width : ℕ) (end : Reply) → is_end end ≡ true → AreRows width (end ∷ [])
ended width (Described description) t = absurd cc
ended width (Columns header) t = absurd cc
ended width (Row atoms) t = absurd cc
ended width (Ended Defined) t = absurd cc
ended width (Ended (Changed count)) t = absurd cc
ended width (Ended (Answered count)) t = record { rows = []; count = count; is = refl; each = All-nil (HasWidth width) }
ended width (Refused f) t = absurd cc

one-more : (width : ℕ) (row : Reply) (rest : List Reply) → is_row width row ≡ true → AreRows width rest → AreRows width (row ∷ rest)
one-more width (Described description) rest t a = absurd cc
one-more width (Columns header) rest t a = absurd cc
one-more width (Row atoms) rest t a = record {
  rows = atoms ∷ a.rows;
  count = a.count;
  is = ap (λ replies. Row atoms ∷ replies) a.is;
  each = All-cons (HasWidth width) atoms a.rows (eqb-true (length atoms) width t) a.each;
}
one-more width (Ended what) rest t a = absurd cc
one-more width (Refused f) rest t a = absurd cc

rows-are : (width : ℕ) (replies : List Reply) → are_rows width replies ≡ true → AreRows width replies
rows-are width [] t = absurd cc
rows-are width (end ∷ []) t = ended width end t
rows-are width (row ∷ next ∷ rest) t =
    let p = and_parts (is_row width row) (are_rows width (next ∷ rest)) t in
    one-more width row (next ∷ rest) p.0 (rows-are width (next ∷ rest) p.1)

describe-kinds : (session : ℕ) (text : List ℕ) (declarations : List ParamDecl) (replies : List Reply) → describes replies ≡ true
    → HasKinds (Describe session text declarations) replies
describe-kinds session text declarations [] t = absurd cc
describe-kinds session text declarations (Described description ∷ []) t = Description session text declarations description
describe-kinds session text declarations (Described description ∷ next ∷ rest) t = absurd cc
describe-kinds session text declarations (Columns header ∷ rest) t = absurd cc
describe-kinds session text declarations (Row atoms ∷ rest) t = absurd cc
describe-kinds session text declarations (Ended what ∷ rest) t = absurd cc
describe-kinds session text declarations (Refused f ∷ []) t = Refusal (Describe session text declarations) f
describe-kinds session text declarations (Refused f ∷ next ∷ rest) t = absurd cc

execute-kinds : (session version : ℕ) (text : List ℕ) (params : List SentParam) (replies : List Reply) → executes replies ≡ true
    → HasKinds (Execute session version text params) replies
execute-kinds session version text params [] t = absurd cc
execute-kinds session version text params (Described description ∷ rest) t = absurd cc
execute-kinds session version text params (Columns header ∷ rest) t =
    let a = rows-are (length header.columns) rest t in
    subst (λ rs. HasKinds (Execute session version text params) (Columns header ∷ rs)) (sym a.is) (Rows session version text params header a.rows a.count a.each)
execute-kinds session version text params (Row atoms ∷ rest) t = absurd cc
execute-kinds session version text params (Ended Defined ∷ []) t = Definition session version text params
execute-kinds session version text params (Ended Defined ∷ next ∷ rest) t = absurd cc
execute-kinds session version text params (Ended (Changed count) ∷ []) t = Change session version text params count
execute-kinds session version text params (Ended (Changed count) ∷ next ∷ rest) t = absurd cc
execute-kinds session version text params (Ended (Answered count) ∷ rest) t = absurd cc
execute-kinds session version text params (Refused f ∷ []) t = Refusal (Execute session version text params) f
execute-kinds session version text params (Refused f ∷ next ∷ rest) t = absurd cc

kinds : (request : Request) (replies : List Reply) → suits request replies ≡ true → HasKinds request replies
kinds (Describe session text declarations) replies t = describe-kinds session text declarations replies t
kinds (Execute session version text params) replies t = execute-kinds session version text params replies t

pub suits_exactly : (result : Bool) (request : Request) (replies : List Reply) → result ≡ suits request replies → IsTrue result ↔ HasKinds request replies
suits_exactly result request replies e = ((λ t. kinds request replies (sym e ∙ t)), (λ k. e ∙ passes request replies k))
