-- The lines of the classes, one after another.
use Rattle.std.proofs.Common.{◌≡◌, ◌≤◌, ◌+◌, ℕ, zero, suc, List, [], ◌∷◌, ◌++◌, length, drop, ap, sym, ◌∙◌, append_assoc, append-nil, arith, Some}
use Rattle.std.specs.Prelude.{slice_get}
use Rattle.std.proofs.lemmas.List.{drop_all}
use Rattle.cell_counts.specs.Counts.{Counted}
use Rattle.scalar.specs.Classes.{Class}
use Rattle.tap_counts.specs.Lines.{class_lines, tally_lines}

same_item : {A : Type 0} (y x : A) → Some y ≡ Some x → y ≡ x
same_item y x e = cc

-- the item at an index is the first of those from there on
from_there : {A : Type 0} (xs : List A) (i : ℕ) (x : A) → slice_get xs i ≡ Some x → drop i xs ≡ x ∷ drop (suc i) xs
from_there [] i x e = absurd cc
from_there (y ∷ xs) zero x e = ap (λ z. z ∷ xs) (same_item y x e)
from_there (y ∷ xs) (suc i) x e = from_there xs i x e

pub line_put : (classes : List Class) (counts : List Counted) (i : ℕ) (c : Class) (n : Counted) (mid new all : List ℕ) → slice_get classes i ≡ Some c → slice_get counts i ≡ Some n
    → mid ++ tally_lines (drop i classes) (drop i counts) ≡ all → new ≡ mid ++ class_lines c n → new ++ tally_lines (drop (i + 1) classes) (drop (i + 1) counts) ≡ all
line_put classes counts i c n mid new all e f h k =
    let one : i + 1 ≡ suc i = omega arith in
    let rest = tally_lines (drop (suc i) classes) (drop (suc i) counts) in
    ap (λ m. new ++ tally_lines (drop m classes) (drop m counts)) one
    ∙ ap (λ l. l ++ rest) k
    ∙ append_assoc mid (class_lines c n) rest
    ∙ sym (ap (λ l. mid ++ tally_lines l (drop i counts)) (from_there classes i c e) ∙ ap (λ l. mid ++ tally_lines (c ∷ drop (suc i) classes) l) (from_there counts i n f))
    ∙ h

pub lines_put : (classes : List Class) (counts : List Counted) (i : ℕ) (mid all : List ℕ) → length classes ≤ i → mid ++ tally_lines (drop i classes) (drop i counts) ≡ all → mid ≡ all
lines_put classes counts i mid all e h = sym (append-nil mid) ∙ ap (λ l. mid ++ tally_lines l (drop i counts)) (sym (drop_all i classes e)) ∙ h
