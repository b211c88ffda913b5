-- Rows that are taken one after another.
use Rattle.std.proofs.Common.{◌≡◌, ℕ, zero, suc, ◌+◌, ◌<◌, List, [], ◌∷◌, length, drop, Some, None, refl, sym, ap, arith}
use Rattle.std.specs.Prelude.{slice_index_or}
use Rattle.std.proofs.lemmas.List.{drop-drop}
use Rattle.ae_base.specs.declared.batches.Batch.{Batch}
use Rattle.ae_base.specs.declared.values.Value.{Value}
use Rattle.wire_messages.specs.declared.columns.SentColumn.{SentColumn}
use Rattle.column_rotate.specs.Left.{first_left, first_put}
use Rattle.column_rotate.specs.Moves.{Sends, putting}
use Rattle.column_rotate.specs.Texts.{puts, replaces}
use Rattle.column_rotate.specs.declared.sent.Sent.TheVariants.{Put, Replace}

pub first_at : {A : Type 0} (xs : List A) (i : ℕ) (x : A) → i < length xs → ((d : A) → x ≡ slice_index_or xs i d) → first_left (drop i xs) ≡ Some x
first_at [] i x l h = absurd (omega (arith, l))
first_at (y ∷ ys) zero x l h = ap Some (sym (h y))
first_at (y ∷ ys) (suc i) x l h = first_at ys i x (omega (arith, l)) h

pub behind_at : {A : Type 0} (n : ℕ) (xs : List A) → drop (n + 1) xs ≡ drop 1 (drop n xs)
behind_at n xs = sym (drop-drop 1 n xs)

-- ---- the next row is put

pub none_put : (table : List ℕ) (columns : List SentColumn) (left : List (List Value)) → first_left left ≡ None → first_put table columns left ≡ None
none_put table columns [] e = refl
none_put table columns (row ∷ rows) e = absurd cc

pub row_put : (table : List ℕ) (columns : List SentColumn) (left : List (List Value)) (row : List Value) → first_left left ≡ Some row → Some (puts table columns row) ≡ first_put table columns left
row_put table columns [] row e = absurd cc
row_put table columns (r ∷ rows) row e = let s : r ≡ row = cc in ap (λ x. Some (puts table columns x)) (sym s)

pub puts_last : (old new : List ℕ) (columns : List SentColumn) (all : ℕ) (left : List (List Value))
    → first_put new columns left ≡ None → putting old new columns all left ≡ Sends (replaces old new) (Replace all)
puts_last old new columns all [] e = refl
puts_last old new columns all (row ∷ rows) e = absurd cc

pub puts_next : (old new : List ℕ) (columns : List SentColumn) (all : ℕ) (left : List (List Value)) (b : Batch) → first_put new columns left ≡ Some b
    → putting old new columns all left ≡ Sends b (Put columns all (drop 1 left))
puts_next old new columns all [] b e = absurd cc
puts_next old new columns all (row ∷ rows) b e = let s : puts new columns row ≡ b = cc in ap (λ x. Sends x (Put columns all rows)) s
