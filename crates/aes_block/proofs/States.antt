-- States of four columns.
use Rattle.std.proofs.Common.{◌≡◌, ℕ, ◌+◌, ◌*◌, ◌%◌, ◌/◌, ◌<◌, List, [], ◌∷◌, length, map, slice_index, bit_xor, refl, sym, ap, ◌∙◌, arith}
use Rattle.std.proofs.lemmas.List.{get_or-map, get_or_default, length-map, same_lists}
use Rattle.std.proofs.lemmas.List.FromFn.{fill_by_all}
use Rattle.std.proofs.lemmas.Nat.{mod_below}
use Rattle.aes_block.specs.Aes.{
  add_round_key,
  inv_mix_columns,
  inv_mix_polynomial,
  inv_shift_rows,
  inv_sub_byte,
  inv_sub_bytes,
  mix_columns,
  mix_polynomial,
  shift_rows,
  sub_byte,
  sub_bytes,
  word,
  word_product,
  word_sum,
}
use Rattle.aes_block.specs.Columns.{diagonal, state_of, word_of, words_of}
use Rattle.aes_block.proofs.Blocks.{four_joined}
use Rattle.aes_block.proofs.Entries.{word_of-xor, word_product-zero}
use Rattle.aes_block.proofs.Inverses.{inv_sub_byte-sub_byte}
use Rattle.aes_block.proofs.Mixing.{four_same}

-- columns s, t, u and v of a state
abbrev turned : List ℕ → ℕ → ℕ → ℕ → ℕ → List ℕ
turned state s t u v = diagonal (slice_index state s) (slice_index state t) (slice_index state u) (slice_index state v)

pub state_of-substituted : (s : List ℕ) (p q r t : ℕ)
    → word_of p ≡ map sub_byte (turned s 0 1 2 3)
    → word_of q ≡ map sub_byte (turned s 1 2 3 0)
    → word_of r ≡ map sub_byte (turned s 2 3 0 1)
    → word_of t ≡ map sub_byte (turned s 3 0 1 2)
    → state_of (p ∷ q ∷ r ∷ t ∷ []) ≡ shift_rows (sub_bytes (state_of s))
unfolding word_of state_of shift_rows sub_bytes
state_of-substituted s p q r t e f g h = four_joined _ _ _ _ _ _ _ _ e f g h

pub state_of-inv_substituted : (s : List ℕ) (p q r t : ℕ)
    → word_of p ≡ map inv_sub_byte (turned s 0 3 2 1)
    → word_of q ≡ map inv_sub_byte (turned s 1 0 3 2)
    → word_of r ≡ map inv_sub_byte (turned s 2 1 0 3)
    → word_of t ≡ map inv_sub_byte (turned s 3 2 1 0)
    → state_of (p ∷ q ∷ r ∷ t ∷ []) ≡ inv_shift_rows (inv_sub_bytes (state_of s))
unfolding word_of state_of inv_shift_rows inv_sub_bytes
state_of-inv_substituted s p q r t e f g h = four_joined _ _ _ _ _ _ _ _ e f g h

-- a block's columns
pub state_of-block : (block : List ℕ) (p q r t : ℕ) → length block ≡ 16
    → word_of p ≡ (slice_index block 0 ∷ slice_index block 1 ∷ slice_index block 2 ∷ slice_index block 3 ∷ [])
    → word_of q ≡ (slice_index block 4 ∷ slice_index block 5 ∷ slice_index block 6 ∷ slice_index block 7 ∷ [])
    → word_of r ≡ (slice_index block 8 ∷ slice_index block 9 ∷ slice_index block 10 ∷ slice_index block 11 ∷ [])
    → word_of t ≡ (slice_index block 12 ∷ slice_index block 13 ∷ slice_index block 14 ∷ slice_index block 15 ∷ [])
    → state_of (p ∷ q ∷ r ∷ t ∷ []) ≡ block
unfolding state_of
state_of-block block p q r t long e f g h =
    four_joined _ _ _ _ _ _ _ _ e f g h ∙ sym (fill_by_all (λ k. slice_index block k) block 16 0 long (λ k _. refl))

-- the word at a place
pub word-words_of : (columns : List ℕ) (i : ℕ) → i < length columns → word (words_of columns) i ≡ word_of (slice_index columns i)
word-words_of columns i low = get_or-map word_of columns i 0 [] low

added : (columns : List ℕ) (a i j : ℕ) → i ≡ j → j < length columns
    → word_of (bit_xor a (slice_index columns i)) ≡ word_sum (word_of a) (word (words_of columns) j)
added columns a i j e low =
    rw e (word_of-xor a (slice_index columns j) ∙ ap (λ (w : List ℕ). word_sum (word_of a) w) (sym (word-words_of columns j low)))

pub state_of-added : (columns s : List ℕ) (round : ℕ) → length columns ≡ 60 → round < 15
    → state_of (bit_xor (slice_index s 0) (slice_index columns (4 * round)) ∷ bit_xor (slice_index s 1) (slice_index columns (4 * round + 1))
    ∷ bit_xor (slice_index s 2) (slice_index columns (4 * round + 2)) ∷ bit_xor (slice_index s 3) (slice_index columns (4 * round + 3)) ∷ [])
    ≡ add_round_key (words_of columns) round (state_of s)
unfolding word_of state_of add_round_key
state_of-added columns s round long low =
    four_joined _ _ _ _ _ _ _ _
    (added columns (slice_index s 0) (4 * round) (4 * round + 0) (omega arith) (omega arith))
    (added columns (slice_index s 1) (4 * round + 1) (4 * round + 1) refl (omega arith))
    (added columns (slice_index s 2) (4 * round + 2) (4 * round + 2) refl (omega arith))
    (added columns (slice_index s 3) (4 * round + 3) (4 * round + 3) refl (omega arith))

-- a column to which a key word was added
keyed : (columns w : List ℕ) (n i j : ℕ) → word_of n ≡ word_sum w (word_of (slice_index columns i)) → i ≡ j → j < length columns
    → word_of n ≡ word_sum w (word (words_of columns) j)
keyed columns w n i j e at low =
    e ∙ ap (λ (k : List ℕ). word_sum w k) (ap (λ (m : ℕ). word_of (slice_index columns m)) at ∙ sym (word-words_of columns j low))

abbrev mixed_word : List ℕ → ℕ → ℕ → ℕ → ℕ → List ℕ
mixed_word s i j k l = word_product mix_polynomial (map sub_byte (turned s i j k l))

pub state_of-mixed : (columns s : List ℕ) (round p q r t : ℕ) → length columns ≡ 60 → round < 15
    → word_of p ≡ word_sum (mixed_word s 0 1 2 3) (word_of (slice_index columns (4 * round)))
    → word_of q ≡ word_sum (mixed_word s 1 2 3 0) (word_of (slice_index columns (4 * round + 1)))
    → word_of r ≡ word_sum (mixed_word s 2 3 0 1) (word_of (slice_index columns (4 * round + 2)))
    → word_of t ≡ word_sum (mixed_word s 3 0 1 2) (word_of (slice_index columns (4 * round + 3)))
    → state_of (p ∷ q ∷ r ∷ t ∷ []) ≡ add_round_key (words_of columns) round (mix_columns (shift_rows (sub_bytes (state_of s))))
unfolding word_of state_of add_round_key mix_columns shift_rows sub_bytes
state_of-mixed columns s round p q r t long low e f g h =
    four_joined _ _ _ _ _ _ _ _
    (keyed columns (mixed_word s 0 1 2 3) p (4 * round) (4 * round + 0) e (omega arith) (omega arith))
    (keyed columns (mixed_word s 1 2 3 0) q (4 * round + 1) (4 * round + 1) f (omega arith) (omega arith))
    (keyed columns (mixed_word s 2 3 0 1) r (4 * round + 2) (4 * round + 2) g (omega arith) (omega arith))
    (keyed columns (mixed_word s 3 0 1 2) t (4 * round + 3) (4 * round + 3) h (omega arith) (omega arith))

abbrev inv_mixed_word : List ℕ → ℕ → ℕ → ℕ → ℕ → List ℕ
inv_mixed_word s i j k l = word_product inv_mix_polynomial (map inv_sub_byte (turned s i j k l))

pub state_of-inv_mixed : (columns s : List ℕ) (round p q r t : ℕ) → length columns ≡ 60 → round < 15
    → word_of p ≡ word_sum (inv_mixed_word s 0 3 2 1) (word_of (slice_index columns (4 * round)))
    → word_of q ≡ word_sum (inv_mixed_word s 1 0 3 2) (word_of (slice_index columns (4 * round + 1)))
    → word_of r ≡ word_sum (inv_mixed_word s 2 1 0 3) (word_of (slice_index columns (4 * round + 2)))
    → word_of t ≡ word_sum (inv_mixed_word s 3 2 1 0) (word_of (slice_index columns (4 * round + 3)))
    → state_of (p ∷ q ∷ r ∷ t ∷ []) ≡ add_round_key (words_of columns) round (inv_mix_columns (inv_shift_rows (inv_sub_bytes (state_of s))))
unfolding word_of state_of add_round_key inv_mix_columns inv_shift_rows inv_sub_bytes
state_of-inv_mixed columns s round p q r t long low e f g h =
    four_joined _ _ _ _ _ _ _ _
    (keyed columns (inv_mixed_word s 0 3 2 1) p (4 * round) (4 * round + 0) e (omega arith) (omega arith))
    (keyed columns (inv_mixed_word s 1 0 3 2) q (4 * round + 1) (4 * round + 1) f (omega arith) (omega arith))
    (keyed columns (inv_mixed_word s 2 1 0 3) r (4 * round + 2) (4 * round + 2) g (omega arith) (omega arith))
    (keyed columns (inv_mixed_word s 3 2 1 0) t (4 * round + 3) (4 * round + 3) h (omega arith) (omega arith))

-- a word that is substituted and then restored
diagonal-restored : (w s : ℕ) → word_of s ≡ map sub_byte (diagonal w w w w) → map inv_sub_byte (diagonal s s s s) ≡ word_of w
unfolding word_of
diagonal-restored w s e =
    let at = λ (i n : ℕ). inv_sub_byte-sub_byte (n % 256) (mod_below n 256 (omega arith)) in
    four_same _ _ _ _ _ _ _ _
    (ap (λ (v : List ℕ). inv_sub_byte (slice_index v 0)) e ∙ at 0 w)
    (ap (λ (v : List ℕ). inv_sub_byte (slice_index v 1)) e ∙ at 1 (w / 256))
    (ap (λ (v : List ℕ). inv_sub_byte (slice_index v 2)) e ∙ at 2 (w / 65536))
    (ap (λ (v : List ℕ). inv_sub_byte (slice_index v 3)) e ∙ at 3 (w / 16777216))

pub inv_mixed_word-made : (w s r : ℕ) → word_of s ≡ map sub_byte (diagonal w w w w)
    → word_of r ≡ word_sum (word_product inv_mix_polynomial (map inv_sub_byte (diagonal s s s s))) (word_of 0)
    → word_of r ≡ word_product inv_mix_polynomial (word_of w)
inv_mixed_word-made w s r e made =
    made ∙ word_product-zero inv_mix_polynomial (map inv_sub_byte (diagonal s s s s))
    ∙ ap (λ (v : List ℕ). word_product inv_mix_polynomial v) (diagonal-restored w s e)

-- columns whose words are those of a list
pub words_of-all : (columns : List ℕ) (words : List (List ℕ)) → length columns ≡ length words
    → ((k : ℕ) → k < length columns → word_of (slice_index columns k) ≡ word words k) → words_of columns ≡ words
words_of-all columns words long same =
    same_lists (words_of columns) words (length-map columns word_of ∙ long)
    (λ k d low.
    let in_columns : k < length columns = omega (arith, length-map columns word_of) in
    get_or-map word_of columns k 0 d in_columns ∙ same k in_columns ∙ get_or_default words k [] d (omega arith))
