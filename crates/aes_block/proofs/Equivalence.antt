-- The equivalent inverse cipher is the inverse cipher.
use Rattle.std.proofs.Common.{◌≡◌, ℕ, zero, suc, ◌+◌, ◌-◌, ◌*◌, ◌%◌, ◌<◌, ◌≤◌, true, false, List, [], ◌∷◌, ◌++◌, length, map, take, slice_index, slice_set, bit_xor, refl, sym, ap, ◌∙◌, arith, nat_lt}
use Rattle.std.specs.Prelude.{nat_le}
use Rattle.std.specs.List.{range_with_len}
use Rattle.std.proofs.lemmas.Bool.Decides.{nat_tests}
use Rattle.std.proofs.lemmas.List.{length-map, map-set, take_more_set}
use Rattle.std.proofs.lemmas.List.FromFn.{get_or-map-range_with_len, map-range_with_len_more}
use Rattle.aes_block.specs.Field.{product}
use Rattle.aes_block.specs.Bytes.{AreBytes}
use Rattle.aes_block.specs.Aes.{
  IsBlock,
  IsKey,
  add_round_key,
  cell,
  column,
  decryption,
  expanded_key,
  inv_cipher,
  inv_mix_columns,
  inv_mix_polynomial,
  inv_rounds,
  inv_shift_rows,
  inv_sub_bytes,
  sum_of_four,
  word,
  word_product,
  word_sum,
}
use Rattle.aes_block.specs.Columns.{word_of, words_of}
use Rattle.aes_block.specs.Equivalent.{equivalent_cipher, equivalent_rounds, inv_key_word, inv_key_words}
use Rattle.aes_block.proofs.Blocks.{AreBytes-map, AreWords, IsBlock-inv_shift_rows, IsBlock-inv_sub_bytes, byte_at, four_joined, word_at}
use Rattle.aes_block.proofs.Inversion.{IsBlock-inv_rounds}
use Rattle.aes_block.proofs.KeyBytes.{AreWords-key_words}
use Rattle.aes_block.proofs.Linear.{product-xor}
use Rattle.aes_block.proofs.Mixing.{four_same, sum_of_four-xor}

-- ---- the product of a sum of words

products-xor : (k f g : ℕ → ℕ) → ((i : ℕ) → f i < 256) → ((i : ℕ) → g i < 256)
    → sum_of_four (λ i. product (k i) (bit_xor (f i) (g i))) ≡ bit_xor (sum_of_four (λ i. product (k i) (f i))) (sum_of_four (λ i. product (k i) (g i)))
products-xor k f g lf lg =
    rw (
      product-xor (k 0) (f 0) (g 0) (lf 0) (lg 0),
      product-xor (k 1) (f 1) (g 1) (lf 1) (lg 1),
      product-xor (k 2) (f 2) (g 2) (lf 2) (lg 2),
      product-xor (k 3) (f 3) (g 3) (lf 3) (lg 3),
    )
    (sym (sum_of_four-xor (λ i. product (k i) (f i)) (λ i. product (k i) (g i))))

word_product-sum : (a v w : List ℕ) → AreBytes v → AreBytes w
    → word_product a (word_sum v w) ≡ word_sum (word_product a v) (word_product a w)
word_product-sum a v w left right =
    let row = λ (r : ℕ). products-xor (λ i. slice_index a ((r + 4 - i) % 4)) (λ i. slice_index v i) (λ i. slice_index w i) (byte_at v left) (byte_at w right) in
    four_same _ _ _ _ _ _ _ _ (row 0) (row 1) (row 2) (row 3)

-- ---- the key words

pub inv_key_word-inner : (words : List (List ℕ)) (i : ℕ) → 4 ≤ i → i < 56 → inv_key_word words i ≡ word_product inv_mix_polynomial (word words i)
inv_key_word-inner words i low high =
    let first : nat_le 4 i ≡ true = grind (arith, nat_tests) in
    let last : nat_lt i 56 ≡ true = grind (arith, nat_tests) in
    rw (first, last) refl

pub inv_key_word-first : (words : List (List ℕ)) (i : ℕ) → i < 4 → inv_key_word words i ≡ word words i
inv_key_word-first words i low =
    let first : nat_le 4 i ≡ false = grind (arith, nat_tests) in
    rw first refl

pub inv_key_word-last : (words : List (List ℕ)) (i : ℕ) → 56 ≤ i → inv_key_word words i ≡ word words i
inv_key_word-last words i high =
    let first : nat_le 4 i ≡ true = grind (arith, nat_tests) in
    let last : nat_lt i 56 ≡ false = grind (arith, nat_tests) in
    rw (first, last) refl

inv_word : (words : List (List ℕ)) (i : ℕ) → i < 60 → word (inv_key_words words) i ≡ inv_key_word words i
unfolding inv_key_words
inv_word words i low = get_or-map-range_with_len (inv_key_word words) 0 60 i i [] low (omega arith)

-- a loop that writes them
pub inv_key_words-more : (words : List (List ℕ)) (columns : List ℕ) (i own : ℕ) → i < length columns → word_of own ≡ inv_key_word words i
    → take i (words_of columns) ≡ map (inv_key_word words) (range_with_len 0 i)
    → take (i + 1) (words_of (slice_set columns i own)) ≡ map (inv_key_word words) (range_with_len 0 (i + 1))
inv_key_words-more words columns i own low is so_far =
    let there : i < length (words_of columns) = omega (arith, length-map columns word_of) in
    rw (map-set word_of columns i own, is) (
    take_more_set (words_of columns) i (inv_key_word words i) there ∙ ap (λ (done : List (List ℕ)). done ++ inv_key_word words i ∷ []) so_far
    ∙ sym (map-range_with_len_more (inv_key_word words) 0 i i (omega arith)))

pub inv_key_words-all : (words : List (List ℕ)) → map (inv_key_word words) (range_with_len 0 60) ≡ inv_key_words words
unfolding inv_key_words
inv_key_words-all words = refl

-- ---- the rounds

-- a round key of the first or the last round
outer-added : (words : List (List ℕ)) (round : ℕ) (s : List ℕ) → ((c : ℕ) → c < 4 → word (inv_key_words words) (4 * round + c) ≡ word words (4 * round + c))
    → add_round_key (inv_key_words words) round s ≡ add_round_key words round s
unfolding add_round_key
outer-added words round s same =
    let at = λ (c : ℕ) (low : c < 4). ap (λ (w : List ℕ). word_sum (column s c) w) (same c low) in
    four_joined _ _ _ _ _ _ _ _ (at 0 (omega arith)) (at 1 (omega arith)) (at 2 (omega arith)) (at 3 (omega arith))

first-added : (words : List (List ℕ)) (s : List ℕ) → add_round_key (inv_key_words words) 0 s ≡ add_round_key words 0 s
first-added words s =
    outer-added words 0 s (λ c low. inv_word words (4 * 0 + c) (omega arith) ∙ inv_key_word-first words (4 * 0 + c) (omega arith))

last-added : (words : List (List ℕ)) (s : List ℕ) → add_round_key (inv_key_words words) 14 s ≡ add_round_key words 14 s
last-added words s =
    outer-added words 14 s (λ c low. inv_word words (4 * 14 + c) (omega arith) ∙ inv_key_word-last words (4 * 14 + c) (omega arith))

-- InvMixColumns of a state to which a round key was added
added-mixed : (words : List (List ℕ)) (round : ℕ) (s : List ℕ) → AreWords words → IsBlock s → 1 ≤ round → round < 14
    → inv_mix_columns (add_round_key words round s) ≡ add_round_key (inv_key_words words) round (inv_mix_columns s)
unfolding inv_mix_columns add_round_key
added-mixed words round s keys block low high =
    let at = λ (c : ℕ) (in_state : c < 4).
    word_product-sum inv_mix_polynomial (column s c) (word words (4 * round + c)) (AreBytes-map (λ r. cell s r c) 4 (λ r. byte_at s block.1 (r + 4 * c))) (word_at words keys (4 * round + c))
    ∙ ap (λ (w : List ℕ). word_sum (word_product inv_mix_polynomial (column s c)) w)
    (sym (inv_word words (4 * round + c) (omega arith) ∙ inv_key_word-inner words (4 * round + c) (omega arith) (omega arith))) in
    four_joined _ _ _ _ _ _ _ _ (at 0 (omega arith)) (at 1 (omega arith)) (at 2 (omega arith)) (at 3 (omega arith))

-- the bytes may be substituted before the rows are shifted
shifted-substituted : (s : List ℕ) → inv_shift_rows (inv_sub_bytes s) ≡ inv_sub_bytes (inv_shift_rows s)
unfolding inv_shift_rows inv_sub_bytes
shifted-substituted s = refl

module _ (words : List (List ℕ)) (keys : AreWords words) (block : List ℕ) (is : IsBlock block) where
  equivalent_rounds-inv_rounds : (n : ℕ) → n ≤ 13 → equivalent_rounds (inv_key_words words) block n ≡ inv_rounds words block n
  unfolding equivalent_rounds inv_rounds
  equivalent_rounds-inv_rounds zero low = last-added words block
  equivalent_rounds-inv_rounds (suc n) low =
      let state : List ℕ = inv_rounds words block n in
      let before : IsBlock (inv_rounds words block n) = IsBlock-inv_rounds words keys block is n in
      let moved : IsBlock (inv_sub_bytes (inv_shift_rows state)) = IsBlock-inv_sub_bytes (inv_shift_rows state) (IsBlock-inv_shift_rows state before) in
      ap (λ (s : List ℕ). add_round_key (inv_key_words words) (13 - n) (inv_mix_columns (inv_shift_rows (inv_sub_bytes s)))) (equivalent_rounds-inv_rounds n (omega arith))
      ∙ ap (λ (s : List ℕ). add_round_key (inv_key_words words) (13 - n) (inv_mix_columns s)) (shifted-substituted state)
      ∙ sym (added-mixed words (13 - n) (inv_sub_bytes (inv_shift_rows state)) keys moved (omega arith) (omega arith))

  equivalent_cipher-inv_cipher : equivalent_cipher (inv_key_words words) block ≡ inv_cipher words block
  unfolding equivalent_cipher inv_cipher
  equivalent_cipher-inv_cipher =
      ap (λ (s : List ℕ). add_round_key (inv_key_words words) 0 (inv_shift_rows (inv_sub_bytes s))) (equivalent_rounds-inv_rounds 13 (omega arith))
      ∙ ap (add_round_key (inv_key_words words) 0) (shifted-substituted (inv_rounds words block 13))
      ∙ first-added words (inv_sub_bytes (inv_shift_rows (inv_rounds words block 13)))

-- under every key
pub equivalent_cipher-decrypted : (key block : List ℕ) → IsKey key → IsBlock block
    → equivalent_cipher (inv_key_words (expanded_key key)) block ≡ decryption key block
unfolding decryption
equivalent_cipher-decrypted key block is_key is = equivalent_cipher-inv_cipher (expanded_key key) (AreWords-key_words key 52 is_key.1) block is
