-- The key words are words of bytes, and the first eight are the key.
use Rattle.std.proofs.Common.{
  ◌≡◌,
  ℕ,
  zero,
  suc,
  ◌+◌,
  ◌-◌,
  ◌*◌,
  ◌/◌,
  ◌%◌,
  ◌<◌,
  ◌≤◌,
  ◌==◌,
  Bool,
  true,
  false,
  List,
  [],
  ◌∷◌,
  length,
  map,
  take,
  slice_index,
  slice_index_or,
  bit_xor,
  refl,
  sym,
  ap,
  ◌∙◌,
  arith,
}
use Rattle.std.specs.Prelude.{if◌then◌else◌}
use Rattle.std.specs.List.{concat, range_with_len}
use Rattle.std.proofs.lemmas.List.{length-append, take-append-le}
use Rattle.std.proofs.lemmas.List.Elements.{All-append, All-cons, All-map, All-nil}
use Rattle.std.proofs.lemmas.List.FromFn.{fill_by_all}
use Rattle.std.proofs.lemmas.Nat.{xor_lt}
use Rattle.aes_block.specs.Field.{power}
use Rattle.aes_block.specs.Aes.{changed_word, key_of, key_word, key_words, next_word, rot_word, round_constant, sub_byte, sub_word, word, word_sum}
use Rattle.aes_block.specs.Bytes.{AreBytes}
use Rattle.aes_block.proofs.Blocks.{AreBytes-map, AreWords, byte_at, word_at}
use Rattle.aes_block.proofs.Inverses.{sub_byte-lt}
use Rattle.aes_block.proofs.Linear.{power_2-lt}

AreBytes-four : (a b c d : ℕ) → a < 256 → b < 256 → c < 256 → d < 256 → AreBytes (a ∷ b ∷ c ∷ d ∷ [])
AreBytes-four a b c d e f g h =
    let is_byte : ℕ → Type 0 = λ byte. byte < 256 in
    All-cons is_byte a (b ∷ c ∷ d ∷ []) e (All-cons is_byte b (c ∷ d ∷ []) f (All-cons is_byte c (d ∷ []) g (All-cons is_byte d [] h (All-nil is_byte))))

AreBytes-word_sum : (v w : List ℕ) → AreBytes v → AreBytes w → AreBytes (word_sum v w)
AreBytes-word_sum v w left right =
    AreBytes-map (λ i. bit_xor (slice_index v i) (slice_index w i)) 4
    (λ i. xor_lt 8 (slice_index v i) (slice_index w i) (byte_at v left i) (byte_at w right i))

AreBytes-sub_word : (w : List ℕ) → AreBytes w → AreBytes (sub_word w)
AreBytes-sub_word w bytes = All-map (λ byte. byte < 256) sub_byte w (λ k d low. sub_byte-lt (slice_index_or w k d) (bytes k d low))

AreBytes-rot_word : (w : List ℕ) → AreBytes w → AreBytes (rot_word w)
AreBytes-rot_word w bytes =
    AreBytes-four (slice_index w 1) (slice_index w 2) (slice_index w 3) (slice_index w 0) (byte_at w bytes 1) (byte_at w bytes 2) (byte_at w bytes 3) (byte_at w bytes 0)

AreBytes-either : (t : Bool) (v w : List ℕ) → AreBytes v → AreBytes w → AreBytes (if t then v else w)
AreBytes-either true v w left right = left
AreBytes-either false v w left right = right

AreBytes-round_constant : (j : ℕ) → AreBytes (round_constant j)
AreBytes-round_constant j = AreBytes-four (power 2 (j - 1)) 0 0 0 (power_2-lt (j - 1)) (omega arith) (omega arith) (omega arith)

AreBytes-changed_word : (i : ℕ) (w : List ℕ) → AreBytes w → AreBytes (changed_word i w)
unfolding changed_word
AreBytes-changed_word i w bytes =
    AreBytes-either (i % 8 == 0) (word_sum (sub_word (rot_word w)) (round_constant (i / 8))) (if i % 8 == 4 then sub_word w else w)
    (AreBytes-word_sum (sub_word (rot_word w)) (round_constant (i / 8)) (AreBytes-sub_word (rot_word w) (AreBytes-rot_word w bytes)) (AreBytes-round_constant (i / 8)))
    (AreBytes-either (i % 8 == 4) (sub_word w) w (AreBytes-sub_word w bytes) bytes)

AreBytes-next_word : (words : List (List ℕ)) (i : ℕ) → AreWords words → AreBytes (next_word words i)
AreBytes-next_word words i all =
    AreBytes-word_sum (word words (i - 8)) (changed_word i (word words (i - 1)))
    (word_at words all (i - 8)) (AreBytes-changed_word i (word words (i - 1)) (word_at words all (i - 1)))

AreBytes-key_word : (key : List ℕ) (i : ℕ) → AreBytes key → AreBytes (key_word key i)
AreBytes-key_word key i bytes = AreBytes-map (λ r. slice_index key (4 * i + r)) 4 (λ r. byte_at key bytes (4 * i + r))

-- the words of a key of bytes
pub AreWords-key_words : (key : List ℕ) (n : ℕ) → AreBytes key → AreWords (key_words key n)
unfolding key_words
AreWords-key_words key zero bytes =
    All-map AreBytes (key_word key) (range_with_len 0 8) (λ k d _. AreBytes-key_word key (slice_index_or (range_with_len 0 8) k d) bytes)
AreWords-key_words key (suc n) bytes =
    let before = AreWords-key_words key n bytes in
    All-append AreBytes (key_words key n) (next_word (key_words key n) (n + 8) ∷ []) before
    (All-cons AreBytes (next_word (key_words key n) (n + 8)) [] (AreBytes-next_word (key_words key n) (n + 8) before) (All-nil AreBytes))

-- ---- the first eight words

pub length-key_words : (key : List ℕ) (n : ℕ) → length (key_words key n) ≡ n + 8
unfolding key_words
length-key_words key zero = refl
length-key_words key (suc n) =
    let before = length-key_words key n in
    let both = length-append (key_words key n) (next_word (key_words key n) (n + 8) ∷ []) in
    omega (arith, before, both)

take-key_words : (key : List ℕ) (n : ℕ) → take 8 (key_words key n) ≡ map (key_word key) (range_with_len 0 8)
unfolding key_words
take-key_words key zero = refl
take-key_words key (suc n) =
    let long : 8 ≤ length (key_words key n) = omega (arith, length-key_words key n) in
    take-append-le 8 (key_words key n) (next_word (key_words key n) (n + 8) ∷ []) long ∙ take-key_words key n

-- the key is read back from its words
pub key_of-key_words : (key : List ℕ) (n : ℕ) → length key ≡ 32 → key_of (key_words key n) ≡ key
key_of-key_words key n long =
    ap concat (take-key_words key n) ∙ sym (fill_by_all (λ k. slice_index key k) key 32 0 long (λ k _. refl))
