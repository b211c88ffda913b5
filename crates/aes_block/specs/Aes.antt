-- AES-256 (FIPS 197) as functions on lists of bytes. Section numbers are the standard's.
use Rattle.std.specs.Prelude.{◌≡◌, ℕ, zero, suc, ◌+◌, ◌-◌, ◌*◌, ◌/◌, ◌%◌, ◌^◌, ◌==◌, if◌then◌else◌, bit_xor, List, [], ◌∷◌, ◌++◌, length, map, take, slice_index, slice_index_or}
use Rattle.std.specs.Int.{bit_at}
use Rattle.std.specs.List.{concat, range_with_len, sum_by}
use Rattle.aes_block.specs.Bytes.{AreBytes}
use Rattle.aes_block.specs.Field.{inverse, power, product}

-- ---- blocks and keys

-- 16 bytes
abbrev pub IsBlock : List ℕ → Type 0
IsBlock block = (length block ≡ 16) × AreBytes block

-- 32 bytes
abbrev pub IsKey : List ℕ → Type 0
IsKey key = (length key ≡ 32) × AreBytes key

-- ---- the state: four rows and four columns, the block's bytes filling column after column (3.4)

-- the byte in row r and column c
abbrev pub cell : List ℕ → ℕ → ℕ → ℕ
cell state r c = slice_index state (r + 4 * c)

-- column c
abbrev pub column : List ℕ → ℕ → List ℕ
column state c = map (λ r. cell state r c) (range_with_len 0 4)

-- the state that has f c as its column c
abbrev pub from_columns : (ℕ → List ℕ) → List ℕ
from_columns f = concat (map f (range_with_len 0 4))

-- the state that has f r c in row r and column c
abbrev pub from_cells : (ℕ → ℕ → ℕ) → List ℕ
from_cells f = from_columns (λ c. map (λ r. f r c) (range_with_len 0 4))

-- ---- the transformations of the state

-- the byte that has f i as its bit i
abbrev pub byte_of : (ℕ → ℕ) → ℕ
byte_of f = sum_by (λ i. f i * 2 ^ i) (range_with_len 0 8)

-- the affine map of the S-box (5.1.1): bit i becomes the sum of bits i, i+4, i+5, i+6, i+7 and of bit i of 0x63
unfoldable pub affine : ℕ → ℕ
affine b = byte_of (λ i. (bit_at b i + bit_at b ((i + 4) % 8) + bit_at b ((i + 5) % 8) + bit_at b ((i + 6) % 8)
    + bit_at b ((i + 7) % 8) + bit_at 0x63 i) % 2)

-- the S-box (5.1.1)
unfoldable pub sub_byte : ℕ → ℕ
sub_byte b = affine (inverse b)

-- SubBytes (5.1.1)
unfoldable pub sub_bytes : List ℕ → List ℕ
sub_bytes state = from_cells (λ r c. sub_byte (cell state r c))

-- ShiftRows (5.1.2): row r turns left by r
unfoldable pub shift_rows : List ℕ → List ℕ
shift_rows state = from_cells (λ r c. cell state r ((c + r) % 4))

-- the sum of four bytes
abbrev pub sum_of_four : (ℕ → ℕ) → ℕ
sum_of_four f = bit_xor (bit_xor (bit_xor (f 0) (f 1)) (f 2)) (f 3)

-- the product of a word and the polynomial whose coefficients are a, the constant first, modulo x^4 + 1 (4.3)
abbrev pub word_product : List ℕ → List ℕ → List ℕ
word_product a w = map (λ r. sum_of_four (λ i. product (slice_index a ((r + 4 - i) % 4)) (slice_index w i))) (range_with_len 0 4)

-- {03}x^3 + {01}x^2 + {01}x + {02} (5.1.3)
abbrev pub mix_polynomial : List ℕ
mix_polynomial = 0x02 ∷ 0x01 ∷ 0x01 ∷ 0x03 ∷ []

-- MixColumns (5.1.3)
unfoldable pub mix_columns : List ℕ → List ℕ
mix_columns state = from_columns (λ c. word_product mix_polynomial (column state c))

-- the sum of two words
abbrev pub word_sum : List ℕ → List ℕ → List ℕ
word_sum v w = map (λ i. bit_xor (slice_index v i) (slice_index w i)) (range_with_len 0 4)

-- word i of a list of words
abbrev pub word : List (List ℕ) → ℕ → List ℕ
word words i = slice_index_or words i []

-- AddRoundKey (5.1.4): column c is added to word 4 * round + c of the key words
unfoldable pub add_round_key : List (List ℕ) → ℕ → List ℕ → List ℕ
add_round_key words round state = from_columns (λ c. word_sum (column state c) (word words (4 * round + c)))

-- ---- the key words (5.2)

-- word i of the key
abbrev pub key_word : List ℕ → ℕ → List ℕ
key_word key i = map (λ r. slice_index key (4 * i + r)) (range_with_len 0 4)

-- RotWord
abbrev pub rot_word : List ℕ → List ℕ
rot_word w = slice_index w 1 ∷ slice_index w 2 ∷ slice_index w 3 ∷ slice_index w 0 ∷ []

-- SubWord
abbrev pub sub_word : List ℕ → List ℕ
sub_word w = map sub_byte w

-- Rcon
abbrev pub round_constant : ℕ → List ℕ
round_constant j = power 2 (j - 1) ∷ 0 ∷ 0 ∷ 0 ∷ []

-- what word i - 1 becomes before word i - 8 is added to it
unfoldable pub changed_word : ℕ → List ℕ → List ℕ
changed_word i w =
    if i % 8 == 0 then word_sum (sub_word (rot_word w)) (round_constant (i / 8))
    else if i % 8 == 4 then sub_word w else w

-- word i, of the words before it
abbrev pub next_word : List (List ℕ) → ℕ → List ℕ
next_word words i = word_sum (word words (i - 8)) (changed_word i (word words (i - 1)))

-- the first 8 + n key words, of which the first eight are the key
unfoldable pub key_words : List ℕ → ℕ → List (List ℕ)
key_words key zero = map (key_word key) (range_with_len 0 8)
key_words key (suc n) = key_words key n ++ next_word (key_words key n) (n + 8) ∷ []

-- the 60 key words
abbrev pub expanded_key : List ℕ → List (List ℕ)
expanded_key key = key_words key 52

-- the key, which is the first eight of the key words
abbrev pub key_of : List (List ℕ) → List ℕ
key_of words = concat (take 8 words)

-- ---- the cipher and the inverse cipher

-- the state after the first addition and n rounds (5.1)
unfoldable pub rounds : List (List ℕ) → List ℕ → ℕ → List ℕ
rounds words block zero = add_round_key words 0 block
rounds words block (suc n) = add_round_key words (n + 1) (mix_columns (shift_rows (sub_bytes (rounds words block n))))

-- Cipher (5.1): thirteen rounds, and a fourteenth without MixColumns
unfoldable pub cipher : List (List ℕ) → List ℕ → List ℕ
cipher words block = add_round_key words 14 (shift_rows (sub_bytes (rounds words block 13)))

-- the block encrypted under the key
unfoldable pub encryption : List ℕ → List ℕ → List ℕ
encryption key block = cipher (expanded_key key) block

-- the inverse of the affine map: bit i becomes the sum of bits i+2, i+5, i+7 and of bit i of 0x05
unfoldable pub inv_affine : ℕ → ℕ
inv_affine b = byte_of (λ i. (bit_at b ((i + 2) % 8) + bit_at b ((i + 5) % 8) + bit_at b ((i + 7) % 8) + bit_at 0x05 i) % 2)

-- the inverse S-box (5.3.2)
unfoldable pub inv_sub_byte : ℕ → ℕ
inv_sub_byte b = inverse (inv_affine b)

-- InvSubBytes (5.3.2)
unfoldable pub inv_sub_bytes : List ℕ → List ℕ
inv_sub_bytes state = from_cells (λ r c. inv_sub_byte (cell state r c))

-- InvShiftRows (5.3.1): row r turns right by r
unfoldable pub inv_shift_rows : List ℕ → List ℕ
inv_shift_rows state = from_cells (λ r c. cell state r ((c + 4 - r) % 4))

-- {0b}x^3 + {0d}x^2 + {09}x + {0e}, the inverse of that polynomial (5.3.3)
abbrev pub inv_mix_polynomial : List ℕ
inv_mix_polynomial = 0x0e ∷ 0x09 ∷ 0x0d ∷ 0x0b ∷ []

-- InvMixColumns (5.3.3)
unfoldable pub inv_mix_columns : List ℕ → List ℕ
inv_mix_columns state = from_columns (λ c. word_product inv_mix_polynomial (column state c))

-- the state after the first addition and n rounds of the inverse cipher (5.3)
unfoldable pub inv_rounds : List (List ℕ) → List ℕ → ℕ → List ℕ
inv_rounds words block zero = add_round_key words 14 block
inv_rounds words block (suc n) = inv_mix_columns (add_round_key words (13 - n) (inv_sub_bytes (inv_shift_rows (inv_rounds words block n))))

-- InvCipher (5.3)
unfoldable pub inv_cipher : List (List ℕ) → List ℕ → List ℕ
inv_cipher words block = add_round_key words 0 (inv_sub_bytes (inv_shift_rows (inv_rounds words block 13)))

-- the block decrypted under the key
unfoldable pub decryption : List ℕ → List ℕ → List ℕ
decryption key block = inv_cipher (expanded_key key) block
