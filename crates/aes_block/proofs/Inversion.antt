-- The inverse cipher undoes the cipher, and the cipher the inverse cipher.
use Rattle.std.proofs.Common.{◌≡◌, ℕ, zero, suc, ◌+◌, ◌-◌, List, length, refl, ap, ◌∙◌, arith}
use Rattle.aes_block.specs.Aes.{
  IsBlock,
  IsKey,
  add_round_key,
  cipher,
  decryption,
  encryption,
  expanded_key,
  inv_cipher,
  inv_mix_columns,
  inv_rounds,
  inv_shift_rows,
  inv_sub_bytes,
  mix_columns,
  rounds,
  shift_rows,
  sub_bytes,
}
use Rattle.aes_block.proofs.Blocks.{
  AreWords,
  IsBlock-add_round_key,
  IsBlock-inv_mix_columns,
  IsBlock-inv_shift_rows,
  IsBlock-inv_sub_bytes,
  IsBlock-mix_columns,
  IsBlock-shift_rows,
  IsBlock-sub_bytes,
  add_round_key-twice,
  inv_mix_columns-mix_columns,
  inv_shift_rows-shift_rows,
  inv_sub_bytes-sub_bytes,
  mix_columns-inv_mix_columns,
  shift_rows-inv_shift_rows,
  sub_bytes-inv_sub_bytes,
}
use Rattle.aes_block.proofs.KeyBytes.{AreWords-key_words}

-- SubBytes and ShiftRows, and their inverses
abbrev forth : List ℕ → List ℕ
forth s = shift_rows (sub_bytes s)

abbrev back : List ℕ → List ℕ
back s = inv_sub_bytes (inv_shift_rows s)

IsBlock-forth : (s : List ℕ) → IsBlock s → IsBlock (forth s)
IsBlock-forth s block = IsBlock-shift_rows (sub_bytes s) (IsBlock-sub_bytes s block)

IsBlock-back : (s : List ℕ) → IsBlock s → IsBlock (back s)
IsBlock-back s block = IsBlock-inv_sub_bytes (inv_shift_rows s) (IsBlock-inv_shift_rows s block)

back-forth : (s : List ℕ) → IsBlock s → back (forth s) ≡ s
back-forth s block =
    ap inv_sub_bytes (inv_shift_rows-shift_rows (sub_bytes s) (IsBlock-sub_bytes s block)) ∙ inv_sub_bytes-sub_bytes s block

forth-back : (s : List ℕ) → IsBlock s → forth (back s) ≡ s
forth-back s block =
    ap shift_rows (sub_bytes-inv_sub_bytes (inv_shift_rows s) (IsBlock-inv_shift_rows s block)) ∙ shift_rows-inv_shift_rows s block

module _ (words : List (List ℕ)) (keys : AreWords words) where
  IsBlock-rounds : (block : List ℕ) → IsBlock block → (n : ℕ) → IsBlock (rounds words block n)
  unfolding rounds
  IsBlock-rounds block is zero = IsBlock-add_round_key words 0 block keys is
  IsBlock-rounds block is (suc n) =
      let before = IsBlock-rounds block is n in
      let moved = IsBlock-forth (rounds words block n) before in
      IsBlock-add_round_key words (n + 1) (mix_columns (forth (rounds words block n))) keys (IsBlock-mix_columns (forth (rounds words block n)) moved)

  pub IsBlock-inv_rounds : (block : List ℕ) → IsBlock block → (n : ℕ) → IsBlock (inv_rounds words block n)
  unfolding inv_rounds
  IsBlock-inv_rounds block is zero = IsBlock-add_round_key words 14 block keys is
  IsBlock-inv_rounds block is (suc n) =
      let before = IsBlock-inv_rounds block is n in
      let moved = IsBlock-back (inv_rounds words block n) before in
      IsBlock-inv_mix_columns (add_round_key words (13 - n) (back (inv_rounds words block n)))
      (IsBlock-add_round_key words (13 - n) (back (inv_rounds words block n)) keys moved)

  IsBlock-cipher : (block : List ℕ) → IsBlock block → IsBlock (cipher words block)
  unfolding cipher
  IsBlock-cipher block is = IsBlock-add_round_key words 14 (forth (rounds words block 13)) keys (IsBlock-forth (rounds words block 13) (IsBlock-rounds block is 13))

  IsBlock-inv_cipher : (block : List ℕ) → IsBlock block → IsBlock (inv_cipher words block)
  unfolding inv_cipher
  IsBlock-inv_cipher block is = IsBlock-add_round_key words 0 (back (inv_rounds words block 13)) keys (IsBlock-back (inv_rounds words block 13) (IsBlock-inv_rounds block is 13))

  -- the inverse cipher passes through the states of the cipher, the last first
  inv_rounds-rounds : (block : List ℕ) → IsBlock block → (n m : ℕ) → n + m ≡ 13
      → inv_rounds words (cipher words block) n ≡ forth (rounds words block m)
  unfolding rounds inv_rounds cipher
  inv_rounds-rounds block is zero m sum =
      let last : m ≡ 13 = omega arith in
      rw last (add_round_key-twice words 14 (forth (rounds words block 13)) (IsBlock-forth (rounds words block 13) (IsBlock-rounds block is 13)))
  inv_rounds-rounds block is (suc n) m sum =
      let state : List ℕ = rounds words block m in
      let mixed : List ℕ = mix_columns (forth state) in
      let moved : IsBlock (forth state) = IsBlock-forth state (IsBlock-rounds block is m) in
      let round : 13 - n ≡ m + 1 = omega arith in
      let before : inv_rounds words (cipher words block) n ≡ forth (rounds words block (suc m)) = inv_rounds-rounds block is n (suc m) (omega arith) in
      ap (λ (s : List ℕ). inv_mix_columns (add_round_key words (13 - n) (back s))) before
      ∙ ap (λ (s : List ℕ). inv_mix_columns (add_round_key words (13 - n) s)) (back-forth (rounds words block (suc m)) (IsBlock-rounds block is (suc m)))
      ∙ ap (λ (k : ℕ). inv_mix_columns (add_round_key words k (rounds words block (suc m)))) round
      ∙ ap inv_mix_columns (add_round_key-twice words (m + 1) mixed (IsBlock-mix_columns (forth state) moved))
      ∙ inv_mix_columns-mix_columns (forth state) moved

  inv_cipher-cipher : (block : List ℕ) → IsBlock block → inv_cipher words (cipher words block) ≡ block
  unfolding inv_cipher rounds
  inv_cipher-cipher block is =
      ap (λ (s : List ℕ). add_round_key words 0 (back s)) (inv_rounds-rounds block is 13 0 (omega arith))
      ∙ ap (add_round_key words 0) (back-forth (rounds words block 0) (IsBlock-rounds block is 0))
      ∙ add_round_key-twice words 0 block is

  -- the cipher passes through the states of the inverse cipher, the last first
  rounds-inv_rounds : (block : List ℕ) → IsBlock block → (n m : ℕ) → n + m ≡ 13
      → rounds words (inv_cipher words block) n ≡ back (inv_rounds words block m)
  unfolding rounds inv_rounds inv_cipher
  rounds-inv_rounds block is zero m sum =
      let last : m ≡ 13 = omega arith in
      rw last (add_round_key-twice words 0 (back (inv_rounds words block 13)) (IsBlock-back (inv_rounds words block 13) (IsBlock-inv_rounds block is 13)))
  rounds-inv_rounds block is (suc n) m sum =
      let state : List ℕ = inv_rounds words block m in
      let added : List ℕ = add_round_key words (13 - m) (back state) in
      let moved : IsBlock (back state) = IsBlock-back state (IsBlock-inv_rounds block is m) in
      let round : n + 1 ≡ 13 - m = omega arith in
      let before : rounds words (inv_cipher words block) n ≡ back (inv_rounds words block (suc m)) = rounds-inv_rounds block is n (suc m) (omega arith) in
      ap (λ (s : List ℕ). add_round_key words (n + 1) (mix_columns (forth s))) before
      ∙ ap (λ (s : List ℕ). add_round_key words (n + 1) (mix_columns s)) (forth-back (inv_rounds words block (suc m)) (IsBlock-inv_rounds block is (suc m)))
      ∙ ap (add_round_key words (n + 1)) (mix_columns-inv_mix_columns added (IsBlock-add_round_key words (13 - m) (back state) keys moved))
      ∙ ap (λ (k : ℕ). add_round_key words k added) round
      ∙ add_round_key-twice words (13 - m) (back state) moved

  cipher-inv_cipher : (block : List ℕ) → IsBlock block → cipher words (inv_cipher words block) ≡ block
  unfolding cipher inv_rounds
  cipher-inv_cipher block is =
      ap (λ (s : List ℕ). add_round_key words 14 (forth s)) (rounds-inv_rounds block is 13 0 (omega arith))
      ∙ ap (add_round_key words 14) (forth-back (inv_rounds words block 0) (IsBlock-inv_rounds block is 0))
      ∙ add_round_key-twice words 14 block is

-- ---- under every key

pub decrypted-encrypted : (key block : List ℕ) → IsKey key → IsBlock block → decryption key (encryption key block) ≡ block
unfolding encryption decryption
decrypted-encrypted key block is_key is = inv_cipher-cipher (expanded_key key) (AreWords-key_words key 52 is_key.1) block is

pub encrypted-decrypted : (key block : List ℕ) → IsKey key → IsBlock block → encryption key (decryption key block) ≡ block
unfolding encryption decryption
encrypted-decrypted key block is_key is = cipher-inv_cipher (expanded_key key) (AreWords-key_words key 52 is_key.1) block is

pub IsBlock-encrypted : (key block : List ℕ) → IsKey key → IsBlock block → IsBlock (encryption key block)
unfolding encryption
IsBlock-encrypted key block is_key is = IsBlock-cipher (expanded_key key) (AreWords-key_words key 52 is_key.1) block is

pub IsBlock-decrypted : (key block : List ℕ) → IsKey key → IsBlock block → IsBlock (decryption key block)
unfolding decryption
IsBlock-decrypted key block is_key is = IsBlock-inv_cipher (expanded_key key) (AreWords-key_words key 52 is_key.1) block is

pub length-decrypted : (key block : List ℕ) → length (decryption key block) ≡ 16
unfolding decryption inv_cipher add_round_key
length-decrypted key block = refl
