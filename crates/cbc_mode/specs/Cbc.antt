-- Cipher block chaining (SP 800-38A, section 6.2) with AES-256, and the padding of RFC 5652.
use Rattle.std.specs.Prelude.{
  ◌≡◌,
  ℕ,
  ◌-◌,
  ◌/◌,
  ◌%◌,
  ◌&&◌,
  ◌==◌,
  ◌≢◌,
  ◌⊎◌,
  Bool,
  nat_lt,
  nat_le,
  if◌then◌else◌,
  List,
  [],
  ◌∷◌,
  ◌++◌,
  length,
  take,
  drop,
  replicate,
  slice_index,
  Option,
  Some,
  None,
  Result,
  Ok,
  Err,
}
use Rattle.std.specs.Global.{Vec}
use Rattle.std.specs.List.{All, concat, list_all}
use Rattle.std.specs.Option.{ok_or}
use Rattle.std.specs.Simd.{first_chunks}
use Rattle.aes_block.specs.Aes.{encryption, decryption}
use Rattle.aes_block.specs.Bytes.{bytes_xor}
use Rattle.cbc_mode.specs.declared.CbcFault.{CbcFault}
use Rattle.cbc_mode.specs.declared.CbcFault.TheVariants.{BadLength, NotPadded, OutOfMemory}

-- the whole blocks of 16 bytes that bytes begin with, in order
abbrev pub blocks_of : List ℕ → List (List ℕ)
blocks_of bytes = first_chunks 16 (length bytes / 16) bytes

-- RFC 5652 section 6.3: 1 to 16 bytes are added, up to whole blocks, and each of them is their number
abbrev pub with_padding : List ℕ → List ℕ
with_padding bytes = let count = 16 - length bytes % 16 in bytes ++ replicate count count

-- RFC 5652 section 6.3: the bytes before the padding. None where the last byte is not 1 to 16, or as many
-- bytes at the end are not all that byte
abbrev pub without_padding : List ℕ → Option (List ℕ)
without_padding bytes =
    let count = slice_index bytes (length bytes - 1) in
    let kept = length bytes - count in
    if nat_le 1 count && nat_le count 16 && list_all (λ byte. byte == count) (drop kept bytes)
    then Some (take kept bytes)
    else None

-- SP 800-38A section 6.2, encryption: each block goes into the ciphertext block before it by exclusive or,
-- the first into the initialization vector, and is encrypted
abbrev pub cbc_encryption : List ℕ → List ℕ → List (List ℕ) → List (List ℕ)
cbc_encryption key previous [] = []
cbc_encryption key previous (block ∷ blocks) =
    let cipher_block = encryption key (bytes_xor block previous) in
    cipher_block ∷ cbc_encryption key cipher_block blocks

-- SP 800-38A section 6.2, decryption: each block is decrypted, and goes into the ciphertext block before it
-- by exclusive or, the first into the initialization vector
abbrev pub cbc_decryption : List ℕ → List ℕ → List (List ℕ) → List (List ℕ)
cbc_decryption key previous [] = []
cbc_decryption key previous (block ∷ blocks) = bytes_xor (decryption key block) previous ∷ cbc_decryption key block blocks

-- encrypting gives each of the blocks back where it is decrypted
abbrev pub AreUndone : List ℕ → List (List ℕ) → Type 0
AreUndone key blocks = All (λ block. encryption key (decryption key block) ≡ block) blocks

-- the bytes that blocks decrypt to were put at the end of the old bytes, and the last is the block that goes into the
-- one after them: so whatever blocks come next
abbrev pub Unchains : List ℕ → List ℕ → List (List ℕ) → List ℕ → List ℕ → List ℕ → Type 0
Unchains key previous blocks last old new =
    (more : List (List ℕ)) → old ++ concat (cbc_decryption key previous (blocks ++ more)) ≡ new ++ concat (cbc_decryption key last more)

-- the ciphertext of bytes under a key and an initialization vector
unfoldable pub cbc : List ℕ → List ℕ → List ℕ → List ℕ
cbc key iv bytes = concat (cbc_encryption key iv (blocks_of (with_padding bytes)))

-- one or more blocks, and nothing beside them
abbrev pub is_whole_blocks : List ℕ → Bool
is_whole_blocks bytes = nat_lt 0 (length bytes) && length bytes % 16 == 0

-- the other lengths
abbrev pub IsBadLength : List ℕ → Type 0
IsBadLength bytes = (length bytes ≡ 0) ⊎ (length bytes % 16 ≢ 0)

-- what a ciphertext decrypts to, or the first fault
unfoldable pub decrypted_cbc : List ℕ → List ℕ → List ℕ → Result (List ℕ) CbcFault
decrypted_cbc key iv bytes =
    if is_whole_blocks bytes
    then ok_or (without_padding (concat (cbc_decryption key iv (blocks_of bytes)))) NotPadded
    else Err BadLength

-- a call answers what the ciphertext decrypts to; out of memory says nothing of it
abbrev pub DecryptsTo : Result (Vec ℕ) CbcFault → Result (List ℕ) CbcFault → Type 0
DecryptsTo (Ok plaintext) answer = answer ≡ Ok plaintext.items
DecryptsTo (Err BadLength) answer = answer ≡ Err BadLength
DecryptsTo (Err NotPadded) answer = answer ≡ Err NotPadded
DecryptsTo (Err OutOfMemory) answer = Unit {0}
