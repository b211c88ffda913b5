-- decrypting what was encrypted, and the other way round
use Rattle.std.proofs.Common.{◌≡◌, ℕ, zero, suc, ◌+◌, ◌-◌, ◌*◌, ◌/◌, ◌%◌, ◌<◌, ◌≤◌, List, [], ◌∷◌, length, take, drop, replicate, Ok, arith, ◌∙◌, sym, ap, subst, refl}
use Rattle.std.proofs.lemmas.List.{length-append, length-replicate, length-take-le, length-drop, take_at}
use Rattle.std.proofs.lemmas.List.Elements.{All-take, All-drop, All-append, All-replicate, All-same}
use Rattle.std.specs.List.{concat, AllByRecursion}
use Rattle.std.specs.Option.{ok_or}
use Rattle.std.specs.Simd.{first_chunks}
use Rattle.aes_block.specs.Aes.{encryption, decryption, IsBlock}
use Rattle.cbc_mode.specs.declared.CbcFault.TheVariants.{NotPadded}
use Rattle.aes_block.specs.Bytes.{AreBytes, bytes_xor}
use Rattle.aes_block.proofs.Interface.{length-xored, AreBytes-xored, xored-xored}
use Rattle.cbc_mode.specs.Cbc.{with_padding, cbc_encryption, cbc_decryption, blocks_of, cbc, decrypted_cbc}
use Rattle.cbc_mode.proofs.Blocks.{length-concat, concat-blocks_of, blocks_of-concat}
use Rattle.cbc_mode.proofs.Unchaining.{IsUnchained-undone}
use Rattle.cbc_mode.proofs.Padding.{unpadded-padded, padded-unpadded, cbc-unpadded}
use Rattle.cbc_mode.proofs.Decrypting.{decrypted_cbc-whole, decrypted_cbc-IsDecrypted, IsWhole, to_whole_test}

IsBlock-xored : (xs ys : List ℕ) → IsBlock xs → IsBlock ys → IsBlock (bytes_xor xs ys)
IsBlock-xored xs ys x y =
    let same = x.0 ∙ sym y.0 in
    (length-xored xs ys same ∙ x.0, AreBytes-xored xs ys same x.1 y.1)

first_chunks-are_blocks : (k : ℕ) (xs : List ℕ) → k * 16 ≤ length xs → AreBytes xs → AllByRecursion IsBlock (first_chunks 16 k xs)
first_chunks-are_blocks zero xs le bytes = tt
first_chunks-are_blocks (suc k) xs le bytes = (
  (length-take-le 16 xs (omega arith), All-take (λ (byte : ℕ). byte < 256) 16 xs bytes),
  first_chunks-are_blocks k (drop 16 xs) (omega (arith, length-drop 16 xs)) (All-drop (λ (byte : ℕ). byte < 256) 16 xs bytes),
)

pub blocks_of-are_blocks : (bytes : List ℕ) → AreBytes bytes → AllByRecursion IsBlock (blocks_of bytes)
blocks_of-are_blocks bytes all = first_chunks-are_blocks (length bytes / 16) bytes (omega arith) all

AreBytes-padded : (bytes : List ℕ) → AreBytes bytes → AreBytes (with_padding bytes)
AreBytes-padded bytes all =
    let count = 16 - length bytes % 16 in
    All-append (λ (byte : ℕ). byte < 256) bytes (replicate count count) all (All-replicate (λ (byte : ℕ). byte < 256) count count (omega arith))

AreBytes-concat : (blocks : List (List ℕ)) → AllByRecursion IsBlock blocks → AreBytes (concat blocks)
AreBytes-concat [] all = λ k d lt. absurd (omega arith)
AreBytes-concat (block ∷ blocks) all = All-append (λ (byte : ℕ). byte < 256) block (concat blocks) all.0.1 (AreBytes-concat blocks all.1)

long_blocks : (blocks : List (List ℕ)) → AllByRecursion IsBlock blocks → AllByRecursion (λ block. length block ≡ 16) blocks
long_blocks [] all = tt
long_blocks (block ∷ blocks) all = (all.0.0, long_blocks blocks all.1)

length-chained : (key previous : List ℕ) (blocks : List (List ℕ)) → length (cbc_encryption key previous blocks) ≡ length blocks
length-chained key previous [] = refl
length-chained key previous (block ∷ blocks) = ap (λ (n : ℕ). suc n) (length-chained key (encryption key (bytes_xor block previous)) blocks)

chained-are_blocks : (key previous : List ℕ) (blocks : List (List ℕ)) → ((block : List ℕ) → IsBlock block → IsBlock (encryption key block))
    → IsBlock previous → AllByRecursion IsBlock blocks → AllByRecursion IsBlock (cbc_encryption key previous blocks)
chained-are_blocks key previous [] ciphertext p all = tt
chained-are_blocks key previous (block ∷ blocks) ciphertext p all =
    let head = ciphertext (bytes_xor block previous) (IsBlock-xored block previous all.0 p) in
    (head, chained-are_blocks key (encryption key (bytes_xor block previous)) blocks ciphertext head all.1)

unchained-chained : (key previous : List ℕ) (blocks : List (List ℕ)) → ((block : List ℕ) → IsBlock block → decryption key (encryption key block) ≡ block)
    → ((block : List ℕ) → IsBlock block → IsBlock (encryption key block)) → IsBlock previous → AllByRecursion IsBlock blocks
    → cbc_decryption key previous (cbc_encryption key previous blocks) ≡ blocks
unchained-chained key previous [] decrypts ciphertext p all = refl
unchained-chained key previous (block ∷ blocks) decrypts ciphertext p all =
    let mixed = IsBlock-xored block previous all.0 p in
    let head : bytes_xor (decryption key (encryption key (bytes_xor block previous))) previous ≡ block =
    ap (λ (b : List ℕ). bytes_xor b previous) (decrypts (bytes_xor block previous) mixed) ∙ xored-xored block previous (all.0.0 ∙ sym p.0) in
    ap (λ (b : List ℕ). b ∷ cbc_decryption key (encryption key (bytes_xor block previous)) (cbc_encryption key (encryption key (bytes_xor block previous)) blocks)) head
    ∙ ap (λ (bs : List (List ℕ)). block ∷ bs) (unchained-chained key (encryption key (bytes_xor block previous)) blocks decrypts ciphertext (ciphertext (bytes_xor block previous) mixed) all.1)

-- what is known of a ciphertext
pub record IsReadBack (key iv bytes : List ℕ) : Type 0 where
  pub read_back : decrypted_cbc key iv (cbc key iv bytes) ≡ Ok bytes
  pub len : length (cbc key iv bytes) ≡ (length bytes / 16 + 1) * 16
  pub are_bytes : AreBytes (cbc key iv bytes)

pub cbc-IsReadBack : (key iv bytes : List ℕ) → ((block : List ℕ) → IsBlock block → decryption key (encryption key block) ≡ block)
    → ((block : List ℕ) → IsBlock block → IsBlock (encryption key block)) → IsBlock iv → AreBytes bytes → IsReadBack key iv bytes
unfolding cbc
cbc-IsReadBack key iv bytes decrypts ciphertext block all =
    let count = 16 - length bytes % 16 in
    let padded_len : length (with_padding bytes) ≡ length bytes + count = length-append bytes (replicate count count) ∙ ap (λ (n : ℕ). length bytes + n) (length-replicate count count) in
    let blocks = blocks_of (with_padding bytes) in
    let are_blocks = blocks_of-are_blocks (with_padding bytes) (AreBytes-padded bytes all) in
    let whole = concat-blocks_of (with_padding bytes) (omega arith) in
    let cipher_blocks = cbc_encryption key iv blocks in
    let are_cipher_blocks = chained-are_blocks key iv blocks ciphertext block are_blocks in
    let cipher_long = length-concat 16 cipher_blocks (long_blocks cipher_blocks are_cipher_blocks) in
    let blocks_long = length-concat 16 blocks (long_blocks blocks are_blocks) in
    let same_long = length-chained key iv blocks in
    let len : length (concat cipher_blocks) ≡ (length bytes / 16 + 1) * 16 = omega (arith, ap length whole) in
    let back : with_padding bytes ≡ concat (cbc_decryption key iv (blocks_of (concat cipher_blocks))) =
    sym (ap (λ (bs : List (List ℕ)). concat (cbc_decryption key iv bs)) (blocks_of-concat cipher_blocks (long_blocks cipher_blocks are_cipher_blocks))
    ∙ ap concat (unchained-chained key iv blocks decrypts ciphertext block are_blocks) ∙ whole) in
    let whole_blocks : IsWhole (concat cipher_blocks) = record { there = omega arith; even = omega arith } in
    record {
      read_back = decrypted_cbc-whole key iv (concat cipher_blocks) (with_padding bytes) (to_whole_test (concat cipher_blocks) whole_blocks) back
          ∙ ap (λ o. ok_or o NotPadded) (unpadded-padded bytes);
      len = len;
      are_bytes = AreBytes-concat cipher_blocks are_cipher_blocks;
    }

all_undone : (key : List ℕ) (blocks : List (List ℕ)) → ((block : List ℕ) → IsBlock block → encryption key (decryption key block) ≡ block)
    → AllByRecursion IsBlock blocks → AllByRecursion (λ block. encryption key (decryption key block) ≡ block) blocks
all_undone key [] encrypts all = tt
all_undone key (block ∷ blocks) encrypts all = (encrypts block all.0, all_undone key blocks encrypts all.1)

unchained-are_blocks : (key previous : List ℕ) (blocks : List (List ℕ)) → ((block : List ℕ) → IsBlock block → IsBlock (decryption key block))
    → IsBlock previous → AllByRecursion IsBlock blocks → AllByRecursion IsBlock (cbc_decryption key previous blocks)
unchained-are_blocks key previous [] plaintext p all = tt
unchained-are_blocks key previous (block ∷ blocks) plaintext p all =
    (IsBlock-xored (decryption key block) previous (plaintext block all.0) p, unchained-are_blocks key block blocks plaintext all.0 all.1)

AreBytes-from_padded : (bytes : List ℕ) → AreBytes (with_padding bytes) → AreBytes bytes
AreBytes-from_padded bytes all =
    let count = 16 - length bytes % 16 in
    All-same (λ (byte : ℕ). byte < 256) bytes (take (length bytes) (with_padding bytes)) (sym (take_at bytes (replicate count count) (length bytes) refl))
    (All-take (λ (byte : ℕ). byte < 256) (length bytes) (with_padding bytes) all)

-- what is known of bytes that a ciphertext decrypts to
pub record IsEncryptedAgain (key iv bytes plain : List ℕ) : Type 0 where
  pub encrypts : cbc key iv plain ≡ bytes
  pub are_bytes : AreBytes plain

pub decrypted_cbc-IsEncryptedAgain : (key iv bytes plain : List ℕ) → ((block : List ℕ) → IsBlock block → encryption key (decryption key block) ≡ block)
    → ((block : List ℕ) → IsBlock block → IsBlock (decryption key block)) → IsBlock iv → AreBytes bytes → decrypted_cbc key iv bytes ≡ Ok plain
    → IsEncryptedAgain key iv bytes plain
decrypted_cbc-IsEncryptedAgain key iv bytes plain encrypts plaintext block all e =
    let d = decrypted_cbc-IsDecrypted key iv bytes plain e in
    let are_blocks = blocks_of-are_blocks bytes all in
    let padded_bytes = concat (cbc_decryption key iv (blocks_of bytes)) in
    let u = IsUnchained-undone key iv bytes block.0 d.whole.even (all_undone key (blocks_of bytes) encrypts are_blocks) in
    let there = d.whole.there in
    let len = u.len in
    let whole : length padded_bytes % 16 ≡ 0 = rw len d.whole.even in
    let back = padded-unpadded padded_bytes plain whole (omega arith) d.padding in
    record {
      encrypts = cbc-unpadded key iv bytes padded_bytes plain whole (omega arith) d.padding u.undoes;
      are_bytes = AreBytes-from_padded plain
          (subst AreBytes (sym back) (AreBytes-concat (cbc_decryption key iv (blocks_of bytes)) (unchained-are_blocks key iv (blocks_of bytes) plaintext block are_blocks)));
    }
