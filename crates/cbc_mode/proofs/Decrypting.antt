-- what a ciphertext decrypts to
use Rattle.std.proofs.Common.{◌≡◌, ℕ, ◌%◌, ◌<◌, Bool, true, false, cond, ◌==◌, nat_lt, Option, Some, None, Ok, Err, List, length, arith, refl}
use Rattle.std.proofs.lemmas.Bool.Decides.{nat_tests}
use Rattle.std.specs.List.{concat}
use Rattle.std.specs.Option.{ok_or}
use Rattle.cbc_mode.specs.declared.CbcFault.TheVariants.{BadLength, NotPadded}
use Rattle.cbc_mode.specs.Cbc.{without_padding, cbc_decryption, blocks_of, is_whole_blocks, decrypted_cbc}

pub decrypted_cbc-bad : (key iv bytes : List ℕ) → is_whole_blocks bytes ≡ false → decrypted_cbc key iv bytes ≡ Err BadLength
unfolding decrypted_cbc
decrypted_cbc-bad key iv bytes test = rw test refl

pub decrypted_cbc-whole : (key iv bytes padded_bytes : List ℕ) → is_whole_blocks bytes ≡ true → padded_bytes ≡ concat (cbc_decryption key iv (blocks_of bytes))
    → decrypted_cbc key iv bytes ≡ ok_or (without_padding padded_bytes) NotPadded
unfolding decrypted_cbc
decrypted_cbc-whole key iv bytes padded_bytes test e = rw (test, e) refl

-- one or more whole blocks
pub record IsWhole (bytes : List ℕ) : Type 0 where
  pub there : 0 < length bytes
  pub even : length bytes % 16 ≡ 0

pub from_whole_test : (bytes : List ℕ) → is_whole_blocks bytes ≡ true → IsWhole bytes
from_whole_test bytes test = record { there = grind (arith, nat_tests); even = grind (arith, nat_tests) }

pub to_whole_test : (bytes : List ℕ) → IsWhole bytes → is_whole_blocks bytes ≡ true
to_whole_test bytes whole =
    let there : nat_lt 0 (length bytes) ≡ true = grind (arith, nat_tests) in
    let even : length bytes % 16 == 0 ≡ true = grind (arith, nat_tests) in
    rw (there, even) refl

from_ok : (whole : Bool) (plain : Option (List ℕ)) (x : List ℕ) → cond whole (ok_or plain NotPadded) (Err BadLength) ≡ Ok x → (whole ≡ true) × (plain ≡ Some x)
from_ok false plain x e = absurd cc
from_ok true None x e = absurd cc
from_ok true (Some y) x e = (refl, cc)

-- what is known of a ciphertext that decrypts
pub record IsDecrypted (key iv bytes plain : List ℕ) : Type 0 where
  pub whole : IsWhole bytes
  pub padding : without_padding (concat (cbc_decryption key iv (blocks_of bytes))) ≡ Some plain

pub decrypted_cbc-IsDecrypted : (key iv bytes plain : List ℕ) → decrypted_cbc key iv bytes ≡ Ok plain → IsDecrypted key iv bytes plain
unfolding decrypted_cbc
decrypted_cbc-IsDecrypted key iv bytes plain e =
    let parts = from_ok (is_whole_blocks bytes) (without_padding (concat (cbc_decryption key iv (blocks_of bytes)))) plain e in
    record { whole = from_whole_test bytes parts.0; padding = parts.1 }
