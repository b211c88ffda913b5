-- An authentication code is 32 bytes.
use Rattle.std.proofs.Common.{◌≡◌, ℕ, zero, suc, ◌<◌, List, length, arith}
use Rattle.std.specs.Int.{w32, to_be_bytes}
use Rattle.std.specs.List.{All}
use Rattle.std.specs.Prelude.{slice_index}
use Rattle.std.proofs.lemmas.List.Elements.{All-nil, All-append, All-from_recursion}
use Rattle.sha2.specs.Sha256.{sha256, digest_bytes}
use Rattle.sha2.proofs.Facts256.{length-sha256}
use Rattle.hmac_kdf.specs.Hmac.{hmac}

digest_bytes-bytes : (h : List ℕ) (n : ℕ) → All (λ byte. byte < 256) (digest_bytes h n)
unfolding digest_bytes
digest_bytes-bytes h zero = All-nil (λ byte. byte < 256)
digest_bytes-bytes h (suc n) =
    All-append (λ byte. byte < 256) (digest_bytes h n) (to_be_bytes w32 (slice_index h n)) (digest_bytes-bytes h n)
    (All-from_recursion (λ byte. byte < 256) (to_be_bytes w32 (slice_index h n)) (omega arith, (omega arith, (omega arith, (omega arith, tt)))))

sha256-bytes : (m : List ℕ) → All (λ byte. byte < 256) (sha256 m)
unfolding sha256
sha256-bytes m = digest_bytes-bytes _ 8

pub length-hmac : (key message : List ℕ) → length (hmac key message) ≡ 32
unfolding hmac
length-hmac key message = length-sha256 _

pub bytes-hmac : (key message : List ℕ) → All (λ byte. byte < 256) (hmac key message)
unfolding hmac
bytes-hmac key message = sha256-bytes _
