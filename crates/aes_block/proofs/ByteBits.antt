-- Bytes and their bits.
use Rattle.std.proofs.Common.{◌≡◌, ℕ, zero, suc, ◌+◌, ◌%◌, ◌<◌, List, bit_xor, refl, sym, ap, ◌∙◌, arith}
use Rattle.std.specs.Int.{bit_at}
use Rattle.std.proofs.lemmas.Nat.{xor_of_8}
use Rattle.std.proofs.lemmas.Nat.Bits.{bit_at_xor}
use Rattle.aes_block.specs.Aes.{byte_of}
use Rattle.aes_block.proofs.Computed.{same_below, SameBelow}
use Rattle.aes_block.specs.Planes.{bit}

pub bit_at-lt : (x i : ℕ) → bit_at x i < 2
bit_at-lt x i = omega arith

pub bit-lt : (lanes : List ℕ) (r c j : ℕ) → bit lanes r c j < 2
unfolding bit
bit-lt lanes r c j = omega arith

bits_below : SameBelow (λ x. byte_of (λ k. bit_at x k)) (λ x. x) 256
bits_below = refl

-- a byte is that of its bits
pub byte_of-bits : (x : ℕ) → x < 256 → byte_of (λ k. bit_at x k) ≡ x
byte_of-bits x low = same_below (λ x. byte_of (λ k. bit_at x k)) (λ x. x) 256 x bits_below low

pub byte_of-lt : (f : ℕ → ℕ) → ((k : ℕ) → f k < 2) → byte_of f < 256
byte_of-lt f low =
    let l0 = low 0 in let l1 = low 1 in let l2 = low 2 in let l3 = low 3 in
    let l4 = low 4 in let l5 = low 5 in let l6 = low 6 in let l7 = low 7 in
    omega arith

-- and has these bits
pub bit_at-byte_of : (f : ℕ → ℕ) → ((k : ℕ) → f k < 2) → (k : ℕ) → k < 8 → bit_at (byte_of f) k ≡ f k
bit_at-byte_of f low zero _ = let l0 = low 0 in omega arith
bit_at-byte_of f low (suc zero) _ = let l0 = low 0 in let l1 = low 1 in omega arith
bit_at-byte_of f low (suc (suc zero)) _ = let l0 = low 0 in let l1 = low 1 in let l2 = low 2 in omega arith
bit_at-byte_of f low (suc (suc (suc zero))) _ = let l0 = low 0 in let l1 = low 1 in let l2 = low 2 in let l3 = low 3 in omega arith
bit_at-byte_of f low (suc (suc (suc (suc zero)))) _ =
    let l0 = low 0 in let l1 = low 1 in let l2 = low 2 in let l3 = low 3 in let l4 = low 4 in omega arith
bit_at-byte_of f low (suc (suc (suc (suc (suc zero))))) _ =
    let l0 = low 0 in let l1 = low 1 in let l2 = low 2 in let l3 = low 3 in let l4 = low 4 in let l5 = low 5 in omega arith
bit_at-byte_of f low (suc (suc (suc (suc (suc (suc zero)))))) _ =
    let l0 = low 0 in let l1 = low 1 in let l2 = low 2 in let l3 = low 3 in let l4 = low 4 in let l5 = low 5 in let l6 = low 6 in omega arith
bit_at-byte_of f low (suc (suc (suc (suc (suc (suc (suc zero))))))) _ =
    let l0 = low 0 in let l1 = low 1 in let l2 = low 2 in let l3 = low 3 in
    let l4 = low 4 in let l5 = low 5 in let l6 = low 6 in let l7 = low 7 in omega arith
bit_at-byte_of f low (suc (suc (suc (suc (suc (suc (suc (suc k)))))))) h = absurd (omega arith)

-- bits that agree are of one byte
pub byte_of-same : (f g : ℕ → ℕ) → ((k : ℕ) → k < 8 → f k ≡ g k) → byte_of f ≡ byte_of g
byte_of-same f g same =
    rw (
      same 0 (omega arith),
      same 1 (omega arith),
      same 2 (omega arith),
      same 3 (omega arith),
      same 4 (omega arith),
      same 5 (omega arith),
      same 6 (omega arith),
      same 7 (omega arith),
    ) refl

-- the sums of bits are those of bytes
pub byte_of-xor : (f g : ℕ → ℕ) → ((k : ℕ) → f k < 2) → ((k : ℕ) → g k < 2)
    → byte_of (λ k. (f k + g k) % 2) ≡ bit_xor (byte_of f) (byte_of g)
byte_of-xor f g lf lg =
    byte_of-same (λ k. (f k + g k) % 2) (λ k. bit_at (bit_xor (byte_of f) (byte_of g)) k)
    (λ k h. sym (bit_at_xor (byte_of f) (byte_of g) k ∙ ap (λ n. (n + bit_at (byte_of g) k) % 2) (bit_at-byte_of f lf k h) ∙ ap (λ n. (f k + n) % 2) (bit_at-byte_of g lg k h)))
    ∙ byte_of-bits (bit_xor (byte_of f) (byte_of g)) (xor_of_8 (byte_of f) (byte_of g) (byte_of-lt f lf) (byte_of-lt g lg))
