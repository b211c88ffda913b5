-- The sums of bytes on planes, and their products by x and x^2 as moves of planes.
use Rattle.std.proofs.Common.{◌≡◌, ℕ, ◌+◌, ◌%◌, ◌<◌, List, [], ◌∷◌, length, get_or, slice_index, refl, sym, ◌∙◌, arith}
use Rattle.std.specs.Int.{bit_at}
use Rattle.aes_block.specs.Field.{times_x, partial_product, product}
use Rattle.aes_block.specs.Aes.{byte_of}
use Rattle.aes_block.specs.Planes.{bit, byte, plane}
use Rattle.aes_block.proofs.ByteBits.{bit-lt, bit_at-byte_of, byte_of-lt}
use Rattle.aes_block.proofs.Items.{item}
use Rattle.aes_block.proofs.Computed.{same_below, SameBelow}

-- ---- bytes of eight bits

byte_of-eight : (f g : ℕ → ℕ) → f 0 ≡ g 0 → f 1 ≡ g 1 → f 2 ≡ g 2 → f 3 ≡ g 3 → f 4 ≡ g 4 → f 5 ≡ g 5 → f 6 ≡ g 6 → f 7 ≡ g 7
    → byte_of f ≡ byte_of g
byte_of-eight f g e0 e1 e2 e3 e4 e5 e6 e7 = rw (e0, e1, e2, e3, e4, e5, e6, e7) refl

-- bit k of the byte in row r and column c of block j
abbrev bits_at : List (List ℕ) → ℕ → ℕ → ℕ → ℕ → ℕ
bits_at planes r c j k = bit (plane planes k) r c j

pub byte-lt : (planes : List (List ℕ)) (r c j : ℕ) → byte planes r c j < 256
unfolding byte
byte-lt planes r c j = byte_of-lt (bits_at planes r c j) (λ k. bit-lt (plane planes k) r c j)

-- the sum of two elements
pub plane-sum : (a b : List (List ℕ)) (i k r c j : ℕ) (d e s : List ℕ) → length a ≡ 8 → length b ≡ 8 → i < 8 → k < 8
    → bit s r c j ≡ (bit (get_or a i d) r c j + bit (get_or b k e) r c j) % 2
    → bit s r c j ≡ (bit (plane a i) r c j + bit (plane b k) r c j) % 2
plane-sum a b i k r c j d e s la lb li lk sum =
    sum ∙ rw (item a i 8 d la li, item b k 8 e lb lk) refl

-- bytes moved
pub byte-moved : (a : List (List ℕ)) (s0 s1 s2 s3 s4 s5 s6 s7 : List ℕ) (r c j q : ℕ)
    → bit s0 r c j ≡ bit (plane a 0) q c j
    → bit s1 r c j ≡ bit (plane a 1) q c j
    → bit s2 r c j ≡ bit (plane a 2) q c j
    → bit s3 r c j ≡ bit (plane a 3) q c j
    → bit s4 r c j ≡ bit (plane a 4) q c j
    → bit s5 r c j ≡ bit (plane a 5) q c j
    → bit s6 r c j ≡ bit (plane a 6) q c j
    → bit s7 r c j ≡ bit (plane a 7) q c j
    → byte (s0 ∷ s1 ∷ s2 ∷ s3 ∷ s4 ∷ s5 ∷ s6 ∷ s7 ∷ []) r c j ≡ byte a q c j
unfolding byte
byte-moved a s0 s1 s2 s3 s4 s5 s6 s7 r c j q e0 e1 e2 e3 e4 e5 e6 e7 =
    byte_of-eight (bits_at (s0 ∷ s1 ∷ s2 ∷ s3 ∷ s4 ∷ s5 ∷ s6 ∷ s7 ∷ []) r c j) (bits_at a q c j) e0 e1 e2 e3 e4 e5 e6 e7

-- ---- products by x and x^2

-- the bits of the product by x
abbrev double_bits : (ℕ → ℕ) → ℕ → ℕ
double_bits f = slice_index (f 7 ∷ (f 0 + f 7) % 2 ∷ f 1 ∷ (f 2 + f 7) % 2 ∷ (f 3 + f 7) % 2 ∷ f 4 ∷ f 5 ∷ f 6 ∷ [])

-- and by x^2
abbrev fourfold_bits : (ℕ → ℕ) → ℕ → ℕ
fourfold_bits f =
    slice_index (f 6 ∷ (f 6 + f 7) % 2 ∷ (f 0 + f 7) % 2 ∷ (f 1 + f 6) % 2 ∷ (f 2 + (f 6 + f 7) % 2) % 2 ∷ (f 3 + f 7) % 2 ∷ f 4 ∷ f 5 ∷ [])

doubled_below : SameBelow (λ x. byte_of (double_bits (bit_at x))) (product 2) 256
unfolding times_x partial_product product
doubled_below = refl

fourfold_below : SameBelow (λ x. byte_of (fourfold_bits (bit_at x))) (product 4) 256
unfolding times_x partial_product product
fourfold_below = refl

doubled-same : (f g : ℕ → ℕ) → ((k : ℕ) → k < 8 → f k ≡ g k) → byte_of (double_bits f) ≡ byte_of (double_bits g)
doubled-same f g same =
    rw (
      same 0 (omega arith),
      same 1 (omega arith),
      same 2 (omega arith),
      same 3 (omega arith),
      same 4 (omega arith),
      same 5 (omega arith),
      same 6 (omega arith),
      same 7 (omega arith),
    ) refl

fourfold-same : (f g : ℕ → ℕ) → ((k : ℕ) → k < 8 → f k ≡ g k) → byte_of (fourfold_bits f) ≡ byte_of (fourfold_bits g)
fourfold-same f g same =
    rw (
      same 0 (omega arith),
      same 1 (omega arith),
      same 2 (omega arith),
      same 3 (omega arith),
      same 4 (omega arith),
      same 5 (omega arith),
      same 6 (omega arith),
      same 7 (omega arith),
    ) refl

doubled-product : (f : ℕ → ℕ) → ((k : ℕ) → f k < 2) → byte_of (double_bits f) ≡ product 2 (byte_of f)
doubled-product f low =
    sym (doubled-same (bit_at (byte_of f)) f (bit_at-byte_of f low))
    ∙ same_below (λ x. byte_of (double_bits (bit_at x))) (product 2) 256 (byte_of f) doubled_below (byte_of-lt f low)

fourfold-product : (f : ℕ → ℕ) → ((k : ℕ) → f k < 2) → byte_of (fourfold_bits f) ≡ product 4 (byte_of f)
fourfold-product f low =
    sym (fourfold-same (bit_at (byte_of f)) f (bit_at-byte_of f low))
    ∙ same_below (λ x. byte_of (fourfold_bits (bit_at x))) (product 4) 256 (byte_of f) fourfold_below (byte_of-lt f low)

pub byte-doubled : (a : List (List ℕ)) (s0 s1 s2 s3 s4 s5 s6 s7 : List ℕ) (r c j : ℕ)
    → bit s0 r c j ≡ bit (plane a 7) r c j
    → bit s1 r c j ≡ (bit (plane a 0) r c j + bit (plane a 7) r c j) % 2
    → bit s2 r c j ≡ bit (plane a 1) r c j
    → bit s3 r c j ≡ (bit (plane a 2) r c j + bit (plane a 7) r c j) % 2
    → bit s4 r c j ≡ (bit (plane a 3) r c j + bit (plane a 7) r c j) % 2
    → bit s5 r c j ≡ bit (plane a 4) r c j
    → bit s6 r c j ≡ bit (plane a 5) r c j
    → bit s7 r c j ≡ bit (plane a 6) r c j
    → byte (s0 ∷ s1 ∷ s2 ∷ s3 ∷ s4 ∷ s5 ∷ s6 ∷ s7 ∷ []) r c j ≡ product 2 (byte a r c j)
unfolding byte
byte-doubled a s0 s1 s2 s3 s4 s5 s6 s7 r c j e0 e1 e2 e3 e4 e5 e6 e7 =
    byte_of-eight (bits_at (s0 ∷ s1 ∷ s2 ∷ s3 ∷ s4 ∷ s5 ∷ s6 ∷ s7 ∷ []) r c j) (double_bits (bits_at a r c j)) e0 e1 e2 e3 e4 e5 e6 e7
    ∙ doubled-product (bits_at a r c j) (λ k. bit-lt (plane a k) r c j)

pub byte-fourfold : (a : List (List ℕ)) (s0 s1 s2 s3 s4 s5 s6 s7 : List ℕ) (r c j : ℕ)
    → bit s0 r c j ≡ bit (plane a 6) r c j
    → bit s1 r c j ≡ (bit (plane a 6) r c j + bit (plane a 7) r c j) % 2
    → bit s2 r c j ≡ (bit (plane a 0) r c j + bit (plane a 7) r c j) % 2
    → bit s3 r c j ≡ (bit (plane a 1) r c j + bit (plane a 6) r c j) % 2
    → bit s4 r c j ≡ (bit (plane a 2) r c j + (bit (plane a 6) r c j + bit (plane a 7) r c j) % 2) % 2
    → bit s5 r c j ≡ (bit (plane a 3) r c j + bit (plane a 7) r c j) % 2
    → bit s6 r c j ≡ bit (plane a 4) r c j
    → bit s7 r c j ≡ bit (plane a 5) r c j
    → byte (s0 ∷ s1 ∷ s2 ∷ s3 ∷ s4 ∷ s5 ∷ s6 ∷ s7 ∷ []) r c j ≡ product 4 (byte a r c j)
unfolding byte
byte-fourfold a s0 s1 s2 s3 s4 s5 s6 s7 r c j e0 e1 e2 e3 e4 e5 e6 e7 =
    byte_of-eight (bits_at (s0 ∷ s1 ∷ s2 ∷ s3 ∷ s4 ∷ s5 ∷ s6 ∷ s7 ∷ []) r c j) (fourfold_bits (bits_at a r c j)) e0 e1 e2 e3 e4 e5 e6 e7
    ∙ fourfold-product (bits_at a r c j) (λ k. bit-lt (plane a k) r c j)
