-- Bits that are exchanged between planes.
use Rattle.std.proofs.Common.{◌≡◌, ℕ, zero, suc, ◌+◌, ◌-◌, ◌*◌, ◌/◌, ◌%◌, ◌<◌, List, [], ◌∷◌, min, refl, ap, ◌∙◌, arith}
use Rattle.std.specs.Int.{bit_at}
use Rattle.aes_block.specs.Planes.{bit, plane}
use Rattle.aes_block.specs.Exchanges.{ExchangeMask, by_one, by_two, by_four}
use Rattle.aes_block.proofs.ByteBits.{bit-lt}
use Rattle.aes_block.proofs.Computed.{same_below, SameBelow}
use Rattle.aes_block.proofs.Positions.{at_eight}

module _ (n m r c : ℕ) (low high p q t : List ℕ)
    (down : (i : ℕ) → bit p r c i ≡ bit low r c (i + n))
    (mixed : (i : ℕ) → bit q r c i ≡ (bit p r c i + bit high r c i) % 2)
    (changes : (i : ℕ) → bit t r c i ≡ min (bit q r c i) (bit_at m i)) where
  changed : (i : ℕ) → bit_at m i ≡ 1 → bit t r c i ≡ (bit low r c (i + n) + bit high r c i) % 2
  changed i on =
      let a = down i in let b = mixed i in let d = changes i in
      omega arith

  unchanged : (i : ℕ) → bit_at m i ≡ 0 → bit t r c i ≡ 0
  unchanged i off = let d = changes i in omega arith

  module _ (u s : List ℕ) (up_low : (i : ℕ) → i < n → bit u r c i ≡ 0)
      (up_high : (i : ℕ) → i + n < 8 → bit u r c (i + n) ≡ bit t r c i)
      (sum : (i : ℕ) → bit s r c i ≡ (bit low r c i + bit u r c i) % 2) where
    low-first : (i : ℕ) → i < n → bit s r c i ≡ bit low r c i
    low-first i first = let a = up_low i first in let b = sum i in let l = bit-lt low r c i in omega arith

    low-kept : (i : ℕ) → i + n < 8 → bit_at m i ≡ 0 → bit s r c (i + n) ≡ bit low r c (i + n)
    low-kept i within off =
        let a = up_high i within in let b = sum (i + n) in let d = unchanged i off in let l = bit-lt low r c (i + n) in omega arith

    low-moved : (i : ℕ) → i + n < 8 → bit_at m i ≡ 1 → bit s r c (i + n) ≡ bit high r c i
    low-moved i within on =
        let a = up_high i within in let b = sum (i + n) in let d = changed i on in
        let l = bit-lt low r c (i + n) in let h = bit-lt high r c i in omega arith

  module _ (s : List ℕ) (sum : (i : ℕ) → bit s r c i ≡ (bit high r c i + bit t r c i) % 2) where
    high-kept : (i : ℕ) → bit_at m i ≡ 0 → bit s r c i ≡ bit high r c i
    high-kept i off = let b = sum i in let d = unchanged i off in let h = bit-lt high r c i in omega arith

    high-moved : (i : ℕ) → bit_at m i ≡ 1 → bit s r c i ≡ bit low r c (i + n)
    high-moved i on =
        let b = sum i in let d = changed i on in
        let l = bit-lt low r c (i + n) in let h = bit-lt high r c i in omega arith

-- the exchange of both planes
pub exchanged-low : (n m r c : ℕ) (low high p q t u s : List ℕ)
    → ((i : ℕ) → bit p r c i ≡ bit low r c (i + n))
    → ((i : ℕ) → bit q r c i ≡ (bit p r c i + bit high r c i) % 2)
    → ((i : ℕ) → bit t r c i ≡ min (bit q r c i) (bit_at m i))
    → ((i : ℕ) → i < n → bit u r c i ≡ 0)
    → ((i : ℕ) → i + n < 8 → bit u r c (i + n) ≡ bit t r c i)
    → ((i : ℕ) → bit s r c i ≡ (bit low r c i + bit u r c i) % 2)
    → ExchangeMask n m
    → (i : ℕ) → i < 8 → bit s r c i ≡ bit (plane (low ∷ high ∷ []) (i / n % 2)) r c (i - i / n % 2 * n)
exchanged-low n m r c low high p q t u s down mixed changes up_low up_high sum by_one =
    let first = λ (i : ℕ) (h : i < 1). low-first 1 85 r c low high p q t down mixed changes u s up_low up_high sum i h in
    let kept = λ (i : ℕ) (h : i + 1 < 8) (e : bit_at 85 i ≡ 0). low-kept 1 85 r c low high p q t down mixed changes u s up_low up_high sum i h e in
    let moved = λ (i : ℕ) (h : i + 1 < 8) (e : bit_at 85 i ≡ 1). low-moved 1 85 r c low high p q t down mixed changes u s up_low up_high sum i h e in
    at_eight (λ i. bit s r c i ≡ bit (plane (low ∷ high ∷ []) (i / 1 % 2)) r c (i - i / 1 % 2 * 1))
    (first 0 (omega arith)) (moved 0 (omega arith) refl) (kept 1 (omega arith) refl) (moved 2 (omega arith) refl)
    (kept 3 (omega arith) refl) (moved 4 (omega arith) refl) (kept 5 (omega arith) refl) (moved 6 (omega arith) refl)
exchanged-low n m r c low high p q t u s down mixed changes up_low up_high sum by_two =
    let first = λ (i : ℕ) (h : i < 2). low-first 2 51 r c low high p q t down mixed changes u s up_low up_high sum i h in
    let kept = λ (i : ℕ) (h : i + 2 < 8) (e : bit_at 51 i ≡ 0). low-kept 2 51 r c low high p q t down mixed changes u s up_low up_high sum i h e in
    let moved = λ (i : ℕ) (h : i + 2 < 8) (e : bit_at 51 i ≡ 1). low-moved 2 51 r c low high p q t down mixed changes u s up_low up_high sum i h e in
    at_eight (λ i. bit s r c i ≡ bit (plane (low ∷ high ∷ []) (i / 2 % 2)) r c (i - i / 2 % 2 * 2))
    (first 0 (omega arith)) (first 1 (omega arith)) (moved 0 (omega arith) refl) (moved 1 (omega arith) refl)
    (kept 2 (omega arith) refl) (kept 3 (omega arith) refl) (moved 4 (omega arith) refl) (moved 5 (omega arith) refl)
exchanged-low n m r c low high p q t u s down mixed changes up_low up_high sum by_four =
    let first = λ (i : ℕ) (h : i < 4). low-first 4 15 r c low high p q t down mixed changes u s up_low up_high sum i h in
    let moved = λ (i : ℕ) (h : i + 4 < 8) (e : bit_at 15 i ≡ 1). low-moved 4 15 r c low high p q t down mixed changes u s up_low up_high sum i h e in
    at_eight (λ i. bit s r c i ≡ bit (plane (low ∷ high ∷ []) (i / 4 % 2)) r c (i - i / 4 % 2 * 4))
    (first 0 (omega arith)) (first 1 (omega arith)) (first 2 (omega arith)) (first 3 (omega arith))
    (moved 0 (omega arith) refl) (moved 1 (omega arith) refl) (moved 2 (omega arith) refl) (moved 3 (omega arith) refl)

pub exchanged-high : (n m r c : ℕ) (low high p q t s : List ℕ)
    → ((i : ℕ) → bit p r c i ≡ bit low r c (i + n))
    → ((i : ℕ) → bit q r c i ≡ (bit p r c i + bit high r c i) % 2)
    → ((i : ℕ) → bit t r c i ≡ min (bit q r c i) (bit_at m i))
    → ((i : ℕ) → bit s r c i ≡ (bit high r c i + bit t r c i) % 2)
    → ExchangeMask n m
    → (i : ℕ) → i < 8 → bit s r c i ≡ bit (plane (low ∷ high ∷ []) (i / n % 2)) r c (i - i / n % 2 * n + n)
exchanged-high n m r c low high p q t s down mixed changes sum by_one =
    let kept = high-kept 1 85 r c low high p q t down mixed changes s sum in
    let moved = high-moved 1 85 r c low high p q t down mixed changes s sum in
    at_eight (λ i. bit s r c i ≡ bit (plane (low ∷ high ∷ []) (i / 1 % 2)) r c (i - i / 1 % 2 * 1 + 1))
    (moved 0 refl) (kept 1 refl) (moved 2 refl) (kept 3 refl) (moved 4 refl) (kept 5 refl) (moved 6 refl) (kept 7 refl)
exchanged-high n m r c low high p q t s down mixed changes sum by_two =
    let kept = high-kept 2 51 r c low high p q t down mixed changes s sum in
    let moved = high-moved 2 51 r c low high p q t down mixed changes s sum in
    at_eight (λ i. bit s r c i ≡ bit (plane (low ∷ high ∷ []) (i / 2 % 2)) r c (i - i / 2 % 2 * 2 + 2))
    (moved 0 refl) (moved 1 refl) (kept 2 refl) (kept 3 refl) (moved 4 refl) (moved 5 refl) (kept 6 refl) (kept 7 refl)
exchanged-high n m r c low high p q t s down mixed changes sum by_four =
    let kept = high-kept 4 15 r c low high p q t down mixed changes s sum in
    let moved = high-moved 4 15 r c low high p q t down mixed changes s sum in
    at_eight (λ i. bit s r c i ≡ bit (plane (low ∷ high ∷ []) (i / 4 % 2)) r c (i - i / 4 % 2 * 4 + 4))
    (moved 0 refl) (moved 1 refl) (moved 2 refl) (moved 3 refl) (kept 4 refl) (kept 5 refl) (kept 6 refl) (kept 7 refl)

-- of the planes s and s + 4
of_pair : (planes : List (List ℕ)) (a e : List ℕ) (s v : ℕ) → a ≡ plane planes s → e ≡ plane planes (s + 4) → v < 2
    → plane (a ∷ e ∷ []) v ≡ plane planes (s + 4 * v)
of_pair planes a e s zero is_a is_e low = is_a ∙ ap (plane planes) (omega arith)
of_pair planes a e s (suc zero) is_a is_e low = is_e
of_pair planes a e s (suc (suc v)) is_a is_e low = absurd (omega arith)

-- what an exchange of those says of the layer
module _ (planes : List (List ℕ)) (s n r c i : ℕ) (a e out : List ℕ) (is_a : a ≡ plane planes s) (is_e : e ≡ plane planes (s + 4)) where
  of_layer : (j k : ℕ) → bit out r c i ≡ bit (plane (a ∷ e ∷ []) (i / n % 2)) r c j → j ≡ k
      → bit out r c i ≡ bit (plane planes (s + 4 * (i / n % 2))) r c k
  of_layer j k is same =
      is ∙ ap (λ (p : List ℕ). bit p r c j) (of_pair planes a e s (i / n % 2) is_a is_e (omega arith))
      ∙ ap (bit (plane planes (s + 4 * (i / n % 2))) r c) same

  pub of_layer-low : bit out r c i ≡ bit (plane (a ∷ e ∷ []) (i / n % 2)) r c (i - i / n % 2 * n)
      → bit out r c i ≡ bit (plane planes (s + 4 * (i / n % 2))) r c (i - i / n % 2 * n + 0 * n)
  of_layer-low is = of_layer (i - i / n % 2 * n) (i - i / n % 2 * n + 0 * n) is (omega arith)

  pub of_layer-high : bit out r c i ≡ bit (plane (a ∷ e ∷ []) (i / n % 2)) r c (i - i / n % 2 * n + n)
      → bit out r c i ≡ bit (plane planes (s + 4 * (i / n % 2))) r c (i - i / n % 2 * n + 1 * n)
  of_layer-high is = of_layer (i - i / n % 2 * n + n) (i - i / n % 2 * n + 1 * n) is (omega arith)

-- where bit i of plane m comes from, in a layer
abbrev plane_from : ℕ → ℕ → ℕ → ℕ
plane_from n m i = m / 2 + 4 * (i / n % 2)

abbrev bit_from : ℕ → ℕ → ℕ → ℕ
bit_from n m i = i - i / n % 2 * n + m % 2 * n

abbrev Layer : ℕ → ℕ → ℕ → List (List ℕ) → List (List ℕ) → Type 0
Layer n r c before after = (i m : ℕ) → i < 8 → m < 8 → bit (plane after m) r c i ≡ bit (plane before (plane_from n m i)) r c (bit_from n m i)

-- and in three
plane_at_first : ℕ → ℕ → ℕ
plane_at_first j k =
    let m : ℕ = plane_from 1 k j in let i : ℕ = bit_from 1 k j in
    plane_from 4 (plane_from 2 m i) (bit_from 2 m i)

bit_at_first : ℕ → ℕ → ℕ
bit_at_first j k =
    let m : ℕ = plane_from 1 k j in let i : ℕ = bit_from 1 k j in
    bit_from 4 (plane_from 2 m i) (bit_from 2 m i)

all_planes : SameBelow (λ x. plane_at_first (x / 8) (x % 8)) (λ x. x / 8) 64
unfolding plane_at_first
all_planes = refl

all_bits : SameBelow (λ x. bit_at_first (x / 8) (x % 8)) (λ x. x % 8) 64
unfolding bit_at_first
all_bits = refl

plane_at_first-is : (j k : ℕ) → j < 8 → k < 8 → plane_at_first j k ≡ j
plane_at_first-is j k low_j low_k =
    let row : (8 * j + k) / 8 ≡ j = omega arith in let place : (8 * j + k) % 8 ≡ k = omega arith in
    let same : plane_at_first ((8 * j + k) / 8) ((8 * j + k) % 8) ≡ (8 * j + k) / 8 =
    same_below (λ x. plane_at_first (x / 8) (x % 8)) (λ x. x / 8) 64 (8 * j + k) all_planes (omega arith) in
    rw (row, place) at same

bit_at_first-is : (j k : ℕ) → j < 8 → k < 8 → bit_at_first j k ≡ k
bit_at_first-is j k low_j low_k =
    let row : (8 * j + k) / 8 ≡ j = omega arith in let place : (8 * j + k) % 8 ≡ k = omega arith in
    let same : bit_at_first ((8 * j + k) / 8) ((8 * j + k) % 8) ≡ (8 * j + k) % 8 =
    same_below (λ x. bit_at_first (x / 8) (x % 8)) (λ x. x % 8) 64 (8 * j + k) all_bits (omega arith) in
    rw (row, place) at same

plane_from-lt : (n m i : ℕ) → m < 8 → plane_from n m i < 8
plane_from-lt n m i low = omega arith

bit_from-lt_1 : (m i : ℕ) → i < 8 → bit_from 1 m i < 8
bit_from-lt_1 m i low = omega arith

bit_from-lt_2 : (m i : ℕ) → i < 8 → bit_from 2 m i < 8
bit_from-lt_2 m i low = omega arith

pub three_layers : (p q s t : List (List ℕ)) (r c : ℕ) → Layer 4 r c p q → Layer 2 r c q s → Layer 1 r c s t
    → (j k : ℕ) → j < 8 → k < 8 → bit (plane t k) r c j ≡ bit (plane p j) r c k
unfolding plane_at_first bit_at_first
three_layers p q s t r c first second third j k low_j low_k =
    let m : ℕ = plane_from 1 k j in let i : ℕ = bit_from 1 k j in
    let low_m : plane_from 1 k j < 8 = plane_from-lt 1 k j low_k in let low_i : bit_from 1 k j < 8 = bit_from-lt_1 k j low_j in
    third j k low_j low_k ∙ second i m low_i low_m
    ∙ first (bit_from 2 m i) (plane_from 2 m i) (bit_from-lt_2 m i low_i) (plane_from-lt 2 m i low_m)
    ∙ ap (λ v. bit (plane p v) r c (bit_at_first j k)) (plane_at_first-is j k low_j low_k)
    ∙ ap (bit (plane p j) r c) (bit_at_first-is j k low_j low_k)
