-- Exclusive or, byte by byte.
use Rattle.std.proofs.Common.{◌≡◌, ℕ, ◌+◌, ◌<◌, ◌≤◌, List, length, get_or, set, take, drop, bit_xor, arith, ◌∙◌, sym, ap, subst, refl, add-zero}
use Rattle.std.proofs.lemmas.List.{get_or-map, length-map, take_more, take_more_set, take_all, get_or-drop, length-set, drop-set-lt}
use Rattle.std.proofs.lemmas.List.Elements.{All-get_or, All-from_get_or}
use Rattle.std.proofs.lemmas.Grind.{drop_more_same, same_number_lists, common_steps}
use Rattle.std.proofs.lemmas.Nat.{xor_of_8}
use Rattle.std.proofs.lemmas.Slice.Zip.{get_or-zip, length-zip}
use Rattle.std.specs.List.{zip}
use Rattle.aes_block.specs.Bytes.{AreBytes, bytes_xor}

pub length-xored : (xs ys : List ℕ) → length xs ≡ length ys → length (bytes_xor xs ys) ≡ length xs
unfolding bytes_xor
length-xored xs ys e = length-map (zip xs ys) (λ (pair : ℕ × ℕ). bit_xor pair.0 pair.1) ∙ length-zip xs ys ∙ omega arith

pub get_or-xored : (xs ys : List ℕ) (i : ℕ) → i < length xs → i < length ys → get_or (bytes_xor xs ys) i 0 ≡ bit_xor (get_or xs i 0) (get_or ys i 0)
unfolding bytes_xor
get_or-xored xs ys i in_xs in_ys =
    let in_zip : i < length (zip xs ys) = omega (arith, length-zip xs ys) in
    get_or-map (λ (pair : ℕ × ℕ). bit_xor pair.0 pair.1) (zip xs ys) i (0, 0) 0 in_zip ∙ ap (λ (pair : ℕ × ℕ). bit_xor pair.0 pair.1) (get_or-zip xs ys i (0, 0) in_xs in_ys)

-- an element is read where the rest begins
get_or-from_rest : (xs ys : List ℕ) (i : ℕ) → drop i xs ≡ drop i ys → get_or xs i 0 ≡ get_or ys i 0
get_or-from_rest xs ys i e =
    let x : get_or (drop i xs) 0 0 ≡ get_or xs i 0 = rw get_or-drop (rw add-zero refl) in
    let y : get_or (drop i ys) 0 0 ≡ get_or ys i 0 = rw get_or-drop (rw add-zero refl) in
    sym x ∙ ap (λ (zs : List ℕ). get_or zs 0 0) e ∙ y

-- a list whose first i elements have gone into those of another by exclusive or
pub record IsXoredBelow (xs ys : List ℕ) (i : ℕ) (mixed : List ℕ) : Type 0 where
  pub long : length mixed ≡ length xs
  pub done : take i mixed ≡ take i (bytes_xor xs ys)
  pub rest : drop i mixed ≡ drop i xs

pub IsXoredBelow-more : (xs ys : List ℕ) (i : ℕ) (mixed : List ℕ) → IsXoredBelow xs ys i mixed → length xs ≡ length ys → i < length xs
    → IsXoredBelow xs ys (i + 1) (set mixed i (bit_xor (get_or mixed i 0) (get_or ys i 0)))
IsXoredBelow-more xs ys i mixed m same lt =
    let byte = bit_xor (get_or mixed i 0) (get_or ys i 0) in
    let long = m.long in
    let in_mixed : i < length mixed = omega arith in
    let written = take_more_set mixed i byte in_mixed in
    let wanted = take_more (bytes_xor xs ys) i 0 (omega (arith, length-xored xs ys same)) in
    let value = get_or-xored xs ys i lt (omega arith) in
    let read = get_or-from_rest mixed xs i m.rest in
    record {
      long = length-set mixed i byte ∙ long;
      done = cc;
      rest = drop-set-lt (i + 1) mixed i byte (omega arith) ∙ drop_more_same mixed xs i m.rest;
    }

pub IsXoredBelow-all : (xs ys : List ℕ) (i : ℕ) (mixed : List ℕ) → IsXoredBelow xs ys i mixed → length xs ≡ length ys → length xs ≤ i
    → mixed ≡ bytes_xor xs ys
IsXoredBelow-all xs ys i mixed m same le =
    let long = m.long in
    sym (take_all i mixed (omega arith)) ∙ m.done ∙ take_all i (bytes_xor xs ys) (omega (arith, length-xored xs ys same))

-- exclusive or with the same bytes again
pub xored-xored : (xs ys : List ℕ) → length xs ≡ length ys → bytes_xor (bytes_xor xs ys) ys ≡ xs
xored-xored xs ys e =
    let once = length-xored xs ys e in
    let twice = length-xored (bytes_xor xs ys) ys (once ∙ e) in
    same_number_lists _ _ (twice ∙ once)
    (λ k h.
    let inner = get_or-xored xs ys k (omega arith) (omega arith) in
    let outer = get_or-xored (bytes_xor xs ys) ys k (omega arith) (omega arith) in
    grind (arith, common_steps))

-- of bytes are bytes
pub AreBytes-xored : (xs ys : List ℕ) → length xs ≡ length ys → AreBytes xs → AreBytes ys → AreBytes (bytes_xor xs ys)
AreBytes-xored xs ys same x y =
    All-from_get_or (λ (byte : ℕ). byte < 256) (bytes_xor xs ys) 0
    (λ i lt.
    let in_xs : i < length xs = omega (arith, length-xored xs ys same) in
    let in_ys : i < length ys = omega arith in
    subst (λ (byte : ℕ). byte < 256) (sym (get_or-xored xs ys i in_xs in_ys))
    (xor_of_8 _ _ (All-get_or (λ (byte : ℕ). byte < 256) xs i 0 in_xs x) (All-get_or (λ (byte : ℕ). byte < 256) ys i 0 in_ys y)))
