-- What a crash leaves, as equations of lists.
use Rattle.std.proofs.Common.{◌≡◌, inl, inr, ℕ, ◌+◌, ◌<◌, ◌≤◌, List, [], length, take, drop, refl, sym, ◌∙◌, arith, length-drop}
use Rattle.std.proofs.lemmas.Grind.{same_number_lists}
use Rattle.std.proofs.lemmas.List.{get_or-take, get_or-drop, length-take-le}
use Rattle.std.proofs.lemmas.List.Elements.{All-nil, All-cons}
use Rattle.disk.specs.Crashes.{Asked, Range, Length, IsImage, IsSpared, kept}
use Rattle.disk.specs.Durable.{Torn}

-- a crash leaves a kept file as it is
pub kept_only : (file image : List ℕ) → IsImage (kept file) image → image ≡ file
kept_only file image is =
    let same : length image ≡ length file = omega (arith, is.no_shorter, is.no_longer) in
    same_number_lists image file same (λ k less. is.kept k (omega arith) (All-nil (IsSpared k)))

pub kept_image : (file : List ℕ) → IsImage (kept file) file
kept_image file = record { no_shorter = omega arith; no_longer = omega arith; kept = λ i less spared. refl }

-- whatever was asked, it may have come to nothing
pub torn_same : (file : List ℕ) (asked : Asked) → Torn file asked file
torn_same file (Range at count) = record { no_shorter = omega arith; no_longer = omega arith; kept = λ i less spared. refl }
torn_same file (Length len) = record { no_shorter = omega arith; no_longer = omega arith; kept = λ i less spared. refl }

-- before a range that was torn stands what stood there
pub torn_before : (file : List ℕ) (at count : ℕ) (image : List ℕ) → at ≤ length file → Torn file (Range at count) image → take at image ≡ take at file
torn_before file at count image inside torn =
    let here : length (take at image) ≡ at = length-take-le at image (omega (arith, torn.no_shorter)) in
    let there : length (take at file) ≡ at = length-take-le at file inside in
    same_number_lists (take at image) (take at file) (here ∙ sym there) (λ k less.
    let k_less : k < at = omega arith in
    get_or-take at image k 0 k_less
    ∙ torn.kept k (omega arith) (All-cons (IsSpared k) (Range at count) [] (inl k_less) (All-nil (IsSpared k)))
    ∙ sym (get_or-take at file k 0 k_less))

-- and after one that lies inside the file too
pub torn_behind : (file : List ℕ) (at count : ℕ) (image : List ℕ) → at + count ≤ length file → Torn file (Range at count) image → drop (at + count) image ≡ drop (at + count) file
torn_behind file at count image inside torn =
    let same : length image ≡ length file = omega (arith, torn.no_shorter, torn.no_longer) in
    let here = length-drop (at + count) image in
    let there = length-drop (at + count) file in
    same_number_lists (drop (at + count) image) (drop (at + count) file) (omega arith) (λ k less.
    get_or-drop (at + count) image k 0
    ∙ torn.kept (at + count + k) (omega arith) (All-cons (IsSpared (at + count + k)) (Range at count) [] (inr (omega arith)) (All-nil (IsSpared (at + count + k))))
    ∙ sym (get_or-drop (at + count) file k 0))

pub torn_length : (file : List ℕ) (at count : ℕ) (image : List ℕ) → at + count ≤ length file → Torn file (Range at count) image → length image ≡ length file
torn_length file at count image inside torn = omega (arith, torn.no_shorter, torn.no_longer)

-- before the offset of a cut stands what stood there
pub cut_before : (file : List ℕ) (len : ℕ) (image : List ℕ) → len ≤ length file → Torn file (Length len) image → take len image ≡ take len file
cut_before file len image inside torn =
    let here : length (take len image) ≡ len = length-take-le len image (omega (arith, torn.no_shorter)) in
    let there : length (take len file) ≡ len = length-take-le len file inside in
    same_number_lists (take len image) (take len file) (here ∙ sym there) (λ k less.
    let k_less : k < len = omega arith in
    get_or-take len image k 0 k_less
    ∙ torn.kept k (omega (arith, inside)) (All-cons (IsSpared k) (Length len) [] tt (All-nil (IsSpared k)))
    ∙ sym (get_or-take len file k 0 k_less))
