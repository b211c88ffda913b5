-- A worked example: classes 1 and 3 are numbered, class 2 is not.
use Rattle.std.specs.Prelude.{◌≡◌, ℕ, List, [], ◌∷◌, ◌==◌, ◌||◌, Some, None}
use Rattle.first_seen.specs.Parts.{Spot, Classing, Label, Part, Listed, listing}

abbrev pub few_classes : Classing ℕ
few_classes = record { same = λ c d. c == d; is_numbered = λ c. (c == 1) || (c == 3) }

abbrev pub spot : ℕ → List ℕ → Spot ℕ
spot c x = record { class = c; cell = x }

abbrev pub numbered : ℕ → ℕ → ℕ → ℕ → Label ℕ
numbered c n size lead = record { class = c; number = Some n; size = size; lead = lead }

abbrev pub free : ℕ → ℕ → ℕ → Label ℕ
free c size lead = record { class = c; number = None; size = size; lead = lead }

abbrev pub part : List ℕ → List (Spot ℕ) → Part (List ℕ) ℕ
part shown spots = record { shown = shown; spots = spots }

abbrev pub entry : List ℕ → List (Label ℕ) → Listed (List ℕ) ℕ
entry shown labels = record { shown = shown; labels = labels }

-- one cell in three classes, another one, and the first again in a later part; a cell of no bytes
abbrev pub IsWorked : Type 0
IsWorked = listing few_classes
    (part (5 ∷ []) (spot 1 (7 ∷ 7 ∷ []) ∷ spot 2 (7 ∷ 7 ∷ []) ∷ spot 3 (7 ∷ 7 ∷ []) ∷ spot 1 (8 ∷ []) ∷ []) ∷ part [] (spot 1 (7 ∷ 7 ∷ []) ∷ spot 3 [] ∷ spot 2 (7 ∷ 7 ∷ []) ∷ []) ∷ [])
    ≡ (entry (5 ∷ []) (numbered 1 0 2 7 ∷ free 2 2 7 ∷ numbered 3 0 2 7 ∷ numbered 1 1 1 8 ∷ []) ∷ entry [] (numbered 1 0 2 7 ∷ numbered 3 1 0 0 ∷ free 2 2 7 ∷ []) ∷ [])
