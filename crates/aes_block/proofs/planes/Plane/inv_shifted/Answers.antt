use Rattle.std.proofs.Common.{rules, ◌≡◌, ℕ, ◌+◌, ◌-◌, ◌%◌, List, [], ◌∷◌, refl, ap, ◌∙◌}
use Rattle.std.specs.Simd.Lanes.{pick_l}
use Rattle.std.proofs.lemmas.Simd.{pick_l_left}
use Rattle.aes_block.specs.Planes.{bit}
use Rattle.aes_block.proofs.Positions.{at_cells}
use Rattle.aes_block.proofs.planes.Plane.inv_shifted.Goals as goal

pub returns : goal.returns
unfolding bit
returns c r column j row col =
    let xs = c.self.inside.lanes in
    rw (← c.self.view_is)
    (ap (λ (lanes : List ℕ). bit lanes r column j) (pick_l_left 0 xs xs 16 (0 ∷ 1 ∷ 2 ∷ 3 ∷ 7 ∷ 4 ∷ 5 ∷ 6 ∷ 10 ∷ 11 ∷ 8 ∷ 9 ∷ 13 ∷ 14 ∷ 15 ∷ 12 ∷ []) c.self.invariant (search rules))
    ∙ at_cells (λ (r column : ℕ). bit (pick_l 0 xs (0 ∷ 1 ∷ 2 ∷ 3 ∷ 7 ∷ 4 ∷ 5 ∷ 6 ∷ 10 ∷ 11 ∷ 8 ∷ 9 ∷ 13 ∷ 14 ∷ 15 ∷ 12 ∷ [])) r column j ≡ bit xs r ((column + 4 - r) % 4) j)
    refl refl refl refl refl refl refl refl refl refl refl refl refl refl refl refl r column row col)
