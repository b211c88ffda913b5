-- Rows that share a frame.
use Rattle.std.specs.Prelude.{◌≡◌, ◌≤◌, ℕ, List, [], ◌∷◌, length}
use Rattle.std.specs.List.{All}
use Rattle.ae_base.specs.Limits.{most_frame_rows}
use Rattle.ae_base.specs.declared.atoms.AtomOf.{AtomOf}

abbrev pub Atoms : Type 0
Atoms = List (AtomOf (List ℕ))

-- the atoms of a row: of the first one
abbrev pub width : List Atoms → ℕ
width [] = 0
width (row ∷ rows) = length row

-- 1 to 4,096 rows, each of as many atoms
pub record IsBatch (rows : List Atoms) : Type 0 where
  pub some : 1 ≤ length rows
  pub few : length rows ≤ most_frame_rows
  pub alike : All (λ row. length row ≡ width rows) rows
