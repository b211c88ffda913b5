-- What some faults tell: two versions of a catalog, two change counts of a table, and the number of a unique key.
use Rattle.std.specs.Prelude.{ℕ, ◌≤◌}

-- the version by which a statement was described, and the one that stands
pub record Versions : Type 0 where
  pub seen : ℕ
  pub now : ℕ

-- the change count of a table as a transaction saw it, and the one that stands
pub record ChangeCounts : Type 0 where
  pub seen : ℕ
  pub now : ℕ

-- the unique keys of a table are numbered from 1 to 8
abbrev pub IsUniqueNumber : ℕ → Type 0
IsUniqueNumber number = (1 ≤ number) × (number ≤ 8)
