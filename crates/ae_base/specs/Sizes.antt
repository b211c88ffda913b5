-- The sizes that types are declared with.
use Rattle.std.specs.Prelude.{ℕ, ◌≤◌}

-- NVARCHAR(n) has n from 1 to 4000
abbrev pub IsTextSize : ℕ → Type 0
IsTextSize units = (1 ≤ units) × (units ≤ 4000)

-- VARBINARY(n) has n from 1 to 8000
abbrev pub IsBinarySize : ℕ → Type 0
IsBinarySize bytes = (1 ≤ bytes) × (bytes ≤ 8000)
