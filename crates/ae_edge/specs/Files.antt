-- A file that is opened at its first use.
use Rattle.std.specs.Prelude.{◌≡◌, Option, Some, None}
use Rattle.ae_edge.specs.Devices.{WhereExposed}

-- a file that is open stays as it is
abbrev pub IsKept : {T : Type 0} → Option T → Option T → Type 0
IsKept (Some file) opened = opened ≡ Some file
IsKept None opened = Unit {0}

-- the file was opened, unless it was open or can't be opened; then P holds of it before and after
pub record OpensThen {T : Type 0} (P : T → T → Type 0) (old new : Option T) : Type 0 where
  pub opened : Option T
  pub kept : IsKept old opened
  pub on : WhereExposed P opened new
