-- Rows that a page holds, alone or among several owners.
use Rattle.std.specs.Prelude.{ℕ, List, true, false}
use Rattle.std.specs.Vec.{vec_capacity}
use Rattle.row_store.specs.Paged.{Owned}
use Rattle.row_store.specs.declared.pages.Holding.{Holding}
use Rattle.row_store.specs.declared.pages.Holding.TheVariants.{Alone, Among}

abbrev pub owned_of : {T : Type 0} → Holding T → Owned (List T)
owned_of (Alone rows) = record { value = rows.items; own = true }
owned_of (Among rc) = record { value = rc.value.items; own = false }

-- how many rows there is room for, once it is alone
abbrev pub capacity_of : {T : Type 0} → Holding T → ℕ
capacity_of (Alone rows) = vec_capacity rows
capacity_of (Among rc) = vec_capacity rc.value
