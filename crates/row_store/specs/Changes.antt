-- What is made of rows: some are replaced, or dropped.
use Rattle.std.specs.Prelude.{◌≡◌, ◌≤◌, ℕ, zero, suc, ◌+◌, List, [], ◌∷◌, drop, slice_set, Bool, true, false, ◌==◌, ◌&&◌, nat_le, nat_lt, if◌then◌else◌}
use Rattle.row_store.specs.declared.changes.Change.{Change}

-- rows are put in the places of others, one after another
abbrev pub written : {T : Type 0} → List T → List (Change T) → List T
written rows [] = rows
written rows (change ∷ changes) = written (slice_set rows change.place change.row) changes

-- the rows that aren't hit
abbrev pub unhit : {T : Type 0} → List T → List Bool → List T
unhit [] hits = []
unhit (row ∷ rows) [] = row ∷ rows
unhit (row ∷ rows) (true ∷ hits) = unhit rows hits
unhit (row ∷ rows) (false ∷ hits) = row ∷ unhit rows hits

-- and those that are
abbrev pub hit : {T : Type 0} → List T → List Bool → List T
hit [] hits = []
hit (row ∷ rows) [] = []
hit (row ∷ rows) (true ∷ hits) = row ∷ hit rows hits
hit (row ∷ rows) (false ∷ hits) = hit rows hits

-- the next of some places is this one
abbrev pub is_at : ℕ → List ℕ → Bool
is_at place [] = false
is_at place (p ∷ places) = p == place

-- the places that are left behind it
abbrev pub passed : ℕ → List ℕ → List ℕ
passed place places = if is_at place places then drop 1 places else places

-- for each of so many rows, from a place on, whether it lies at one of some places, which rise
abbrev pub marked : (place count : ℕ) → List ℕ → List Bool
marked place zero places = []
marked place (suc count) places = is_at place places ∷ marked (place + 1) count (passed place places)

-- behind so many rows, from a place on, so many of the places are used
abbrev pub IsPast : (place count : ℕ) → List ℕ → ℕ → Type 0
IsPast place count places used = (more : ℕ) → drop count (marked place (count + more) places) ≡ marked (place + count) more (drop used places)

-- the first of some places is one of the rows from a place on to another
abbrev pub is_inside : (first end : ℕ) → List ℕ → Bool
is_inside first end [] = false
is_inside first end (p ∷ places) = nat_le first p && nat_lt p end
