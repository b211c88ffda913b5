-- The entries of a journal are read again, one after another.
use Rattle.std.specs.Prelude.{◌≡◌, ℕ, ◌+◌, ◌≤◌, List, [], ◌∷◌, ◌++◌, length}
use Rattle.ae_edge.specs.Devices.{Rose, Stays}
use Rattle.disk.specs.Durable.{StaysKept}
use Rattle.disk.specs.Moments.{Moments}
use Rattle.journal_core.specs.Appends.{EndsAt}
use Rattle.journal_core.specs.Journals.{place_behind}
use Rattle.journal_core.specs.declared.entries.Entry.{Entry}
use Rattle.journal_core.specs.declared.entries.Entry.TheVariants as entry

-- of some entries, these others stand from the gate at a place on
pub record StandFrom (place : ℕ) (others entries : List (List ℕ)) : Type 0 where
  pub before : List (List ℕ)
  pub whole : entries ≡ before ++ others
  pub place_is : place ≡ place_behind before

-- the first of them; at the end there is none
abbrev pub IsFirstOf : Entry → List (List ℕ) → Type 0
IsFirstOf (entry.Next bytes) others = (more : List (List ℕ)) × (others ≡ bytes ∷ more)
IsFirstOf entry.End others = others ≡ []
IsFirstOf entry.Other others = ⊥
IsFirstOf entry.Failed others = Unit {0}
IsFirstOf entry.OutOfMemory others = Unit {0}

-- whatever the entries are, behind which the last gate stands; the disk stands as it stood
abbrev pub Continues : Entry → ℕ → ℕ → Moments → Moments → Type 0
Continues found place gate old new =
    ((entries others : List (List ℕ)) → EndsAt gate entries old → StandFrom place others entries → IsFirstOf found others) × StaysKept old new

-- an entry ends at most at the last gate, and at the end this is the place
abbrev pub IsNotPast : Entry → ℕ → ℕ → Type 0
IsNotPast (entry.Next bytes) place gate = place + 9 + length bytes ≤ gate
IsNotPast entry.End place gate = place ≡ gate
IsNotPast entry.Other place gate = Unit {0}
IsNotPast entry.Failed place gate = Unit {0}
IsNotPast entry.OutOfMemory place gate = Unit {0}

-- the count of faults stays, but where a call failed
abbrev pub CountsEntry : Entry → ℕ → ℕ → Type 0
CountsEntry (entry.Next bytes) = Stays
CountsEntry entry.End = Stays
CountsEntry entry.Other = Stays
CountsEntry entry.Failed = Rose
CountsEntry entry.OutOfMemory = Stays
