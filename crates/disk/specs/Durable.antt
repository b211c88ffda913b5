-- Writes and cuts that are synced at once.
use Rattle.std.specs.Prelude.{◌≡◌, ℕ, List, [], ◌∷◌, length, take}
use Rattle.disk.specs.Calls.{written}
use Rattle.disk.specs.Crashes.{Asked, Range, Length, IsImage, kept}
use Rattle.disk.specs.Moments.{Moments, Leaves, OnlySyncs}
use Rattle.disk.specs.declared.disks.Stored.{Stored}
use Rattle.disk.specs.declared.disks.Stored.TheVariants as stored

-- all that reads give is on the disk
abbrev pub IsKept : Moments → Type 0
IsKept disk = disk.now ≡ kept disk.now.seen

-- what a crash leaves of a file that was on the disk, once this was asked
abbrev pub Torn : List ℕ → Asked → List ℕ → Type 0
Torn file asked = IsImage (record { seen = file; synced = file; asked = asked ∷ [] })

-- each crash since then leaves the old file as this tears it, and now the new one is on the disk
pub record WasDone (asked : Asked) (file : List ℕ) (old new : Moments) : Type 0 where
  pub moments : Leaves (Torn old.now.seen asked) old new
  pub now : new.now ≡ kept file

abbrev pub WritesThrough : Stored → ℕ → List ℕ → Moments → Moments → Type 0
WritesThrough stored.Done at bytes old new = WasDone (Range at (length bytes)) (written old.now.seen at bytes) old new
WritesThrough stored.Failed at bytes old new = Leaves (Torn old.now.seen (Range at (length bytes))) old new
WritesThrough stored.OutOfMemory at bytes old new = Leaves (Torn old.now.seen (Range at (length bytes))) old new

abbrev pub CutsThrough : Stored → ℕ → Moments → Moments → Type 0
CutsThrough stored.Done len old new = WasDone (Length len) (take len old.now.seen) old new
CutsThrough stored.Failed len old new = Leaves (Torn old.now.seen (Length len)) old new
CutsThrough stored.OutOfMemory len old new = Leaves (Torn old.now.seen (Length len)) old new

-- each crash since then leaves what reads gave, no write and no cut was asked for, and it stands as it stood
pub record StaysKept (old new : Moments) : Type 0 where
  pub moments : Leaves (λ image. image ≡ old.now.seen) old new
  pub calls : OnlySyncs old new
  pub now : new.now ≡ old.now
