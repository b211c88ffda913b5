-- A journal is written into a file of its own.
use Rattle.std.specs.Prelude.{◌≡◌, ℕ, List, [], ◌∷◌, ◌++◌, length}
use Rattle.disk.specs.Crashes.{kept}
use Rattle.disk.specs.Moments.{Moments, LeavesNow}
use Rattle.disk.specs.declared.disks.Stored.{Stored}
use Rattle.disk.specs.declared.disks.Stored.TheVariants as stored
use Rattle.journal_core.specs.Journals.{framed, journal_of, Records, ReadsAs}

-- all of the file is on the disk, and is the journal of these entries: each crash leaves them
pub record HasJournal (entries : List (List ℕ)) (disk : Moments) : Type 0 where
  pub now : disk.now ≡ kept (journal_of entries)
  pub from_now : LeavesNow (ReadsAs (Records entries)) disk.now

-- the file ends at an offset
abbrev pub HasAt : ℕ → Moments → Type 0
HasAt at disk = length disk.now.seen ≡ at

-- open gates with these entries after them
abbrev pub opened : List (List ℕ) → List ℕ
opened [] = []
opened (entry ∷ entries) = 1 ∷ framed entry ++ opened entries

-- once it is done, bytes stand after what reads gave
abbrev pub PutsBehind : Stored → List ℕ → Moments → Moments → Type 0
PutsBehind stored.Done bytes old new = new.now.seen ≡ old.now.seen ++ bytes
PutsBehind stored.Failed bytes old new = Unit {0}
PutsBehind stored.OutOfMemory bytes old new = Unit {0}

abbrev pub WritesJournal : Stored → List (List ℕ) → Moments → Moments → Type 0
WritesJournal stored.Done entries old new = HasJournal entries new
WritesJournal stored.Failed entries old new = Unit {0}
WritesJournal stored.OutOfMemory entries old new = Unit {0}
