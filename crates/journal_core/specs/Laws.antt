-- Laws of files as journals.
use Rattle.std.specs.Prelude.{◌≡◌, List, ℕ}
use Rattle.std.specs.List.{All}
use Rattle.journal_core.specs.Journals.{IsEntry, Reading, Records, ReadsAs, journal_of}

-- a file stands for one thing
abbrev pub FilesReadOnce : Type 0
FilesReadOnce = (a b : Reading) (file : List ℕ) → ReadsAs a file → ReadsAs b file → a ≡ b

-- no file stands for nothing
abbrev pub EachFileReads : Type 0
EachFileReads = (file : List ℕ) → ¬ ((reading : Reading) → ¬ ReadsAs reading file)

-- what is written as a journal of some entries stands for them
abbrev pub JournalsAreReadBack : Type 0
JournalsAreReadBack = (entries : List (List ℕ)) → All IsEntry entries → ReadsAs (Records entries) (journal_of entries)
