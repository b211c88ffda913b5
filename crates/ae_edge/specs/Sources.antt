-- What a call on a source takes.
use Rattle.std.specs.Prelude.{◌≡◌, ℕ, ◌<◌, ◌≤◌, List, [], ◌++◌, length, Option}
use Rattle.std.specs.Io.KnownBytes.{Consumes, IsAtEnd, Keeps}
use Rattle.ae_edge.specs.Devices.{Rose, Stays}
use Rattle.ae_edge.specs.declared.sources.Taken.{Taken}
use Rattle.ae_edge.specs.declared.sources.Taken.TheVariants.{Bytes, End, Failed, OutOfMemory}

-- a piece has at least one byte, and at most max
abbrev pub IsPiece : ℕ → Taken → Type 0
IsPiece max (Bytes bytes) = (0 < length bytes) × (length bytes ≤ max)
IsPiece max other = Unit {0}

-- bytes leave the front; an end comes only where none are left; else they stay
abbrev pub Takes : Taken → List ℕ → List ℕ → Type 0
Takes (Bytes bytes) old new = old ≡ bytes ++ new
Takes End old new = (old ≡ []) × (new ≡ [])
Takes Failed old new = new ≡ old
Takes OutOfMemory old new = new ≡ old

-- the count of faults stays, but where the call failed
abbrev pub CountsTake : Taken → ℕ → ℕ → Type 0
CountsTake (Bytes bytes) = Stays
CountsTake End = Stays
CountsTake Failed = Rose
CountsTake OutOfMemory = Stays

-- where the bytes of a reader are known, a call gives the next of them, and an end comes only at their end; else they stay
abbrev pub TakesKnown : Taken → Option (List ℕ) → Option (List ℕ) → Type 0
TakesKnown (Bytes bytes) old new = Consumes old new bytes
TakesKnown End old new = Keeps old new × IsAtEnd new
TakesKnown Failed old new = Keeps old new
TakesKnown OutOfMemory old new = Keeps old new
