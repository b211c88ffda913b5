-- How long an atom of a message is.
use Rattle.std.specs.Prelude.{ℕ, ◌≤◌, List, length, encode_utf8_all}
use Rattle.ae_base.specs.declared.values.Datum.TheVariants.{Num, Text, Bin}
use Rattle.ae_base.specs.declared.atoms.AtomOf.{AtomOf}
use Rattle.ae_base.specs.declared.atoms.AtomOf.TheVariants.{Null, Plain, Sealed}

-- a text has at most 12,000 bytes, a binary 8,000 and a cell 16,384
abbrev pub IsSendable : AtomOf (List ℕ) → Type 0
IsSendable Null = Unit {0}
IsSendable (Plain (Num n)) = Unit {0}
IsSendable (Plain (Text characters)) = length (encode_utf8_all characters) ≤ 12000
IsSendable (Plain (Bin bytes)) = length bytes ≤ 8000
IsSendable (Sealed cell) = length cell ≤ 16384
