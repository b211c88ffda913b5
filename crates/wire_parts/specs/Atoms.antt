-- The atoms of messages.
use Rattle.std.specs.Prelude.{ℕ, List}
use Rattle.ae_base.specs.declared.values.Datum.TheVariants.{Num, Text, Bin}
use Rattle.ae_base.specs.declared.atoms.AtomOf.{AtomOf}
use Rattle.ae_base.specs.declared.atoms.AtomOf.TheVariants as atom
use Rattle.wire_parts.specs.declared.atoms.AtomCase.{AtomCase}
use Rattle.wire_parts.specs.declared.atoms.AtomCase.TheVariants as part

-- what a case stands for
abbrev pub atom_of : AtomCase → AtomOf (List ℕ)
atom_of part.Null = atom.Null
atom_of (part.Num n) = atom.Plain (Num n)
atom_of (part.Text characters) = atom.Plain (Text characters)
atom_of (part.Bin bytes) = atom.Plain (Bin bytes)
atom_of (part.Sealed bytes) = atom.Sealed bytes
