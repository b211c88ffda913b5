-- What is hashed of an atom: its kind, and then what it holds, a sealed value as its own hash has it.
use Rattle.std.specs.Prelude.{ℕ, List, ◌++◌, encode_utf8_all}
use Rattle.std.specs.Hash as fed
use Rattle.ae_base.specs.Atoms.{Atom}
use Rattle.ae_base.specs.declared.atoms.AtomOf.TheVariants.{Null, Plain, Sealed}
use Rattle.ae_base.specs.declared.values.Datum.{Datum}
use Rattle.ae_base.specs.declared.values.Datum.TheVariants as datum

abbrev pub datum_fed : Datum → List (List ℕ)
datum_fed (datum.Num n) = fed.u8 1 ++ fed.i64 n
datum_fed (datum.Text characters) = fed.u8 2 ++ fed.str (encode_utf8_all characters)
datum_fed (datum.Bin bytes) = fed.u8 3 ++ fed.slice fed.u8 bytes

abbrev pub atom_fed : (List ℕ → List (List ℕ)) → Atom → List (List ℕ)
atom_fed sealed Null = fed.u8 0
atom_fed sealed (Plain d) = datum_fed d
atom_fed sealed (Sealed bytes) = fed.u8 4 ++ sealed bytes
