-- Renamings: finite lists of pairs of cells, each at its class.
use Rattle.std.specs.Prelude.{◌≡◌, List, length, slice_index}
use Rattle.ae_base.specs.Atoms.{Atom}
use Rattle.ae_base.specs.declared.atoms.AtomOf.TheVariants.{Null, Plain, Sealed}
use Rattle.scalar.specs.Classes.{Class, IsOneToOne, Entry, Listing}

-- two cells of one length and one first byte
abbrev pub AreCells : Atom → Atom → Type 0
AreCells Null b = ⊥
AreCells (Plain value) b = ⊥
AreCells (Sealed cell) Null = ⊥
AreCells (Sealed cell) (Plain value) = ⊥
AreCells (Sealed cell) (Sealed other) = (length other ≡ length cell) × (slice_index other 0 ≡ slice_index cell 0)

-- only such cells are paired
abbrev pub PairsCells : (Class → Atom → Atom → Type 0) → Type 0
PairsCells R = (c : Class) (a b : Atom) → R c a b → AreCells a b

-- pairs of cells of one length and one first byte; within each deterministic class they are one-to-one
pub record IsRenaming (entries : List Entry) : Type 0 where
  pub cells : PairsCells (Listing entries)
  pub one_to_one : IsOneToOne (Listing entries)
