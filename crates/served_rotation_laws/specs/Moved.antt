-- What an atom of a column means, and rows that were moved to other columns value for value.
use Rattle.std.specs.Prelude.{◌≡◌, ℕ, List, [], ◌∷◌, Ok}
use Rattle.ae_base.specs.Atoms.{Atom}
use Rattle.ae_base.specs.declared.atoms.AtomOf.TheVariants.{Null, Plain, Sealed}
use Rattle.ae_base.specs.declared.tables.ColumnDef.{ColumnDef}
use Rattle.ae_base.specs.declared.types.Enc.{Enc}
use Rattle.ae_base.specs.declared.types.Enc.TheVariants as enc
use Rattle.ae_base.specs.declared.types.Ty.{Ty}
use Rattle.ae_base.specs.declared.values.Value.{Value}
use Rattle.ae_base.specs.declared.values.Value.TheVariants as value
use Rattle.hmac_kdf.specs.Keys.{Keys, keys_of}
use Rattle.value_norm.specs.Norm.{norm}
use Rattle.cell_codec.specs.Cells.{content_of}
use Rattle.conversation.specs.Cells.{value_in}

-- a cell that opens to a value of a type
abbrev pub Opens : Keys → Ty → Atom → Value → Type 0
Opens keys ty Null v = v ≡ value.Null
Opens keys ty (Plain datum) v = ⊥
Opens keys ty (Sealed cell) v = value_in ty (content_of keys cell) ≡ Ok v

-- one that opens to the bytes of a value of a type
abbrev pub Seals : Keys → Ty → Atom → Value → Type 0
Seals keys ty Null v = v ≡ value.Null
Seals keys ty (Plain datum) v = ⊥
Seals keys ty (Sealed cell) value.Null = ⊥
Seals keys ty (Sealed cell) (value.Is datum) = content_of keys cell ≡ Ok (norm datum ty)

abbrev pub IsPlainly : Atom → Value → Type 0
IsPlainly Null v = v ≡ value.Null
IsPlainly (Plain datum) v = v ≡ value.Is datum
IsPlainly (Sealed cell) v = ⊥

-- an atom means a value: as it is where it isn't protected, else under the key for its column key's number
abbrev pub MeansBy : (Keys → Ty → Atom → Value → Type 0) → (ℕ → List ℕ) → ColumnDef → Enc → Atom → Value → Type 0
MeansBy Is key_for column enc.Plain a v = IsPlainly a v
MeansBy Is key_for column (enc.Det id) a v = Is (keys_of (key_for id)) column.ty a v
MeansBy Is key_for column (enc.Rnd id) a v = Is (keys_of (key_for id)) column.ty a v

-- the atom that was read and the one that was put in its place mean one value
abbrev pub IsMoved : (ℕ → List ℕ) → (old new : ColumnDef) → Atom → Atom → Type 0
IsMoved key_for old new a b = (v : Value) × MeansBy Opens key_for old old.enc a v × MeansBy Seals key_for new new.enc b v

abbrev pub AreMoved : (ℕ → List ℕ) → (olds news : List ColumnDef) → List Atom → List Atom → Type 0
AreMoved key_for [] [] [] [] = Unit {0}
AreMoved key_for (old ∷ olds) (new ∷ news) (a ∷ read) (b ∷ put) = IsMoved key_for old new a b × AreMoved key_for olds news read put
AreMoved key_for olds news read put = ⊥
