-- The atoms of an answer's rows are short enough to be sent.
use Rattle.std.proofs.Common.{ℕ, ◌*◌, ◌≤◌, List, [], ◌∷◌, length, sym, subst, arith}
use Rattle.std.specs.Prelude.{encode_utf8_all}
use Rattle.std.specs.List.{All, AllZip}
use Rattle.std.specs.Char.{len_utf8}
use Rattle.std.proofs.lemmas.Bool.{leb-true}
use Rattle.std.proofs.lemmas.Bool.Decides.{nat_tests}
use Rattle.std.proofs.lemmas.List.{length-append}
use Rattle.std.proofs.lemmas.List.Elements.{All-nil, All-cons, All-head, All-tail, All-weaker}
use Rattle.std.proofs.lemmas.Slice.Zip.{AllZip-long}
use Rattle.std.proofs.lemmas.Str.{length-encode}
use Rattle.ae_base.specs.Atoms.{Atom}
use Rattle.ae_base.specs.Types.{IsType}
use Rattle.ae_base.specs.Values.{units, units_of}
use Rattle.ae_base.specs.declared.atoms.AtomOf.TheVariants.{Null, Plain, Sealed}
use Rattle.ae_base.specs.declared.types.Enc.{Enc}
use Rattle.ae_base.specs.declared.types.Ty.{Ty}
use Rattle.ae_base.specs.declared.types.Ty.TheVariants as ty
use Rattle.ae_base.specs.declared.values.Datum.{Datum}
use Rattle.ae_base.specs.declared.values.Datum.TheVariants as datum
use Rattle.engine.specs.WellTyped.{IsAtomOf, IsOfType, AreResults}
use Rattle.engine.specs.declared.answers.ResultColumn.{ResultColumn}
use Rattle.wire_parts.specs.AtomBounds.{IsSendable}
use Rattle.wire_messages.specs.Messages.{IsFew}
use Rattle.server_core.specs.States.{is_short}

-- ---- a character has at most three bytes for each of its UTF-16 units

len_le : (c : ℕ) → len_utf8 c ≤ 3 * units_of c
len_le c = grind (arith, nat_tests)

bytes_le : (cs : List ℕ) → length (encode_utf8_all cs) ≤ 3 * units cs
bytes_le [] = omega arith
bytes_le (c ∷ cs) = let l = len_le c in let e = length-encode c in let r = bytes_le cs in simp length-append (omega arith)

-- ---- atoms of a type

datum_sendable : (t : Ty) (d : Datum) → IsOfType t d → IsType t → IsSendable (Plain d)
datum_sendable t (datum.Num n) o p = tt
datum_sendable ty.Int (datum.Text cs) o p = absurd o
datum_sendable ty.BigInt (datum.Text cs) o p = absurd o
datum_sendable (ty.NVarChar most) (datum.Text cs) o p = let b = bytes_le cs in omega arith
datum_sendable (ty.VarBinary most) (datum.Text cs) o p = absurd o
datum_sendable ty.Int (datum.Bin bytes) o p = absurd o
datum_sendable ty.BigInt (datum.Bin bytes) o p = absurd o
datum_sendable (ty.NVarChar most) (datum.Bin bytes) o p = absurd o
datum_sendable (ty.VarBinary most) (datum.Bin bytes) o p = omega arith

atom_sendable : (t : Ty) (enc : Enc) (a : Atom) → IsAtomOf is_short t enc a → IsType t → IsSendable a
atom_sendable t enc Null o p = tt
atom_sendable t enc (Plain d) o p = datum_sendable t d o p
atom_sendable t enc (Sealed cell) o p = leb-true (length cell) 16384 o.1

-- ---- rows of columns of types

row_sendable : (columns : List ResultColumn) (row : List Atom) → AllZip (λ (column : ResultColumn) atom. IsAtomOf is_short column.ty column.enc atom) columns row
    → All (λ (column : ResultColumn). IsType column.ty) columns → All IsSendable row
row_sendable [] [] z t = All-nil IsSendable
row_sendable [] (a ∷ row) z t = absurd z
row_sendable (c ∷ columns) [] z t = All-nil IsSendable
row_sendable (c ∷ columns) (a ∷ row) z t =
    All-cons IsSendable a row (atom_sendable c.ty c.enc a z.0 (All-head (λ (column : ResultColumn). IsType column.ty) c columns t))
    (row_sendable columns row z.1 (All-tail (λ (column : ResultColumn). IsType column.ty) c columns t))

pub rows_sendable : (columns : List ResultColumn) (rows : List (List Atom)) → AreResults is_short columns rows → IsFew columns → All (λ (column : ResultColumn). IsType column.ty) columns
    → All (λ row. IsFew row × All IsSendable row) rows
rows_sendable columns rows r few t =
    All-weaker (AllZip (λ (column : ResultColumn) atom. IsAtomOf is_short column.ty column.enc atom) columns) (λ row. IsFew row × All IsSendable row)
    (λ row z. (
      subst (λ n. (1 ≤ n) × (n ≤ 512)) (sym (AllZip-long (λ (column : ResultColumn) (atom : Atom). IsAtomOf is_short column.ty column.enc atom) columns row z))
          few,
      row_sendable columns row z t,
    )) rows r
