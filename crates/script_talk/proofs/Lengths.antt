-- Cells of values that are equally long are equally long.
use Rattle.std.proofs.Common.{◌≡◌, ℕ, ℤ, ◌+◌, ◌*◌, List, length, true, sym, ap, ◌∙◌, subst, arith}
use Rattle.std.specs.Prelude.{◌/◌, FitsSigned, pos, negsuc}
use Rattle.std.specs.Int.{w32, w64}
use Rattle.std.proofs.lemmas.Bool.Decides.{nat_tests}
use Rattle.ae_base.specs.Values.{DatumFits, IsWithin, is_within}
use Rattle.ae_base.specs.declared.types.Ty.{Ty}
use Rattle.ae_base.specs.declared.types.Ty.TheVariants as ty
use Rattle.ae_base.specs.declared.values.Datum.{Datum}
use Rattle.ae_base.specs.declared.values.Datum.TheVariants as datum
use Rattle.aes_block.specs.Aes.{IsBlock, IsKey}
use Rattle.hmac_kdf.specs.Keys.{Keys, keys_of}
use Rattle.value_norm.specs.Laws.{NormIsBounded}
use Rattle.value_norm.specs.Norm.{norm}
use Rattle.key_store.specs.Laws.{OpenedAreDerived}
use Rattle.cell_codec.specs.Cells.{cell_of}
use Rattle.cell_codec.specs.Laws.{SealedIsCell, DerivedAreKeys, IvIsBlock}

-- what is needed of keys and cells
pub record CellLaws : Type 0 where
  pub opened : OpenedAreDerived
  pub cell : SealedIsCell
  pub derived : DerivedAreKeys
  pub vector : IvIsBlock
  pub bounded : NormIsBounded

pub as_long : CellLaws → (found : Keys) (key : List ℕ) → found ≡ keys_of key → (iv other : List ℕ) → IsBlock iv → IsBlock other → (ty : Ty) (d e : Datum)
    → DatumFits d ty × DatumFits e ty × (length (norm e ty) ≡ length (norm d ty)) → length (cell_of found other (norm e ty)) ≡ length (cell_of found iv (norm d ty))
as_long below found key is iv other i o ty d e fits =
    let k : IsKey found.enc_key = subst (λ (ks : Keys). IsKey ks.enc_key) (sym is) (below.derived key) in
    let one = below.cell found iv (norm d ty) k i (below.bounded ty d fits.0).0 in
    let two = below.cell found other (norm e ty) k o (below.bounded ty e fits.1).0 in
    two.long ∙ ap (λ n. 49 + (n / 16 + 1) * 16) fits.2 ∙ sym one.long

within_32 : (n : ℤ) → FitsSigned w32 n → is_within (datum.Num n) ty.Int ≡ true
within_32 (pos n) h = grind (arith, nat_tests)
within_32 (negsuc n) h = grind (arith, nat_tests)

within_64 : (n : ℤ) → FitsSigned w64 n → is_within (datum.Num n) ty.BigInt ≡ true
within_64 (pos n) h = grind (arith, nat_tests)
within_64 (negsuc n) h = grind (arith, nat_tests)

pub within_so : (d : Datum) (t : Ty) → IsWithin d t → is_within d t ≡ true
within_so (datum.Num n) ty.Int h = within_32 n h
within_so (datum.Num n) ty.BigInt h = within_64 n h
within_so (datum.Text characters) (ty.NVarChar most) h = grind (arith, nat_tests)
within_so (datum.Bin bytes) (ty.VarBinary most) h = grind (arith, nat_tests)
within_so d t h = absurd h
