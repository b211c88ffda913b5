-- The value that is computed of cell bytes is the one that has them.
use Rattle.std.proofs.Common.{
  ◌≡◌,
  ℕ,
  ◌<◌,
  ◌∙◌,
  ◌&&◌,
  true,
  cond,
  List,
  [],
  ◌∷◌,
  Option,
  Some,
  None,
  map,
  le-leb,
  leb-true,
  length,
  refl,
  sym,
  ap,
  ap₂,
  subst,
  arith,
  FitsSigned,
  w32,
  w64,
  pos,
  negsuc,
  ℤ,
}
use Rattle.std.specs.Bool.{Decides}
use Rattle.std.specs.List.{All, list_all, flat_map}
use Rattle.std.specs.Prelude.{nat_lt, unwrap_or, int_le}
use Rattle.std.specs.Str.{bytes_eq, all_scalars}
use Rattle.std.specs.Char.Escape.{encode_utf16}
use Rattle.std.specs.Char.Utf16.{utf16_lossy_chars}
use Rattle.std.proofs.lemmas.Bool.{and_parts, false≢true}
use Rattle.std.proofs.lemmas.Bool.Decides.{Decides-by_and, Decides-ltb}
use Rattle.std.proofs.lemmas.Int.{ints}
use Rattle.std.specs.Cmp.Derive.{both_true}
use Rattle.std.proofs.lemmas.Slice.Eq.{bytes_eq-Decides}
use Rattle.std.proofs.lemmas.Option.{cond_some}
use Rattle.ae_base.specs.Values.{is_within, units, DatumFits}
use Rattle.ae_base.specs.declared.values.Datum.{Datum}
use Rattle.ae_base.specs.declared.values.Datum.TheVariants.{Num, Text, Bin}
use Rattle.ae_base.specs.declared.types.Ty.{Ty}
use Rattle.ae_base.specs.declared.types.Ty.TheVariants.{Int, BigInt, NVarChar, VarBinary}
use Rattle.value_norm.specs.Norm.{norm, unit_bytes, utf16le, HasCellBytes}
use Rattle.value_norm.specs.Reading.{units_in, candidate, is_proper, value_of, ValueIsTheOne}
use Rattle.value_norm.proofs.Integers.{from_le_bytes-number_bytes}
use Rattle.value_norm.proofs.Units.{utf16_chars-units}

fits_int : (n : ℤ) → (int_le (negsuc 2147483647) n && int_le n (pos 2147483647)) ≡ true → FitsSigned w32 n
fits_int n is =
    let parts = and_parts (int_le (negsuc 2147483647) n) (int_le n (pos 2147483647)) is in
    grind (arith, ints)

fits_bigint : (n : ℤ) → (int_le (negsuc 9223372036854775807) n && int_le n (pos 9223372036854775807)) ≡ true → FitsSigned w64 n
fits_bigint n is =
    let parts = and_parts (int_le (negsuc 9223372036854775807) n) (int_le n (pos 9223372036854775807)) is in
    grind (arith, ints)

int_fits : (n : ℤ) → FitsSigned w32 n → (int_le (negsuc 2147483647) n && int_le n (pos 2147483647)) ≡ true
int_fits n fits = grind (arith, ints)

bigint_fits : (n : ℤ) → FitsSigned w64 n → (int_le (negsuc 9223372036854775807) n && int_le n (pos 9223372036854775807)) ≡ true
bigint_fits n fits = grind (arith, ints)

wider : (n : ℤ) → FitsSigned w32 n → FitsSigned w64 n
wider n fits = grind (arith, ints)

bytes-Decides : (bytes : List ℕ) → Decides (list_all (λ byte. nat_lt byte 256) bytes) (All (λ byte. byte < 256) bytes)
bytes-Decides = Decides-by_and (λ byte. nat_lt byte 256) (λ byte. byte < 256) (list_all (λ byte. nat_lt byte 256)) (λ byte. Decides-ltb byte 256) refl (λ _ _. refl)

-- the two tests decide whether a datum fits
fits-tests : (datum : Datum) (ty : Ty) → is_proper datum ≡ true → is_within datum ty ≡ true → DatumFits datum ty
fits-tests (Num n) Int proper within = let fits = fits_int n within in (wider n fits, fits)
fits-tests (Num n) BigInt proper within = let fits = fits_bigint n within in (fits, fits)
fits-tests (Num n) (NVarChar most) proper within = absurd (false≢true within)
fits-tests (Num n) (VarBinary most) proper within = absurd (false≢true within)
fits-tests (Text characters) Int proper within = absurd (false≢true within)
fits-tests (Text characters) BigInt proper within = absurd (false≢true within)
fits-tests (Text characters) (NVarChar most) proper within = (proper, leb-true (units characters) most within)
fits-tests (Text characters) (VarBinary most) proper within = absurd (false≢true within)
fits-tests (Bin bytes) Int proper within = absurd (false≢true within)
fits-tests (Bin bytes) BigInt proper within = absurd (false≢true within)
fits-tests (Bin bytes) (NVarChar most) proper within = absurd (false≢true within)
fits-tests (Bin bytes) (VarBinary most) proper within = ((bytes-Decides bytes).0 proper, leb-true (length bytes) most within)

tests-fits : (datum : Datum) (ty : Ty) → DatumFits datum ty → (is_proper datum && is_within datum ty) ≡ true
tests-fits (Num n) Int fits = int_fits n fits.1
tests-fits (Num n) BigInt fits = bigint_fits n fits.1
tests-fits (Num n) (NVarChar most) fits = absurd fits.1
tests-fits (Num n) (VarBinary most) fits = absurd fits.1
tests-fits (Text characters) Int fits = absurd fits.1
tests-fits (Text characters) BigInt fits = absurd fits.1
tests-fits (Text characters) (NVarChar most) fits = both_true fits.0 (le-leb (units characters) most fits.1)
tests-fits (Text characters) (VarBinary most) fits = absurd fits.1
tests-fits (Bin bytes) Int fits = absurd fits.1
tests-fits (Bin bytes) BigInt fits = absurd fits.1
tests-fits (Bin bytes) (NVarChar most) fits = absurd fits.1
tests-fits (Bin bytes) (VarBinary most) fits = both_true ((bytes-Decides bytes).1 fits.0) (le-leb (length bytes) most fits.1)

units_in-bytes : (units : List ℕ) → units_in (flat_map unit_bytes units) ≡ units
units_in-bytes [] = refl
units_in-bytes (u ∷ us) = ap₂ (λ unit rest. unit ∷ rest) (omega arith) (units_in-bytes us)

map_some_back : (characters : List ℕ) → map (λ o. unwrap_or o 0xFFFD) (map Some characters) ≡ characters
map_some_back [] = refl
map_some_back (c ∷ cs) = ap (λ rest. c ∷ rest) (map_some_back cs)

-- what a text's bytes may be is that text
text-back : (characters : List ℕ) → all_scalars characters ≡ true → utf16_lossy_chars (units_in (utf16le characters)) ≡ characters
text-back characters proper =
    ap utf16_lossy_chars (units_in-bytes (flat_map encode_utf16 characters))
    ∙ ap (map (λ o. unwrap_or o 0xFFFD)) (utf16_chars-units characters proper)
    ∙ map_some_back characters

-- what the bytes of a datum that fits may be is that datum
candidate-norm : (datum : Datum) (ty : Ty) → DatumFits datum ty → candidate (norm datum ty) ty ≡ datum
candidate-norm (Num n) Int fits = ap Num (from_le_bytes-number_bytes n fits.0)
candidate-norm (Num n) BigInt fits = ap Num (from_le_bytes-number_bytes n fits.0)
candidate-norm (Num n) (NVarChar most) fits = absurd fits.1
candidate-norm (Num n) (VarBinary most) fits = absurd fits.1
candidate-norm (Text characters) Int fits = absurd fits.1
candidate-norm (Text characters) BigInt fits = absurd fits.1
candidate-norm (Text characters) (NVarChar most) fits = ap Text (text-back characters fits.0)
candidate-norm (Text characters) (VarBinary most) fits = absurd fits.1
candidate-norm (Bin bytes) Int fits = absurd fits.1
candidate-norm (Bin bytes) BigInt fits = absurd fits.1
candidate-norm (Bin bytes) (NVarChar most) fits = absurd fits.1
candidate-norm (Bin bytes) (VarBinary most) fits = refl

value_of-sound : (bytes : List ℕ) (ty : Ty) (datum : Datum) → value_of bytes ty ≡ Some datum → HasCellBytes datum ty bytes
unfolding value_of
value_of-sound bytes ty datum is =
    let found : Datum = candidate bytes ty in
    let chosen = cond_some (is_proper found && is_within found ty && bytes_eq (norm found ty) bytes) found datum is in
    let parts = and_parts (is_proper found && is_within found ty) (bytes_eq (norm found ty) bytes) chosen.0 in
    let tests = and_parts (is_proper found) (is_within found ty) parts.0 in
    subst (λ d. HasCellBytes d ty bytes) chosen.1
    (record { fits = fits-tests found ty tests.0 tests.1; spelled = (bytes_eq-Decides (norm found ty) bytes).0 parts.1 })

pub value_of-complete : (bytes : List ℕ) (ty : Ty) (datum : Datum) → HasCellBytes datum ty bytes → value_of bytes ty ≡ Some datum
unfolding value_of
value_of-complete bytes ty datum has =
    let same : candidate bytes ty ≡ datum = ap (λ b. candidate b ty) (sym has.spelled) ∙ candidate-norm datum ty has.fits in
    let test : (is_proper datum && is_within datum ty && bytes_eq (norm datum ty) bytes) ≡ true =
    both_true (tests-fits datum ty has.fits) ((bytes_eq-Decides (norm datum ty) bytes).1 has.spelled) in
    ap (λ d. cond (is_proper d && is_within d ty && bytes_eq (norm d ty) bytes) (Some d) None) same ∙ ap (λ t. cond t (Some datum) None) test

pub value_of-the_one : ValueIsTheOne
value_of-the_one bytes ty datum = (value_of-sound bytes ty datum, value_of-complete bytes ty datum)

none_from : (found : Option Datum) → ((datum : Datum) → ¬ (found ≡ Some datum)) → found ≡ None
none_from None lacks = refl
none_from (Some datum) lacks = absurd (lacks datum refl)

-- where no value has the bytes, none is computed
pub value_of-none : (bytes : List ℕ) (ty : Ty) → ((datum : Datum) → ¬ (HasCellBytes datum ty bytes)) → value_of bytes ty ≡ None
value_of-none bytes ty lacks = none_from (value_of bytes ty) (λ datum is. lacks datum (value_of-sound bytes ty datum is))
