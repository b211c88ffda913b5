-- What the comparisons of values decide.
use Rattle.std.specs.Prelude.{◌≡◌}
use Rattle.std.specs.Bool.{Decides}
use Rattle.std.proofs.Common.{ap}
use Rattle.std.proofs.lemmas.Slice.Eq.{bytes_eq-Decides}
use Rattle.std.proofs.lemmas.Bool.Decides.{Decides-int_eq}
use Rattle.ae_base.specs.Values.{datum_eq}
use Rattle.ae_base.specs.declared.values.Datum.{Datum}
use Rattle.ae_base.specs.declared.values.Datum.TheVariants.{Num, Text, Bin}

pub datum_eq-Decides : (a b : Datum) → Decides (datum_eq a b) (a ≡ b)
datum_eq-Decides (Num a) (Num b) = (λ e. ap Num ((Decides-int_eq a b).0 e), λ e. (Decides-int_eq a b).1 cc)
datum_eq-Decides (Num a) (Text b) = (λ e. cc, λ e. cc)
datum_eq-Decides (Num a) (Bin b) = (λ e. cc, λ e. cc)
datum_eq-Decides (Text a) (Num b) = (λ e. cc, λ e. cc)
datum_eq-Decides (Text a) (Text b) = (λ e. ap Text ((bytes_eq-Decides a b).0 e), λ e. (bytes_eq-Decides a b).1 cc)
datum_eq-Decides (Text a) (Bin b) = (λ e. cc, λ e. cc)
datum_eq-Decides (Bin a) (Num b) = (λ e. cc, λ e. cc)
datum_eq-Decides (Bin a) (Text b) = (λ e. cc, λ e. cc)
datum_eq-Decides (Bin a) (Bin b) = (λ e. ap Bin ((bytes_eq-Decides a b).0 e), λ e. (bytes_eq-Decides a b).1 cc)
