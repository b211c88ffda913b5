-- What the comparison of atoms decides.
use Rattle.std.specs.Prelude.{◌≡◌}
use Rattle.std.specs.Bool.{Decides}
use Rattle.std.proofs.Common.{ap}
use Rattle.std.proofs.lemmas.Slice.Eq.{bytes_eq-Decides}
use Rattle.ae_base.specs.Atoms.{Atom, alike}
use Rattle.ae_base.specs.ValueLaws.{datum_eq-Decides}
use Rattle.ae_base.specs.declared.atoms.AtomOf.TheVariants.{Null, Plain, Sealed}

pub alike-Decides : (a b : Atom) → Decides (alike a b) (a ≡ b)
alike-Decides Null Null = (λ e. cc, λ e. cc)
alike-Decides Null (Plain b) = (λ e. cc, λ e. cc)
alike-Decides Null (Sealed b) = (λ e. cc, λ e. cc)
alike-Decides (Plain a) Null = (λ e. cc, λ e. cc)
alike-Decides (Plain a) (Plain b) = (λ e. ap Plain ((datum_eq-Decides a b).0 e), λ e. (datum_eq-Decides a b).1 cc)
alike-Decides (Plain a) (Sealed b) = (λ e. cc, λ e. cc)
alike-Decides (Sealed a) Null = (λ e. cc, λ e. cc)
alike-Decides (Sealed a) (Plain b) = (λ e. cc, λ e. cc)
alike-Decides (Sealed a) (Sealed b) = (λ e. ap Sealed ((bytes_eq-Decides a b).0 e), λ e. (bytes_eq-Decides a b).1 cc)
