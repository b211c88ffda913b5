-- Whether two sites are one.
use Rattle.std.specs.Prelude.{◌≡◌, Bool, true, false, ◌==◌, refl}
use Rattle.std.specs.Bool.{Decides}
use Rattle.std.proofs.Common.{ap}
use Rattle.std.proofs.lemmas.Bool.Decides.{Decides-eqb}
use Rattle.enc_types.specs.declared.sites.Site.{Site}
use Rattle.enc_types.specs.declared.sites.Site.TheVariants.{Column, Param, Null, Fixed}

abbrev pub site_eq : Site → Site → Bool
site_eq (Column i) (Column j) = i == j
site_eq (Column i) (Param j) = false
site_eq (Column i) (Null j) = false
site_eq (Column i) Fixed = false
site_eq (Param i) (Column j) = false
site_eq (Param i) (Param j) = i == j
site_eq (Param i) (Null j) = false
site_eq (Param i) Fixed = false
site_eq (Null i) (Column j) = false
site_eq (Null i) (Param j) = false
site_eq (Null i) (Null j) = i == j
site_eq (Null i) Fixed = false
site_eq Fixed (Column j) = false
site_eq Fixed (Param j) = false
site_eq Fixed (Null j) = false
site_eq Fixed Fixed = true

pub site_eq-Decides : (a b : Site) → Decides (site_eq a b) (a ≡ b)
site_eq-Decides (Column i) (Column j) = (λ e. ap Column ((Decides-eqb i j).0 e), λ e. (Decides-eqb i j).1 cc)
site_eq-Decides (Column i) (Param j) = (λ e. cc, λ e. cc)
site_eq-Decides (Column i) (Null j) = (λ e. cc, λ e. cc)
site_eq-Decides (Column i) Fixed = (λ e. cc, λ e. cc)
site_eq-Decides (Param i) (Column j) = (λ e. cc, λ e. cc)
site_eq-Decides (Param i) (Param j) = (λ e. ap Param ((Decides-eqb i j).0 e), λ e. (Decides-eqb i j).1 cc)
site_eq-Decides (Param i) (Null j) = (λ e. cc, λ e. cc)
site_eq-Decides (Param i) Fixed = (λ e. cc, λ e. cc)
site_eq-Decides (Null i) (Column j) = (λ e. cc, λ e. cc)
site_eq-Decides (Null i) (Param j) = (λ e. cc, λ e. cc)
site_eq-Decides (Null i) (Null j) = (λ e. ap Null ((Decides-eqb i j).0 e), λ e. (Decides-eqb i j).1 cc)
site_eq-Decides (Null i) Fixed = (λ e. cc, λ e. cc)
site_eq-Decides Fixed (Column j) = (λ e. cc, λ e. cc)
site_eq-Decides Fixed (Param j) = (λ e. cc, λ e. cc)
site_eq-Decides Fixed (Null j) = (λ e. cc, λ e. cc)
site_eq-Decides Fixed Fixed = (λ e. refl, λ e. refl)
