-- What the comparison of classes decides.
use Rattle.std.specs.Prelude.{◌≡◌, true}
use Rattle.std.specs.Bool.{Decides}
use Rattle.std.proofs.Common.{refl, ap, ◌∙◌, ◌==◌, subst}
use Rattle.std.proofs.lemmas.Bool.{and_parts, and_from}
use Rattle.std.proofs.lemmas.Bool.Decides.{Decides-eqb}
use Rattle.ae_base.specs.declared.types.Ty.{Ty}
use Rattle.ae_base.specs.declared.types.Ty.TheVariants.{Int, BigInt, NVarChar, VarBinary}
use Rattle.enc_types.specs.Typing.{ty_eq}
use Rattle.scalar.specs.Classes.{Class, Open, Det, Rnd}
use Rattle.tap_listing.specs.Classes.{class_eq}

ty_same : (s t : Ty) → ty_eq s t ≡ true → s ≡ t
ty_same Int Int e = refl
ty_same Int BigInt e = absurd cc
ty_same Int (NVarChar n) e = absurd cc
ty_same Int (VarBinary n) e = absurd cc
ty_same BigInt Int e = absurd cc
ty_same BigInt BigInt e = refl
ty_same BigInt (NVarChar n) e = absurd cc
ty_same BigInt (VarBinary n) e = absurd cc
ty_same (NVarChar m) Int e = absurd cc
ty_same (NVarChar m) BigInt e = absurd cc
ty_same (NVarChar m) (NVarChar n) e = ap NVarChar ((Decides-eqb m n).0 e)
ty_same (NVarChar m) (VarBinary n) e = absurd cc
ty_same (VarBinary m) Int e = absurd cc
ty_same (VarBinary m) BigInt e = absurd cc
ty_same (VarBinary m) (NVarChar n) e = absurd cc
ty_same (VarBinary m) (VarBinary n) e = ap VarBinary ((Decides-eqb m n).0 e)

ty_itself : (t : Ty) → ty_eq t t ≡ true
ty_itself Int = refl
ty_itself BigInt = refl
ty_itself (NVarChar n) = (Decides-eqb n n).1 refl
ty_itself (VarBinary n) = (Decides-eqb n n).1 refl

class_itself : (c : Class) → class_eq c c ≡ true
class_itself Open = refl
class_itself (Det k t) = and_from (k == k) (ty_eq t t) ((Decides-eqb k k).1 refl) (ty_itself t)
class_itself (Rnd k t) = and_from (k == k) (ty_eq t t) ((Decides-eqb k k).1 refl) (ty_itself t)

class_same : (c d : Class) → class_eq c d ≡ true → c ≡ d
class_same Open Open e = refl
class_same Open (Det k t) e = absurd cc
class_same Open (Rnd k t) e = absurd cc
class_same (Det j s) Open e = absurd cc
class_same (Det j s) (Det k t) e = let p = and_parts (j == k) (ty_eq s t) e in ap (λ n. Det n s) ((Decides-eqb j k).0 p.0) ∙ ap (Det k) (ty_same s t p.1)
class_same (Det j s) (Rnd k t) e = absurd cc
class_same (Rnd j s) Open e = absurd cc
class_same (Rnd j s) (Det k t) e = absurd cc
class_same (Rnd j s) (Rnd k t) e = let p = and_parts (j == k) (ty_eq s t) e in ap (λ n. Rnd n s) ((Decides-eqb j k).0 p.0) ∙ ap (Rnd k) (ty_same s t p.1)

pub class_eq-Decides : (c d : Class) → Decides (class_eq c d) (c ≡ d)
class_eq-Decides c d = (class_same c d, λ e. subst (λ x. class_eq c x ≡ true) e (class_itself c))
