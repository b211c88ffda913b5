-- Small facts on tests.
use Rattle.std.proofs.Common.{◌≡◌, ℕ, List, [], ◌∷◌, refl, ap, sym, ◌∙◌, Option, Some, None, Bool, true, false, ◌==◌, ◌⊎◌, inl, inr}
use Rattle.std.specs.List.{list_all}
use Rattle.std.proofs.lemmas.Bool.Decides.{Decides-eqb, same_from_decides}
use Rattle.ae_base.specs.declared.types.Ty.{Ty}
use Rattle.ae_base.specs.declared.types.Ty.TheVariants.{Int, BigInt, NVarChar, VarBinary}
use Rattle.ae_base.specs.declared.types.Enc.{Enc}
use Rattle.ae_base.specs.declared.types.Enc.TheVariants.{Plain, Det, Rnd}
use Rattle.sql_tree.specs.declared.bound.ColumnSite.{ColumnSite}
use Rattle.enc_types.specs.Typing.{ty_eq, are_alike, is_plain, fixed}
use Rattle.enc_types.specs.Least.{is_open}
use Rattle.enc_types.specs.Clash.{IsAmong}
use Rattle.enc_types.specs.declared.sites.Site.{Site}
use Rattle.enc_types.specs.declared.rules.Rule.{Rule}
use Rattle.enc_types.proofs.Interface.{fixed_or_open, and_left, and_right}

eq_comm : (m n : ℕ) → (m == n) ≡ (n == m)
eq_comm m n = same_from_decides _ _ (Decides-eqb m n) ((λ e. sym ((Decides-eqb n m).0 e)), (λ e. (Decides-eqb n m).1 (sym e)))

ty_eq_comm : (s t : Ty) → ty_eq s t ≡ ty_eq t s
ty_eq_comm Int Int = refl
ty_eq_comm Int BigInt = refl
ty_eq_comm Int (NVarChar n) = refl
ty_eq_comm Int (VarBinary n) = refl
ty_eq_comm BigInt Int = refl
ty_eq_comm BigInt BigInt = refl
ty_eq_comm BigInt (NVarChar n) = refl
ty_eq_comm BigInt (VarBinary n) = refl
ty_eq_comm (NVarChar m) Int = refl
ty_eq_comm (NVarChar m) BigInt = refl
ty_eq_comm (NVarChar m) (NVarChar n) = eq_comm m n
ty_eq_comm (NVarChar m) (VarBinary n) = refl
ty_eq_comm (VarBinary m) Int = refl
ty_eq_comm (VarBinary m) BigInt = refl
ty_eq_comm (VarBinary m) (NVarChar n) = refl
ty_eq_comm (VarBinary m) (VarBinary n) = eq_comm m n

pub alike_comm : (a b : Option Ty) → are_alike a b ≡ are_alike b a
alike_comm None None = refl
alike_comm None (Some t) = refl
alike_comm (Some s) None = refl
alike_comm (Some s) (Some t) = ty_eq_comm s t

pub isnt_plain : (e : Enc) → ¬ (e ≡ Plain) → is_plain e ≡ false
isnt_plain Plain n = absurd (n refl)
isnt_plain (Det k) n = refl
isnt_plain (Rnd k) n = refl

pub true_false : {A : Type 0} (b : Bool) → b ≡ true → b ≡ false → A
true_false b e f = let g : true ≡ false = sym e ∙ f in absurd cc

pub among_holds : (p : Rule → Bool) (rules : List Rule) (rule : Rule) → list_all p rules ≡ true → IsAmong rules rule → p rule ≡ true
among_holds p [] rule h a = absurd a
among_holds p (first ∷ rules) rule h (inl e) = ap p e ∙ and_left _ _ h
among_holds p (first ∷ rules) rule h (inr a) = among_holds p rules rule (and_right _ _ h) a

-- a site with a fixed encryption isn't open
pub fixed_closed : (columns : List ColumnSite) (s : Site) (e : Enc) → fixed columns s ≡ Some e → is_open s ≡ false
fixed_closed columns s e f = go (fixed_or_open columns s)
  where
    go : ((d : Enc) × (fixed columns s ≡ Some d) × (is_open s ≡ false)) ⊎ ((fixed columns s ≡ None) × (is_open s ≡ true)) → is_open s ≡ false
    go (inl (d, g, o)) = o
    go (inr (g, o)) = let k : None ≡ Some e = sym g ∙ f in absurd cc
