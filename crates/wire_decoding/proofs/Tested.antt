-- A value where it meets its conditions, and the same as a test.
use Rattle.std.proofs.Common.{◌≡◌, ◌↔◌, Bool, true, false, cond, ◌&&◌, Option, Some, None, IfSome, IsSome, refl, ap}
use Rattle.ae_base.specs.Options.{◌>>=◌}
use Rattle.wire_decoding.specs.Reading.{when, made_when}
use Rattle.wire_decoding.proofs.Takes.{some}

yes : {A : Type 0} (b : Bool) (x y : A) → b ≡ true → y ≡ x → some y ≡ cond b (Some x) None
yes true x y t same = ap some same
yes false x y t same = absurd cc

no : {A : Type 0} (b : Bool) (x : A) → ¬ (b ≡ true) → None ≡ cond b (Some x) None
no true x n = absurd (n refl)
no false x n = refl

nothing : (A : Type 0) → IsSome {T = A} None → ⊥
nothing A e = absurd cc

pub tested : {A : Type 0} (result : Option A) (test : A → Bool) (P : A → Type 0) (x : A) → IfSome result (λ y. y ≡ x) → (IsSome result ↔ P x) → (test x ≡ true → P x) → (P x → test x ≡ true)
    → result ≡ when test x
tested (Some y) test P x same exactly from to = yes (test x) x y (to (exactly.0 refl)) same
tested {A} None test P x same exactly from to = no (test x) x (λ t. nothing A (exactly.1 (from t)))

yes_made : {A B : Type 0} (b : Bool) (f : A → B) (x : A) (y : B) → b ≡ true → y ≡ f x → some y ≡ (cond b (Some x) None >>= λ z. Some (f z))
yes_made true f x y t same = ap some same
yes_made false f x y t same = absurd cc

no_made : {A B : Type 0} (b : Bool) (f : A → B) (x : A) → ¬ (b ≡ true) → None ≡ (cond b (Some x) None >>= λ z. Some (f z))
no_made true f x n = absurd (n refl)
no_made false f x n = refl

-- what is made of it
pub made : {A B : Type 0} (result : Option B) (test : A → Bool) (P : A → Type 0) (f : A → B) (x : A)
    → IfSome result (λ y. y ≡ f x) → (IsSome result ↔ P x) → (test x ≡ true → P x) → (P x → test x ≡ true)
    → result ≡ made_when test f x
made (Some y) test P f x same exactly from to = yes_made (test x) f x y (to (exactly.0 refl)) same
made {A} {B} None test P f x same exactly from to = no_made (test x) f x (λ t. nothing B (exactly.1 (from t)))

pub none_and : {A : Type 0} (a b : Bool) (x : A) → None ≡ cond a (Some x) None → None ≡ cond (a && b) (Some x) None
none_and true b x e = absurd cc
none_and false b x e = refl
