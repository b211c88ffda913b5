-- Parts that are bound one after another.
use Rattle.std.proofs.Common.{◌≡◌, refl, ap, subst, ◌∙◌, Result, Ok, Err}
use Rattle.ae_base.specs.Results.{◌>>=◌}

pub one_part : {A B E : Type 0} (x : Result A E) (c : A → B) (b : B) (Q : B → Type 0) → (x >>= λ a. Ok (c a)) ≡ Ok b → ((a : A) → x ≡ Ok a → Q (c a)) → Q b
one_part (Ok a) c b Q e h = let i : c a ≡ b = cc in subst Q i (h a refl)
one_part (Err x) c b Q e h = cc

pub two_parts : {A B C E : Type 0} (x : Result A E) (y : Result B E) (c : A → B → C) (d : C) (Q : C → Type 0) → (x >>= λ a. y >>= λ b. Ok (c a b)) ≡ Ok d
    → ((a : A) (b : B) → x ≡ Ok a → y ≡ Ok b → Q (c a b)) → Q d
two_parts (Ok a) (Ok b) c d Q e h = let i : c a b ≡ d = cc in subst Q i (h a b refl refl)
two_parts (Ok a) (Err z) c d Q e h = cc
two_parts (Err z) y c d Q e h = cc

pub first_part : {A B E : Type 0} (x : Result A E) (k : A → Result B E) (b : B) (Q : Type 0) → (x >>= k) ≡ Ok b → ((a : A) → x ≡ Ok a → k a ≡ Ok b → Q) → Q
first_part (Ok a) k b Q e h = h a refl e
first_part (Err z) k b Q e h = cc

pub one_ok : {A B E : Type 0} (x : Result A E) (a : A) (k : A → Result B E) (r : Result B E) → x ≡ Ok a → k a ≡ r → (x >>= k) ≡ r
one_ok x a k r e h = ap (λ z. z >>= k) e ∙ h

pub two_ok : {A B C E : Type 0} (x : Result A E) (y : Result B E) (c : A → B → C) (a : A) (b : B) → x ≡ Ok a → y ≡ Ok b → (x >>= λ p. y >>= λ q. Ok (c p q)) ≡ Ok (c a b)
two_ok x y c a b e f = ap (λ z. z >>= λ p. y >>= λ q. Ok (c p q)) e ∙ ap (λ z. z >>= λ q. Ok (c a q)) f
