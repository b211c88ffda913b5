-- Calls one after another: a value goes on to the next, a fault stays.
use Rattle.std.proofs.Common.{◌≡◌, ◌∙◌, Result, Ok, Err, sym, ap, subst}
use Rattle.ae_base.specs.Results.{◌>>=◌, Answers, AnswersAs}
use Rattle.ae_base.specs.declared.refusals.Refusal.{Refusal}
use Rattle.ae_base.specs.declared.refusals.Refusal.TheVariants.{Fault, OutOfMemory}

module _ {X Y Z W E : Type 0} (view : X → Y) (outward : Z → W) (first : Result Y E) (next : Y → Result W E) where
  pub goes_on : (x : X) (result : Result Z (Refusal E)) → first ≡ Ok (view x) → AnswersAs outward result (next (view x)) → AnswersAs outward result (first >>= next)
  goes_on x result e a = subst (λ (r : Result Y E). AnswersAs outward result (r >>= next)) (sym e) a

  pub stays : (e : Refusal E) → AnswersAs {A = X} view (Err e) first → AnswersAs {A = Z} outward (Err e) (first >>= next)
  stays (Fault f) a = ap (λ (r : Result Y E). r >>= next) a
  stays OutOfMemory a = tt

module _ {X Y W E : Type 0} (view : X → Y) (first : Result Y E) (next : Y → Result W E) where
  -- the same where the whole is answered as it is
  pub answers : (x : X) (w : W) → first ≡ Ok (view x) → next (view x) ≡ Ok w → Answers (Ok w) (first >>= next)
  answers x w e a = ap (λ (r : Result Y E). r >>= next) e ∙ a
