-- The best so far, as one more cell comes.
use Rattle.std.proofs.Common.{◌≡◌, ◌<◌, ◌+◌, ℕ, suc, List, [], length, drop, get_or, refl, ap, sym, ◌∙◌, arith, drop-cons}
use Rattle.cell_counts.specs.Counts.{commonest, placed}
use Rattle.cell_counts.specs.declared.frequent.Common.{Common}

abbrev common : ℕ → ℕ → Common
common n k = record { number = n; count = k }

pub goes_on : (best new : List Common) (n count : ℕ) (numbers : List ℕ) → n < length numbers → count ≡ get_or numbers n 0
    → new ≡ placed (common n count) best → commonest best n (drop n numbers) ≡ commonest [] 0 numbers
    → commonest new (n + 1) (drop (n + 1) numbers) ≡ commonest [] 0 numbers
goes_on best new n count numbers lt is e h =
    let one : n + 1 ≡ suc n = omega arith in
    ap (λ m. commonest new m (drop m numbers)) one
    ∙ ap (λ b. commonest b (suc n) (drop (suc n) numbers)) (e ∙ ap (λ k. placed (common n k) best) is)
    ∙ sym (ap (commonest best n) (drop-cons numbers n 0 lt))
    ∙ h
