use Rattle.std.proofs.Common.{◌∙◌, ap, List, ℕ, [], ◌∷◌}
use Rattle.std.specs.Simd.{first_chunks}
use Rattle.key_wrap.proofs.Rounds.{first_chunks-concat}
use Rattle.key_wrap.proofs.key_of.Goals as goal

pub returns-clause-cut : goal.returns-clause-cut
returns-clause-cut c =
    let blocks = first_chunks-concat 8 (c.args.r1.now ∷ c.args.r2.now ∷ c.args.r3.now ∷ c.args.r4.now ∷ []) (c.told-r1, (c.told-r2, (c.told-r3, (c.told-r4, tt)))) in
    ap (λ (key : List ℕ). first_chunks 8 4 key) (c.copy_from_slice.ensures.after ∙ c.as_flattened.ensures.value) ∙ blocks
