use Rattle.std.proofs.Common.{ℕ, bit_xor, ap, ap₂, ◌∙◌}
use Rattle.aes_block.specs.Planes.{byte}
use Rattle.aes_block.proofs.InvMix.{byte-lt}
use Rattle.aes_block.proofs.InvMixSteps.{inv_mixed-column, AreSteps}
use Rattle.aes_block.proofs.inv_mix.inv_mixed.Goals as goal

pub returns : goal.returns
returns c k j lk =
    let x : ℕ → ℕ = λ r. byte c.args.planes r k j in
    let even : ℕ → ℕ = λ r. byte c.summed-even.result r k j in
    let y : ℕ → ℕ = λ r. byte c.summed-y.result r k j in
    let d : ℕ → ℕ = λ r. byte c.summed-d.result r k j in
    let z : ℕ → ℕ = λ r. byte c.summed-2.result r k j in
    let steps : AreSteps x even y d z = record {
      even_is = λ r lr. c.summed-even.ensures r k j ∙ ap (bit_xor (x r)) (c.second_rows.ensures r k j lr lk);
      y_is = λ r lr. c.summed-y.ensures r k j ∙ ap (bit_xor (x r)) (c.fourfold.ensures r k j);
      d_is = λ r lr. c.summed-d.ensures r k j ∙ ap (bit_xor (y r)) (c.next_rows-next.ensures r k j lr lk);
      z_is = λ r lr. c.summed-2.ensures r k j
          ∙ ap₂ bit_xor (c.summed.ensures r k j ∙ ap₂ bit_xor (c.doubled.ensures r k j) (c.next_rows-next.ensures r k j lr lk))
          (c.second_rows-2.ensures r k j lr lk);
    } in
    inv_mixed-column x even y d z (λ r. byte-lt c.args.planes r k j) steps
