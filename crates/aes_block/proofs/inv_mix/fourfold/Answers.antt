use Rattle.std.proofs.Common.{◌≡◌, ℕ, ◌+◌, ◌%◌, List, length, ap, ap₂, ◌∙◌, arith}
use Rattle.aes_block.specs.Planes.{bit, plane}
use Rattle.aes_block.proofs.InvMix.{byte-fourfold, plane-sum}
use Rattle.aes_block.proofs.Items.{item}
use Rattle.aes_block.proofs.inv_mix.fourfold.Goals as goal

pub returns : goal.returns
returns c r k j =
    let la : length c.args.a ≡ 8 = omega arith in
    let high : bit c.bitxor-high.result r k j ≡ (bit (plane c.args.a 6) r k j + bit (plane c.args.a 7) r k j) % 2 =
    plane-sum _ _ 6 7 r k j c.index-a-6.result c.index-a-7.result _ la la (omega arith) (omega arith) (c.bitxor-high.ensures r k j) in
    byte-fourfold _ _ _ _ _ _ _ _ _ r k j
    (ap (λ (p : List ℕ). bit p r k j) (item _ 6 8 c.index-a-6.result la (omega arith)))
    high
    (plane-sum _ _ 0 7 r k j c.index-a-0.result c.index-a-7.result _ la la (omega arith) (omega arith) (c.bitxor.ensures r k j))
    (plane-sum _ _ 1 6 r k j c.index-a-1.result c.index-a-6.result _ la la (omega arith) (omega arith) (c.bitxor-2.ensures r k j))
    (c.bitxor-3.ensures r k j ∙ ap₂ (λ (m n : ℕ). (m + n) % 2) (ap (λ (p : List ℕ). bit p r k j) (item _ 2 8 c.index-a-2.result la (omega arith))) high)
    (plane-sum _ _ 3 7 r k j c.index-a-3.result c.index-a-7.result _ la la (omega arith) (omega arith) (c.bitxor-4.ensures r k j))
    (ap (λ (p : List ℕ). bit p r k j) (item _ 4 8 c.index-a-4.result la (omega arith)))
    (ap (λ (p : List ℕ). bit p r k j) (item _ 5 8 c.index-a-5.result la (omega arith)))
