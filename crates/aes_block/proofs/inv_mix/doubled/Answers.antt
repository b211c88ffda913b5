use Rattle.std.proofs.Common.{◌≡◌, ℕ, List, length, ap, arith}
use Rattle.aes_block.specs.Planes.{bit}
use Rattle.aes_block.proofs.InvMix.{byte-doubled, plane-sum}
use Rattle.aes_block.proofs.Items.{item}
use Rattle.aes_block.proofs.inv_mix.doubled.Goals as goal

pub returns : goal.returns
returns c r k j =
    let la : length c.args.a ≡ 8 = omega arith in
    byte-doubled _ _ _ _ _ _ _ _ _ r k j
    (ap (λ (p : List ℕ). bit p r k j) (item _ 7 8 c.index-a-7.result la (omega arith)))
    (plane-sum _ _ 0 7 r k j c.index-a-0.result c.index-a-7.result _ la la (omega arith) (omega arith) (c.bitxor.ensures r k j))
    (ap (λ (p : List ℕ). bit p r k j) (item _ 1 8 c.index-a-1.result la (omega arith)))
    (plane-sum _ _ 2 7 r k j c.index-a-2.result c.index-a-7.result _ la la (omega arith) (omega arith) (c.bitxor-2.ensures r k j))
    (plane-sum _ _ 3 7 r k j c.index-a-3.result c.index-a-7.result _ la la (omega arith) (omega arith) (c.bitxor-3.ensures r k j))
    (ap (λ (p : List ℕ). bit p r k j) (item _ 4 8 c.index-a-4.result la (omega arith)))
    (ap (λ (p : List ℕ). bit p r k j) (item _ 5 8 c.index-a-5.result la (omega arith)))
    (ap (λ (p : List ℕ). bit p r k j) (item _ 6 8 c.index-a-6.result la (omega arith)))
