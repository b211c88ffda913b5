use Rattle.std.proofs.Common.{◌≡◌, ℕ, ◌+◌, ◌%◌, List, length, ap, ◌∙◌, arith}
use Rattle.aes_block.specs.Planes.{bit}
use Rattle.aes_block.proofs.InvMix.{byte-moved}
use Rattle.aes_block.proofs.Items.{item}
use Rattle.aes_block.proofs.inv_mix.second_rows.Goals as goal

pub returns : goal.returns
returns c r k j lr lk =
    let la : length c.args.a ≡ 8 = omega arith in
    byte-moved _ _ _ _ _ _ _ _ _ r k j ((r + 2) % 4)
    (c.second_rows.ensures r k j lr lk ∙ ap (λ (p : List ℕ). bit p ((r + 2) % 4) k j) (item _ 0 8 c.index-a-0.result la (omega arith)))
    (c.second_rows-2.ensures r k j lr lk ∙ ap (λ (p : List ℕ). bit p ((r + 2) % 4) k j) (item _ 1 8 c.index-a-1.result la (omega arith)))
    (c.second_rows-3.ensures r k j lr lk ∙ ap (λ (p : List ℕ). bit p ((r + 2) % 4) k j) (item _ 2 8 c.index-a-2.result la (omega arith)))
    (c.second_rows-4.ensures r k j lr lk ∙ ap (λ (p : List ℕ). bit p ((r + 2) % 4) k j) (item _ 3 8 c.index-a-3.result la (omega arith)))
    (c.second_rows-5.ensures r k j lr lk ∙ ap (λ (p : List ℕ). bit p ((r + 2) % 4) k j) (item _ 4 8 c.index-a-4.result la (omega arith)))
    (c.second_rows-6.ensures r k j lr lk ∙ ap (λ (p : List ℕ). bit p ((r + 2) % 4) k j) (item _ 5 8 c.index-a-5.result la (omega arith)))
    (c.second_rows-7.ensures r k j lr lk ∙ ap (λ (p : List ℕ). bit p ((r + 2) % 4) k j) (item _ 6 8 c.index-a-6.result la (omega arith)))
    (c.second_rows-8.ensures r k j lr lk ∙ ap (λ (p : List ℕ). bit p ((r + 2) % 4) k j) (item _ 7 8 c.index-a-7.result la (omega arith)))
