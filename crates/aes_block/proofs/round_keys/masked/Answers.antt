use Rattle.std.proofs.Common.{◌≡◌, ◌∙◌, map, length, bit_xor, slice_index, refl, ap, arith}
use Rattle.std.proofs.lemmas.List.FromFn.{fill_by_all}
use Rattle.std.proofs.lemmas.Simd.{zip2_splat}
use Rattle.aes_block.specs.RoundKeys.{masked}
use Rattle.aes_block.proofs.round_keys.masked.Goals as goal

pub returns : goal.returns
unfolding masked
returns c =
    let long : length c.args.block ≡ 16 = omega arith in
    zip2_splat _ c.args.block 16 0x63 long
    ∙ ap (map (λ x. bit_xor x 0x63)) (fill_by_all (λ k. slice_index c.args.block k) c.args.block 16 0 long (λ k _. refl))
