use Rattle.std.proofs.Common.{◌≡◌, ◌-◌, ◌<◌, length, sym, ◌∙◌, [], arith, map, slice_index_or}
use Rattle.std.proofs.lemmas.List.{get_or-map, get_or_default, length-map, same_lists}
use Rattle.aes_block.specs.Equivalent.{equivalent_cipher}
use Rattle.aes_block.proofs.PlaneRounds.{round-more, rounds-first, rounds-last}
use Rattle.aes_block.proofs.eights.equivalent_ciphers.Goals as goal

pub loop-round-init : goal.loop-round-init
loop-round-init c = record {
  in_range = omega arith;
  so_far = λ words are j low.
      rounds-first words c.args.keys.now c.planes_of.result c.summed-planes.result (slice_index_or c.args.blocks.now j []) j are low
      (c.planes_of.ensures.value j low) c.summed-planes.ensures;
}

pub loop-round-preserved : goal.loop-round-preserved
loop-round-preserved c = record {
  in_range = omega arith;
  so_far = λ words are j low.
      round-more words c.args.keys.now (c.loop-round.round - 1) (14 - c.loop-round.round) (14 - (c.loop-round.round - 1))
      c.loop-round.planes c.inv_substituted.result c.inv_shifted.result c.inv_mixed.result c.summed-planes-in-loop-round.result
      (slice_index_or c.args.blocks.now j []) j are low (omega arith) (omega arith) (omega (arith, c.loop-round.invariant.in_range)) (omega (arith, c.loop-round.invariant.in_range))
      c.inv_substituted.ensures c.inv_shifted.ensures c.inv_mixed.ensures c.summed-planes-in-loop-round.ensures
      (c.loop-round.invariant.so_far words are j low);
}

pub returns-clause-value : goal.returns-clause-value
returns-clause-value c words are =
    let last : 14 - c.loop-round.round ≡ 13 = omega (arith, c.loop-round.invariant.in_range) in
    let blocks : length c.args.blocks.now ≡ 8 = c.told-blocks in
    let long : length c.blocks_of.result ≡ 8 = omega arith in
    let wanted : length (map (equivalent_cipher words) c.args.blocks.now) ≡ 8 = length-map c.args.blocks.now (equivalent_cipher words) ∙ blocks in
    same_lists c.blocks_of.result (map (equivalent_cipher words) c.args.blocks.now) (long ∙ sym wanted)
    (λ j d in_result.
    let low : j < 8 = omega (arith, long) in
    get_or_default c.blocks_of.result j d [] in_result
    ∙ c.blocks_of.ensures j low
    ∙ rounds-last words c.args.keys.now c.loop-round.planes c.inv_substituted-2.result c.inv_shifted-2.result c.summed.result
    (slice_index_or c.args.blocks.now j []) j are low
    c.inv_substituted-2.ensures c.inv_shifted-2.ensures c.summed.ensures
    (rw last at c.loop-round.invariant.so_far words are j low)
    ∙ sym (get_or-map (equivalent_cipher words) c.args.blocks.now j [] d (omega (arith, blocks))))

pub returns-clause-are_blocks : goal.returns-clause-are_blocks
returns-clause-are_blocks c = c.planes_of.ensures.are_blocks
