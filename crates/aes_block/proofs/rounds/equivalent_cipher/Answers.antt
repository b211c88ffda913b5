use Rattle.std.proofs.Common.{◌≡◌, ◌-◌, arith}
use Rattle.aes_block.specs.Equivalent.{equivalent_cipher}
use Rattle.aes_block.specs.Columns.{state_of, words_of}
use Rattle.aes_block.proofs.RoundSteps.{equivalent_rounds-first, equivalent_rounds-more}
use Rattle.aes_block.proofs.rounds.equivalent_cipher.Goals as goal

pub loop-round-init : goal.loop-round-init
loop-round-init c = record {
  in_range = omega arith;
  so_far = let first = equivalent_rounds-first (words_of c.args.words.now) c.args.block.now in cc;
}

pub loop-round-preserved : goal.loop-round-preserved
loop-round-preserved c = record {
  in_range = omega arith;
  so_far =
      let more = equivalent_rounds-more (words_of c.args.words.now) c.args.block.now (state_of c.loop-round.state)
      (14 - c.loop-round.round) (14 - (c.loop-round.round - 1)) (c.loop-round.round - 1) (omega arith) (omega arith) c.loop-round.invariant.so_far in
      cc;
}

pub returns : goal.returns
unfolding equivalent_cipher
returns c =
    let last : 14 - c.loop-round.round ≡ 13 = omega (arith, c.loop-round.invariant.in_range) in
    let thirteen = rw last at c.loop-round.invariant.so_far in
    cc
