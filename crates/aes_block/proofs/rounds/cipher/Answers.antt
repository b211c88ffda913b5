use Rattle.std.proofs.Common.{◌≡◌, ◌+◌, ◌-◌, arith}
use Rattle.aes_block.specs.Aes.{cipher}
use Rattle.aes_block.specs.Columns.{state_of, words_of}
use Rattle.aes_block.proofs.RoundSteps.{rounds-first, rounds-more}
use Rattle.aes_block.proofs.rounds.cipher.Goals as goal

pub loop-round-init : goal.loop-round-init
loop-round-init c = let first = rounds-first (words_of c.args.words.now) c.args.block.now in cc

pub loop-round-preserved : goal.loop-round-preserved
loop-round-preserved c =
    let more = rounds-more (words_of c.args.words.now) c.args.block.now (state_of c.loop-round.state) (c.loop-round.round - 1) c.loop-round.round (omega arith) c.loop-round.invariant in
    let same : c.loop-round.round + 1 - 1 ≡ c.loop-round.round = omega arith in
    rw same (cc)

pub returns : goal.returns
unfolding cipher
returns c =
    let last : c.loop-round.round - 1 ≡ 13 = omega arith in
    let thirteen = rw last at c.loop-round.invariant in
    cc
