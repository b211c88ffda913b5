-- One place more.
use Rattle.std.proofs.Common.{◌≡◌, ◌+◌, ◌-◌, length, arith}
use Rattle.key_index.proofs.levels.copied.Goals as goal

pub loop-i-preserved : goal.loop-i-preserved
loop-i-preserved g c =
    let n = length c.args.level.now.entries in
    let at = c.len-in-loop-i.result - 1 - c.loop-i.i in
    let next : n - (c.loop-i.i + 1) ≡ at = omega (arith, c.len-in-loop-i.ensures.len) in
    let last : at + 1 ≡ n - c.loop-i.i = omega (arith, c.len-in-loop-i.ensures.len, c.len-i-end.ensures.len, c.loop-i-test.true) in
    λ before key. rw next (c.in_ok-say_again.ensures before key (rw last (c.loop-i.invariant before key)))
