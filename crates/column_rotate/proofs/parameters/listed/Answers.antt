-- All that the shortest has.
use Rattle.std.proofs.Common.{◌≤◌, length, min, arith}
use Rattle.column_rotate.proofs.Named.{listed_all}
use Rattle.column_rotate.proofs.parameters.listed.Goals as goal

pub returns : goal.returns
returns c =
    let le : min (length c.args.columns.now) (length c.args.values.now) ≤ c.loop-i.i = omega arith in
    listed_all c.args.columns.now c.args.values.now c.loop-i.i _ _ le c.loop-i.invariant
