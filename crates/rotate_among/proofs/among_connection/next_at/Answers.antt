-- There is one more.
use Rattle.std.proofs.Common.{◌<◌, length, arith}
use Rattle.rotate_among.proofs.Others.{rest_there}
use Rattle.rotate_among.proofs.among_connection.next_at.Goals as goal

pub returns-then-at-between : goal.returns-then-at-between
returns-then-at-between c = let lt : c.args.at < length c.args.between.now = omega (arith, c.if-at-between.true) in rest_there c.args.at c.args.between.now lt
