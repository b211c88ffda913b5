-- The counts follow the name.
use Rattle.std.proofs.Common.{◌++◌}
use Rattle.wire_encoding.specs.Spelling.{str, u64}
use Rattle.wire_encoding.proofs.Mending.{two_more}
use Rattle.wire_encoding.proofs.writing.push_conflict.Goals as goal

pub returns-clause-bytes : goal.returns-clause-bytes
returns-clause-bytes c =
    two_more c.args.out.now.items (str c.args.table.now) (u64 c.args.counts.seen ++ u64 c.args.counts.now) c.push_name.new.out.items c.push_counts.new.out.items
    c.in_ok-push_name.ensures.bytes c.in_ok-push_counts.ensures.bytes
