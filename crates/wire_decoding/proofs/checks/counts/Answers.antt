-- A change count that rose.
use Rattle.std.proofs.Common.{◌<◌}
use Rattle.ae_base.specs.Versions.{ChangeCounts}
use Rattle.wire_decoding.specs.Reading.{rose}
use Rattle.wire_decoding.proofs.PartLaws.{rose_from, rose_to}
use Rattle.wire_decoding.proofs.Tested.{tested}
use Rattle.wire_decoding.proofs.checks.counts.Goals as goal

pub returns : goal.returns
returns c =
    tested c.that_rose.result rose (λ (v : ChangeCounts). v.seen < v.now) (record { seen = c.args.seen; now = c.args.now }) c.that_rose.ensures.counts c.that_rose.ensures.exactly
    (rose_from c.args.seen c.args.now) (rose_to c.args.seen c.args.now)
