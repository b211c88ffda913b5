-- Versions that differ.
use Rattle.std.proofs.Common.{◌≢◌}
use Rattle.ae_base.specs.Versions.{Versions}
use Rattle.wire_decoding.specs.Reading.{differ}
use Rattle.wire_decoding.proofs.PartLaws.{differ_from, differ_to}
use Rattle.wire_decoding.proofs.Tested.{tested}
use Rattle.wire_decoding.proofs.checks.versions.Goals as goal

pub returns : goal.returns
returns c =
    tested c.that_differ.result differ (λ (v : Versions). v.seen ≢ v.now) (record { seen = c.args.seen; now = c.args.now }) c.that_differ.ensures.versions c.that_differ.ensures.exactly
    (differ_from c.args.seen c.args.now) (differ_to c.args.seen c.args.now)
