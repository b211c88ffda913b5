-- At most 128, whose names differ.
use Rattle.std.proofs.Common.{◌≤◌, length, map, IsTrue}
use Rattle.ae_base.specs.Names.{all_differ}
use Rattle.wire_decoding.specs.Reading.{are_params}
use Rattle.wire_decoding.proofs.PartLaws.{params_from, params_to}
use Rattle.wire_decoding.proofs.Tested.{tested}
use Rattle.wire_decoding.proofs.checks.params.Goals as goal

pub returns : goal.returns
returns g c =
    let called = g.P.Named.called in
    tested c.from_seq.result (are_params called) (λ ps. (length ps ≤ 128) × IsTrue (all_differ (map called ps))) c.args.parts c.from_seq.ensures.items c.from_seq.ensures.exactly
    (params_from called c.args.parts) (params_to called c.args.parts)
