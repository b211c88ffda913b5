-- Within the bounds.
use Rattle.ae_base.specs.Sessions.{IsSession}
use Rattle.wire_decoding.specs.Reading.{is_within}
use Rattle.wire_decoding.proofs.FieldLaws.{within_from, within_to}
use Rattle.wire_decoding.proofs.Tested.{tested}
use Rattle.wire_decoding.proofs.checks.session.Goals as goal

pub returns : goal.returns
returns c =
    tested c.from_number.result (is_within 1 64) IsSession c.args.number c.from_number.ensures.value
    c.from_number.ensures.exactly (within_from 1 64 c.args.number) (λ h. within_to 1 64 c.args.number h.0 h.1)
