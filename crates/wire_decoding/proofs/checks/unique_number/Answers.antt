-- Within the bounds.
use Rattle.ae_base.specs.Versions.{IsUniqueNumber}
use Rattle.wire_decoding.specs.Reading.{is_within}
use Rattle.wire_decoding.proofs.FieldLaws.{within_from, within_to}
use Rattle.wire_decoding.proofs.Tested.{tested}
use Rattle.wire_decoding.proofs.checks.unique_number.Goals as goal

pub returns : goal.returns
returns c =
    tested c.from_number.result (is_within 1 8) IsUniqueNumber c.args.number c.from_number.ensures.value
    c.from_number.ensures.exactly (within_from 1 8 c.args.number) (λ h. within_to 1 8 c.args.number h.0 h.1)
