-- From 1 on.
use Rattle.std.proofs.Common.{◌≤◌}
use Rattle.std.proofs.lemmas.Bool.{leb-true, le-leb}
use Rattle.wire_decoding.specs.Reading.{is_nonzero}
use Rattle.wire_decoding.proofs.Tested.{tested}
use Rattle.wire_decoding.proofs.checks.key_id.Goals as goal

pub returns : goal.returns
returns c = tested c.from_number.result is_nonzero (λ n. 1 ≤ n) c.args.number c.from_number.ensures.value c.from_number.ensures.exactly (leb-true 1 c.args.number) (le-leb 1 c.args.number)
