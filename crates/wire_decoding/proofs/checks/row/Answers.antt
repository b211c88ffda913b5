-- 1 to 512 atoms.
use Rattle.wire_messages.specs.Messages.{IsFew}
use Rattle.wire_decoding.specs.Reading.{is_few}
use Rattle.wire_decoding.proofs.MessageLaws.{few_from, few_to}
use Rattle.wire_decoding.proofs.Tested.{tested}
use Rattle.wire_decoding.proofs.checks.row.Goals as goal

pub returns : goal.returns
returns c = tested c.new.result is_few IsFew c.args.atoms c.new.ensures.row c.new.ensures.exactly (few_from c.args.atoms) (few_to c.args.atoms)
