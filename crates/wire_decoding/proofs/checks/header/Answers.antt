-- The keys are those of the columns.
use Rattle.wire_messages.specs.Messages.{Header, IsHeader}
use Rattle.wire_decoding.specs.Reading.{is_header}
use Rattle.wire_decoding.proofs.MessageLaws.{is_header_from, is_header_to}
use Rattle.wire_decoding.proofs.Tested.{tested}
use Rattle.wire_decoding.proofs.checks.header.Goals as goal

pub returns : goal.returns
returns c =
    let h : Header = record { keys = c.args.keys; columns = c.args.columns } in
    tested c.new.result is_header IsHeader h c.new.ensures.header c.new.ensures.exactly (is_header_from h) (is_header_to h)
