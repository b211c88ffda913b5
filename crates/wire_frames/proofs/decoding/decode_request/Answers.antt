-- A whole frame is read exactly where it spells a request in its version.
use Rattle.wire_frames.specs.Frames.{is_request_head}
use Rattle.wire_frames.specs.Laws.{IsAsked}
use Rattle.wire_encoding.specs.Spelling.{SpellsRequest}
use Rattle.wire_frames.proofs.Directions.{asked_version, asked_kind, asked_body, asked_at, asked_some, asked_none, to_server}
use Rattle.wire_frames.proofs.FrameLaws.{one_is_spelled, one_is_read, none_is_spelled, none_is_refused, no_header_spells}
use Rattle.wire_frames.proofs.decoding.decode_request.Goals as goal

pub returns-in-One-clause-cases : goal.returns-in-One-clause-cases
returns-in-One-clause-cases c =
    let read = asked_some c.in-Whole.version c.in-Whole.kind c.in-Whole.body.now c.in-One.message c.in-One.ensures in
    one_is_spelled is_request_head asked_version asked_kind asked_body IsAsked SpellsRequest asked_at to_server c.args.bytes.now c.in-Whole.version c.in-Whole.kind c.in-Whole.body.now
    (record { version = c.in-Whole.version; message = c.in-One.message }) (λ i. (c.type_inv.bytes i).fits) c.in-Whole.ensures read

pub returns-in-One-clause-only : goal.returns-in-One-clause-only
returns-in-One-clause-only c =
    let read = asked_some c.in-Whole.version c.in-Whole.kind c.in-Whole.body.now c.in-One.message c.in-One.ensures in
    one_is_read is_request_head asked_version asked_kind asked_body IsAsked SpellsRequest asked_at to_server c.args.bytes.now c.in-Whole.version c.in-Whole.kind c.in-Whole.body.now
    (record { version = c.in-Whole.version; message = c.in-One.message }) c.in-Whole.ensures read

pub returns-in-Bad-request_body_of-clause-cases : goal.returns-in-Bad-request_body_of-clause-cases
returns-in-Bad-request_body_of-clause-cases c =
    none_is_refused is_request_head asked_version asked_kind asked_body IsAsked SpellsRequest asked_at to_server
    c.args.bytes.now c.in-Whole.version c.in-Whole.kind c.in-Whole.body.now c.in-Whole.ensures
    (asked_none c.in-Whole.version c.in-Whole.kind c.in-Whole.body.now c.in-Bad-request_body_of.ensures)

pub returns-in-Bad-request_body_of-clause-only : goal.returns-in-Bad-request_body_of-clause-only
returns-in-Bad-request_body_of-clause-only c =
    none_is_spelled is_request_head asked_version asked_kind asked_body IsAsked SpellsRequest asked_at to_server
    c.args.bytes.now c.in-Whole.version c.in-Whole.kind c.in-Whole.body.now c.in-Whole.ensures
    (asked_none c.in-Whole.version c.in-Whole.kind c.in-Whole.body.now c.in-Bad-request_body_of.ensures)

pub returns-in-Bad-clause-only : goal.returns-in-Bad-clause-only
returns-in-Bad-clause-only c =
    no_header_spells is_request_head asked_version asked_kind asked_body IsAsked SpellsRequest asked_at to_server c.args.bytes.now c.in-Bad.ensures.1
