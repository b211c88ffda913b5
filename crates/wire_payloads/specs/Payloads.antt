-- What a frame to the driver carries.
use Rattle.std.specs.Prelude.{List, [], ◌∷◌, map}
use Rattle.std.specs.List.{All}
use Rattle.ae_base.specs.declared.frames.FrameVersion.{FrameVersion}
use Rattle.ae_base.specs.declared.frames.FrameVersion.TheVariants.{V1, V2}
use Rattle.wire_messages.specs.Conditions.{IsReply}
use Rattle.wire_messages.specs.declared.replies.Reply.{Reply}
use Rattle.wire_messages.specs.declared.replies.Reply.TheVariants.{Described, Columns, Row, Ended, Refused}
use Rattle.wire_payloads.specs.declared.payloads.Payload.{Payload}
use Rattle.wire_payloads.specs.declared.payloads.Payload.TheVariants.{One, Rows}
pub use Rattle.wire_payloads.specs.Batches.{Atoms, IsBatch, width}

-- the replies that it stands for, in order
abbrev pub replies_of : Payload → List Reply
replies_of (One reply) = reply ∷ []
replies_of (Rows rows) = map Row rows

-- In version 1 each reply has a frame. In version 2 rows share frames.
abbrev pub IsPayload : FrameVersion → Payload → Type 0
IsPayload V1 (One reply) = IsReply reply
IsPayload V1 (Rows rows) = ⊥
IsPayload V2 (One (Described d)) = IsReply (Described d)
IsPayload V2 (One (Columns h)) = IsReply (Columns h)
IsPayload V2 (One (Row atoms)) = ⊥
IsPayload V2 (One (Ended done)) = IsReply (Ended done)
IsPayload V2 (One (Refused fault)) = IsReply (Refused fault)
IsPayload V2 (Rows rows) = IsBatch rows × All (λ row. IsReply (Row row)) rows
