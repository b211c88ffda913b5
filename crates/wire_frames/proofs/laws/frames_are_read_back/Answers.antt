-- Each frame spells its message, and the frames of an answer carry its replies.
use Rattle.std.proofs.Common.{refl}
use Rattle.wire_encoding.specs.Packing.{payload_frame, payloads_of, HasFrame, SpellsPayload}
use Rattle.wire_encoding.specs.Spelling.{asked_frame, SpellsRequest}
use Rattle.wire_frames.specs.Frames.{is_request_head, is_reply_head}
use Rattle.wire_frames.specs.Laws.{IsAsked}
use Rattle.wire_encoding.proofs.Interface.{packed_replies, payloads_proper}
use Rattle.wire_frames.proofs.StreamLaws.{frames_read}
use Rattle.wire_frames.proofs.laws.frames_are_read_back.Goals as goal

pub returns-clause-requests : goal.returns-clause-requests
returns-clause-requests c = frames_read is_request_head SpellsRequest IsAsked asked_frame (λ asked good. (good, refl))

pub returns-clause-replies : goal.returns-clause-replies
returns-clause-replies c = λ v at replies good. (
  frames_read (is_reply_head v) (SpellsPayload v) (HasFrame v) (payload_frame v) (λ payload good. (good, refl)) at (payloads_of v replies) (payloads_proper v replies good),
  packed_replies v replies,
)
