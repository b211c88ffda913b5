-- A body has at most 16,777,216 bytes.
use Rattle.std.proofs.Common.{arith, length, [], ◌∷◌, length-append, ap}
use Rattle.wire_encoding.specs.Spelling.{reply_body}
use Rattle.wire_encoding.proofs.Lengths.{reply_within}
use Rattle.wire_encoding.proofs.framing.try_push_reply.Goals as goal

pub mend_length-requires-clause-length : goal.mend_length-requires-clause-length
mend_length-requires-clause-length c =
    let w = reply_within c.args.reply.now c.in_ok-push_reply_body.ensures.meets in
    let b = ap length c.in_ok-push_reply_body.ensures.bytes in
    let h = ap length c.in_ok-extend_from_slice.ensures.items in
    omega (
      arith,
      w,
      b,
      h,
      c.len-start.ensures,
      length-append c.extend_from_slice.new.self.items
          (reply_body c.args.reply.now),
      length-append c.args.out.now.items (c.version_byte.result ∷ c.reply_kind.result ∷ 0 ∷ 0 ∷ 0 ∷ 0 ∷ []),
    )
