-- The parts of the body follow one another.
use Rattle.std.proofs.Common.{◌++◌}
use Rattle.wire_encoding.specs.Spelling.{u16, u64, text, few, sent}
use Rattle.wire_encoding.proofs.Mending.{three_more}
use Rattle.wire_encoding.proofs.framing.push_execute.Goals as goal

pub returns-clause-bytes : goal.returns-clause-bytes
returns-clause-bytes c =
    three_more c.args.out.now.items (u16 c.args.session ++ u64 c.args.version) (text c.args.text.now) (few sent c.args.params.now)
    c.push_head.new.out.items c.push_text.new.out.items c.push_few.new.out.items
    c.in_ok-push_head.ensures.bytes c.in_ok-push_text.ensures.bytes (rw c.as_slice.ensures.items at c.in_ok-push_few.ensures.bytes)
