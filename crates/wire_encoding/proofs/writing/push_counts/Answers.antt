-- The two numbers follow one another.
use Rattle.std.proofs.Common.{◌∙◌, ◌++◌, ap}
use Rattle.wire_encoding.specs.Spelling.{u64}
use Rattle.wire_encoding.proofs.Mending.{two_more}
use Rattle.wire_encoding.proofs.writing.push_counts.Goals as goal

pub returns-clause-bytes : goal.returns-clause-bytes
returns-clause-bytes c =
    two_more c.args.out.now.items (u64 c.args.counts.seen) (u64 c.args.counts.now) c.extend_from_slice.new.self.items c.extend_from_slice-2.new.self.items
    (c.in_ok-extend_from_slice.ensures.items ∙ ap (λ w. c.args.out.now.items ++ w) (c.to_be_bytes.ensures ∙ ap u64 c.seen.ensures))
    (c.in_ok-extend_from_slice-2.ensures.items ∙ ap (λ w. c.extend_from_slice.new.self.items ++ w) (c.to_be_bytes-2.ensures ∙ ap u64 c.now.ensures.count))
