-- One class more, and at the end all.
use Rattle.std.proofs.Common.{arith, string_bytes}
use Rattle.tap_counts.proofs.Lined.{line_put, lines_put}
use Rattle.tap_counts.proofs.lines.push_lines.Goals as goal

pub loop-at-preserved : goal.loop-at-preserved
loop-at-preserved c =
    line_put c.args.tally.now.classes c.args.tally.now.counts c.loop-at.at c.class.result.now c.counts.result.now
    (string_bytes c.loop-at.text) (string_bytes c.push_class_lines.new.text) _ c.class.ensures c.counts.ensures c.loop-at.invariant c.in_ok-push_class_lines.ensures

pub returns : goal.returns
returns c = lines_put c.args.tally.now.classes c.args.tally.now.counts c.loop-at.at (string_bytes c.loop-at.text)
    _ (omega (arith, c.loop-at-test.false, c.len-at-end.ensures.classes)) c.loop-at.invariant
