-- The first value, and the others after tabs, make the line.
use Rattle.std.proofs.Common.{ap, ◌∙◌, string_bytes}
use Rattle.outcome_text.specs.Printing.{printed_value}
use Rattle.outcome_text.proofs.Printed.{line-none, line-some}
use Rattle.outcome_text.proofs.texts.push_row.Goals as goal
use Rattle.outcome_text.proofs.texts.push_row.Goals.{in_default, in-len1-up+in_ok-push_value+else-loop-value-test}

pub returns : goal.returns
returns c = elim c.if-values-lt1.branch [
  | in_default w ↦ line-none printed_value c.args.values.now _ _ _ w.in_default.len_below (ap string_bytes w.text-is) c.in_ok-push-2.ensures.bytes
  | in-len1-up+in_ok-push_value+else-loop-value-test w ↦
      (let text = ap string_bytes w.text-is ∙ w.loop-value.invariant in
      line-some printed_value c.args.values.now w.first-item.result w.loop-value.value-index _ _ _ _
      w.in-len1-up.len_at_least w.first-item.is w.in_ok-push_value.ensures w.loop-value-test.false text c.in_ok-push-2.ensures.bytes)
]
