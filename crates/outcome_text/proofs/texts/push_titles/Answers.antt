-- The first name, and the others after tabs, make the line.
use Rattle.std.proofs.Common.{◌≡◌, ◌++◌, ap, ◌∙◌, string_bytes, encode_utf8_all}
use Rattle.outcome_text.proofs.Printed.{line-none, line-some}
use Rattle.outcome_text.proofs.texts.push_titles.Goals as goal
use Rattle.outcome_text.proofs.texts.push_titles.Goals.{in_default, in-len1-up+in_ok-push_str+else-loop-name-test}

pub returns : goal.returns
returns c = elim c.if-titles-lt1.branch [
  | in_default w ↦ line-none encode_utf8_all c.args.titles.now _ _ _ w.in_default.len_below (ap string_bytes w.text-is) c.in_ok-push-2.ensures.bytes
  | in-len1-up+in_ok-push_str+else-loop-name-test w ↦
      (let first : string_bytes w.push_str.new.self ≡ string_bytes c.args.text.now ++ encode_utf8_all
      w.first-item.result = w.in_ok-push_str.ensures.bytes ∙ ap (λ name. string_bytes c.args.text.now ++ name) w.as_str.ensures.bytes in
      let text = ap string_bytes w.text-is ∙ w.loop-name.invariant in
      line-some encode_utf8_all c.args.titles.now w.first-item.result w.loop-name.name-index _ _ _ _
      w.in-len1-up.len_at_least w.first-item.is first w.loop-name-test.false text c.in_ok-push-2.ensures.bytes)
]
