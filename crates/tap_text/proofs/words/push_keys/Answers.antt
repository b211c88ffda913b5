-- One more key is shown.
use Rattle.std.proofs.Common.{string_bytes}
use Rattle.tap_text.specs.Text.{key_text}
use Rattle.tap_text.proofs.Rowwise.{line_behind}
use Rattle.tap_text.proofs.words.push_keys.Goals as goal

pub loop-key-preserved : goal.loop-key-preserved
loop-key-preserved c =
    line_behind (key_text c.args.page) (string_bytes c.args.text.now) (string_bytes c.loop-key.text) (string_bytes c.push_key.new.text) c.args.keys.now c.loop-key.key-index c.key-item.result
    c.loop-key-test.true c.key-item.is c.loop-key.invariant c.in_ok-push_key.ensures
