-- The characters so far stand at the end.
use Rattle.std.proofs.Common.{◌≡◌, ◌++◌, string_bytes}
use Rattle.tap_text.specs.Text.{chars_text}
use Rattle.tap_text.proofs.signs.push_chars.Given as goal

abbrev pub invariant-loop-c : goal.invariant-loop-c
invariant-loop-c l = string_bytes l.text ≡ string_bytes l.fn.text ++ chars_text l.page l.yielded
