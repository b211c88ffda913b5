-- The lines so far stand at the end.
use Rattle.std.proofs.Common.{◌≡◌, ◌++◌, flat_map, string_bytes, take}
use Rattle.tap_text.specs.Text.{used_text}
use Rattle.tap_text.proofs.words.push_all_used.Given as goal

abbrev pub invariant-loop-param : goal.invariant-loop-param
invariant-loop-param l = string_bytes l.text ≡ string_bytes l.fn.text ++ flat_map (used_text l.page) (take l.param-index l.params)
