-- The lines so far stand at the end.
use Rattle.std.proofs.Common.{◌≡◌, ◌++◌, flat_map, string_bytes, take}
use Rattle.tap_text.specs.Text.{key_text}
use Rattle.tap_text.proofs.words.push_keys.Given as goal

abbrev pub invariant-loop-key : goal.invariant-loop-key
invariant-loop-key l = string_bytes l.text ≡ string_bytes l.fn.text ++ flat_map (key_text l.page) (take l.key-index l.keys)
