-- The lines so far stand at the end.
use Rattle.std.proofs.Common.{◌≡◌, ◌++◌, flat_map, string_bytes, take}
use Rattle.tap_counts.specs.Lines.{common_line}
use Rattle.tap_counts.proofs.lines.push_each.Given as goal

abbrev pub invariant-loop-one : goal.invariant-loop-one
invariant-loop-one l = string_bytes l.text ≡ string_bytes l.fn.text ++ flat_map common_line (take l.one-index l.best)
