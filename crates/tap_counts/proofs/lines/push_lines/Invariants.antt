-- The lines so far, and those of the classes that are left, are all lines.
use Rattle.std.proofs.Common.{◌≡◌, ◌++◌, drop, string_bytes}
use Rattle.tap_counts.specs.Lines.{tally_lines}
use Rattle.tap_counts.proofs.lines.push_lines.Given as goal

abbrev pub invariant-loop-at : goal.invariant-loop-at
invariant-loop-at l = string_bytes l.text ++ tally_lines (drop l.at l.tally.classes) (drop l.at l.tally.counts) ≡ string_bytes l.fn.text ++ tally_lines l.tally.classes l.tally.counts
