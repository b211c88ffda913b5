-- The rows so far stand at the end.
use Rattle.std.proofs.Common.{◌≡◌, ◌++◌, flat_map, string_bytes, take}
use Rattle.outcome_text.specs.Printing.{printed_row}
use Rattle.outcome_text.proofs.texts.push_rows.Given as goal

abbrev pub invariant-loop-row : goal.invariant-loop-row
invariant-loop-row l = string_bytes l.text ≡ string_bytes l.fn.text ++ flat_map printed_row (take l.row-index l.rows)
