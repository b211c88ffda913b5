-- The lines so far stand at the end.
use Rattle.std.proofs.Common.{◌≡◌, ◌++◌, flat_map, string_bytes, take}
use Rattle.tap_text.specs.Text.{column_text}
use Rattle.tap_text.proofs.words.push_columns.Given as goal

abbrev pub invariant-loop-column : goal.invariant-loop-column
invariant-loop-column l = string_bytes l.text ≡ string_bytes l.fn.text ++ flat_map (column_text l.page) (take l.column-index l.columns)
