-- The rows so far are written.
use Rattle.std.proofs.Common.{string_bytes, take}
use Rattle.tap_listing.specs.Frames.{rows_spots}
use Rattle.tap_text.specs.Text.{rows_text}
use Rattle.tap_text.specs.Writing.{Writes}
use Rattle.tap_text.proofs.rows.push_rows.Given as goal

abbrev pub invariant-loop-row : goal.invariant-loop-row
invariant-loop-row l = Writes (rows_text l.page l.classes (take l.row-index l.rows)) (rows_spots l.classes (take l.row-index l.rows))
    l.fn.numbers l.numbers (string_bytes l.fn.text) (string_bytes l.text)
