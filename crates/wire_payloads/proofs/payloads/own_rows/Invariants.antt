-- The copies so far are the first rows.
use Rattle.std.proofs.Common.{◌≡◌, take}
use Rattle.wire_payloads.proofs.payloads.own_rows.Given as goal

abbrev pub invariant-loop-row : goal.invariant-loop-row
invariant-loop-row l = l.copies ≡ take l.row-index l.rows
