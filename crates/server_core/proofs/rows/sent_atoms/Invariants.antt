-- The atoms so far, and those that are left, are the row.
use Rattle.std.proofs.Common.{◌≡◌, ◌++◌}
use Rattle.std.specs.List.{All}
use Rattle.wire_parts.specs.AtomBounds.{IsSendable}
use Rattle.server_core.proofs.rows.sent_atoms.Given as goal

abbrev pub invariant-loop-atom : goal.invariant-loop-atom
invariant-loop-atom l = record {
  sent : l.sent ++ l.atom-iterator.rest.items ≡ l.fn.row;
  left : All IsSendable l.atom-iterator.rest.items;
}
