-- The replies so far, with those to the rows that are left, are all.
use Rattle.std.proofs.Common.{◌≡◌, ◌++◌, map}
use Rattle.std.specs.List.{All}
use Rattle.wire_parts.specs.AtomBounds.{IsSendable}
use Rattle.wire_messages.specs.Messages.{IsFew}
use Rattle.wire_messages.specs.declared.replies.Reply.TheVariants.{Row}
use Rattle.server_core.proofs.rows.add_rows.Given as goal

abbrev pub invariant-loop-row : goal.invariant-loop-row
invariant-loop-row l = record {
  sent : l.replies ++ map Row l.row-iterator.rest.items ≡ l.fn.replies ++ map Row l.fn.rows;
  left : All (λ row. IsFew row × All IsSendable row) l.row-iterator.rest.items;
}
