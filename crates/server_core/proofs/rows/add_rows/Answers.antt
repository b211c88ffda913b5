-- The next row.
use Rattle.std.proofs.Common.{List}
use Rattle.std.specs.List.{All}
use Rattle.std.proofs.lemmas.List.Elements.{All-rest}
use Rattle.ae_base.specs.Atoms.{Atom}
use Rattle.wire_parts.specs.AtomBounds.{IsSendable}
use Rattle.wire_messages.specs.Messages.{IsFew}
use Rattle.wire_messages.specs.declared.replies.Reply.TheVariants.{Row}
use Rattle.server_core.proofs.Moving.{moved_as}
use Rattle.server_core.proofs.rows.add_rows.Goals as goal

pub loop-row-preserved : goal.loop-row-preserved
loop-row-preserved c =
    let steps = c.in-Some.ensures.steps in
    record {
      sent = rw (c.in_ok-add_reply.ensures, c.in_ok-sent_row.ensures)
          (moved_as (λ (row : List Atom). Row row) c.loop-row.replies _ c.in-Some.row c.loop-row.row-iterator.rest.items c.next.new.self.rest.items c.loop-row.invariant.sent steps.0);
      left = All-rest (λ (row : List Atom). IsFew row × All IsSendable row) c.in-Some.row c.next.new.self.rest.items c.loop-row.row-iterator.rest.items steps.0 c.loop-row.invariant.left;
    }
