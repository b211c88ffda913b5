-- The next atom.
use Rattle.std.proofs.lemmas.List.Elements.{All-rest}
use Rattle.wire_parts.specs.AtomBounds.{IsSendable}
use Rattle.server_core.proofs.Moving.{moved}
use Rattle.server_core.proofs.rows.sent_atoms.Goals as goal

pub loop-atom-preserved : goal.loop-atom-preserved
loop-atom-preserved c =
    let steps = c.in-Some.ensures.steps in
    record {
      sent = rw (c.in_ok-push-in-Some-own.ensures.ok, c.in-Some-own.ensures.atom)
          (moved c.loop-atom.sent c.args.row c.in-Some.atom c.loop-atom.atom-iterator.rest.items c.next.new.self.rest.items c.loop-atom.invariant.sent steps.0);
      left = All-rest IsSendable c.in-Some.atom c.next.new.self.rest.items c.loop-atom.atom-iterator.rest.items steps.0 c.loop-atom.invariant.left;
    }
