-- Where a run stopped for a device, a call of it failed.
use Rattle.std.proofs.Common.{List, Option, Some, None, Bool, true, false, ◌⊎◌, inl, inr, subst}
use Rattle.ae_base.specs.declared.frames.FrameVersion.{FrameVersion}
use Rattle.ae_edge.specs.Devices.{Rose, Stays}
use Rattle.ae_edge.proofs.Interface.{rose_before}
use Rattle.conversation.specs.Paths.{Event}
use Rattle.conversation.specs.Talk.{Talk}
use Rattle.script_run.specs.Shares.{Comes, Outside, Queue, Stream, queue_of}
use Rattle.script_run.specs.Ways.{Breaks, StopsBy, off, printed_off, unwritten}
use Rattle.script_run.specs.declared.stops.Stop.TheVariants as stop

-- of the output, or of the tap
abbrev pub WriteRose : Outside → Outside → Type 0
WriteRose old new = Rose old.client.out.faults new.client.out.faults ⊎ Rose old.wire.tap.faults new.wire.tap.faults

unwritten_rose : (tap : Bool) (t : Talk) (old new : Outside) → Breaks (unwritten tap) t old new → WriteRose old new
unwritten_rose true t old new b =
    inr (rose_before old.wire.tap.faults b.mid.wire.tap.faults new.wire.tap.faults b.goes.put.wire.tap.counts b.put.wire.tap.counts)
unwritten_rose false t old new b =
    inl (rose_before old.client.out.faults b.mid.client.out.faults new.client.out.faults b.goes.put.client.out.counts b.put.client.out.counts)

pub write_rises : (t : Talk) (old new : Outside) → StopsBy stop.WriteFault t old new → WriteRose old new
write_rises t old new h = unwritten_rose h.0 t old new h.1

pub entropy_rises : (t : Talk) (old new : Outside) → StopsBy stop.EntropyFault t old new → Rose old.client.entropy.faults new.client.entropy.faults
entropy_rises t old new h = h.goes.put.client.entropy.counts

pub vault_rises : (t : Talk) (old new : Outside) → StopsBy stop.VaultFault t old new → Rose old.client.vault.faults new.client.vault.faults
vault_rises t old new h = h.goes.put.client.vault.counts

-- of the source of the replies, where they come as bytes
abbrev pub RepliesRose : Option Stream → Option Stream → Type 0
RepliesRose (Some s) (Some t) = Rose s.source.faults t.source.faults
RepliesRose (Some s) None = Unit {0}
RepliesRose None t = Unit {0}

streams_rise : (version : FrameVersion) (xs ys : List Event) (r s t : Option Stream) (a b c d : Queue) → Comes Stays version xs r s a b → Comes Rose version ys s t c d → RepliesRose r t
streams_rise version xs ys (Some r) (Some s) (Some t) a b c d p q = rose_before r.source.faults s.source.faults t.source.faults p.2.counts q.2.counts
streams_rise version xs ys (Some r) (Some s) None a b c d p q = tt
streams_rise version xs ys (Some r) None t a b c d p q = absurd p
streams_rise version xs ys None s t a b c d p q = tt

pub replies_rise : (t : Talk) (old new : Outside) → StopsBy stop.ReadFault t old new → RepliesRose old.wire.stream new.wire.stream
replies_rise t old new h =
    let l = h.0 in
    streams_rise old.wire.version l.goes.events (printed_off (off l.between)) old.wire.stream l.mid.wire.stream
    new.wire.stream (queue_of old.wire) (queue_of l.mid.wire) (queue_of l.mid.wire) (queue_of new.wire)
    l.goes.read.wire.comes
    (subst (λ v. Comes Rose v (printed_off (off l.between)) l.mid.wire.stream new.wire.stream (queue_of l.mid.wire) (queue_of new.wire)) l.goes.put.wire.version l.read.wire.comes)
