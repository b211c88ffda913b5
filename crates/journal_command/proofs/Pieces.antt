-- What is put and kept for the requests of an input, by how it ended.
use Rattle.std.proofs.Common.{◌≡◌, ◌⊎◌, ◌≤◌, ℕ, List, [], ◌++◌, length, map, take, drop, Option, refl, sym, ap, subst, arith, inl, inr}
use Rattle.std.specs.Prelude.{flat_map}
use Rattle.std.proofs.lemmas.List.{take-append-drop}
use Rattle.ae_edge.specs.Devices.{Rose}
use Rattle.wire_encoding.specs.Spelling.{SpellsRequest, asked_frame}
use Rattle.wire_frames.specs.Frames.{End, Whole, Refused, Rest, EndsSo, IsNotYet, IsRefused, is_request_head}
use Rattle.recording_laws.specs.Recorded.{nothing_held}
use Rattle.server_core.specs.Laws.{RequestsAreSerialFrom}
use Rattle.server_core.specs.Serve.{State}
use Rattle.serve_command.specs.Inputs.{CountsEnding, EndsAs, ServesInput}
use Rattle.serve_command.specs.Requests.{AnswersEach, AnswersSome, StopsAfter}
use Rattle.serve_command.specs.ServeAll.{messages_of}
use Rattle.serve_command.specs.Serving.{AnswersAll, most_stream_bytes}
use Rattle.serve_command.specs.declared.inputs.Ending.{Ending}
use Rattle.serve_command.specs.declared.inputs.Ending.TheVariants as ending
use Rattle.serve_command.proofs.Interface.{answers_all, begins_fed}
use Rattle.journal_command.specs.Durable.{AnswersRequest, DurableView, StopsRequest, outside_of}
use Rattle.journal_command.specs.Endings.{ended_by}
use Rattle.journal_command.specs.Keeping.{frames_of, held_after}
use Rattle.journal_command.specs.Running.{HasKeptAll, KeepsSo, PutsSo, ServesPieces}
use Rattle.journal_command.specs.Stopping.{CountsStop, Faults, Outside}
use Rattle.journal_command.specs.declared.endings.Ended.{Ended}
use Rattle.journal_command.specs.declared.endings.Ended.TheVariants as ended
use Rattle.journal_command.specs.declared.endings.Stop.{Stop}
use Rattle.journal_command.specs.declared.endings.Stop.TheVariants as stops
use Rattle.journal_command.proofs.Turning.{IsSoFar, breaks_in, first_before, kept_all, kept_before, kept_full, kept_in_part, kept_so_far, kept_tried, so_far}

-- behind all requests of some bytes stands less than a frame, or what is refused
all_ends : (at : ℕ) (others : List ℕ) (end : End) → EndsSo is_request_head SpellsRequest at others end → IsNotYet is_request_head others ⊎ IsRefused is_request_head SpellsRequest others
all_ends at others Whole e = inl (inl (omega (arith, ap length e)))
all_ends at others (Refused place) e = inr e.1
all_ends at others (Rest place) e = inl e.2

-- more bytes were taken than were looked at
kept_fed : (start : State) (bytes more : List ℕ) (first now : Outside) → HasKeptAll start bytes bytes first now → HasKeptAll start bytes (bytes ++ more) first now
kept_fed start bytes more first now h =
    let k = h.kept.kept in
    record {
      kept = record {
        kept = record {
          answered = k.answered;
          tried = k.tried;
          few = k.few;
          others = k.others ++ more;
          begins = begins_fed bytes (k.answered ++ k.tried) k.others more k.begins;
          put = k.put;
          kept = k.kept;
          room = k.room;
        };
        room = h.kept.room;
      };
      all = h.all;
      none = h.none;
    }

module _ (first last : DurableView) (none : first.durable.held ≡ map frames_of nothing_held) where
  abbrev start : State
  start = first.durable.state

  module _ (bytes : List ℕ) (end : End) (a : AnswersEach AnswersRequest bytes end first last) where
    all_put : AnswersAll start bytes end first.out last.out
    all_put =
        let s = so_far a.some.requests first last none a.some.answered in
        answers_all start bytes a.some.requests first.out last.out s.put a.some.others end a.some.begins a.ends

    all_kept : HasKeptAll start bytes bytes (outside_of first) (outside_of last)
    all_kept =
        kept_all start a.some.requests last.durable (outside_of first) (outside_of last) (so_far a.some.requests first last none a.some.answered) bytes a.some.others a.some.begins
        (all_ends (length (flat_map asked_frame a.some.requests)) a.some.others end a.ends)

  module _ (taken : List ℕ) (left : Option (List ℕ)) (few : length taken ≤ most_stream_bytes) where
    unread : AnswersSome AnswersRequest taken first last
        → PutsSo ended.OutOfMemory start taken left first.out last.out × KeepsSo ended.OutOfMemory start taken (outside_of first) (outside_of last)
    unread a =
        let s = so_far a.requests first last none a.answered in (
          (few, inl (first_before start a.requests last.durable (outside_of first) (outside_of last) s taken a.others a.begins (outside_of last) refl)),
          (kept_so_far start a.requests last.durable (outside_of first) (outside_of last) s taken a.others a.begins).kept,
        )

    stopped : (stop : Stop) → StopsAfter AnswersRequest (StopsRequest stop) taken first last
        → PutsSo (ended_by (ending.Stopped stop)) start taken left first.out last.out × KeepsSo (ended_by (ending.Stopped stop)) start taken (outside_of first) (outside_of last)
    stopped stops.WriteFault b =
        let s = so_far b.some.requests first b.between none b.some.answered in
        let t = b.stopped (held_after start nothing_held b.some.requests) s.held in (
          (few, breaks_in start b.some.requests b.between.durable (outside_of first) (outside_of b.between) s taken b.next b.others b.begins (outside_of last) t.1),
          kept_in_part start b.some.requests b.between.durable (outside_of first) (outside_of b.between) s taken b.next b.others b.begins (outside_of last) t.0 t.1,
        )
    stopped stops.DiskFault b =
        let s = so_far b.some.requests first b.between none b.some.answered in
        let t = b.stopped (held_after start nothing_held b.some.requests) s.held in (
          (few, first_before start b.some.requests b.between.durable (outside_of first) (outside_of b.between) s taken b.some.others b.some.begins (outside_of last) t.0.put),
          kept_tried start b.some.requests b.between.durable (outside_of first) (outside_of b.between) s taken b.next b.others b.begins (outside_of last) t.0 t.1,
        )
    stopped stops.JournalFull b =
        let s = so_far b.some.requests first b.between none b.some.answered in
        let t = b.stopped (held_after start nothing_held b.some.requests) s.held in (
          (few, first_before start b.some.requests b.between.durable (outside_of first) (outside_of b.between) s taken b.some.others b.some.begins (outside_of last) t.0.put),
          kept_full start b.some.requests b.between.durable (outside_of first) (outside_of b.between) s taken b.next b.others b.begins (outside_of last) t.0 t.1,
        )
    stopped stops.OutOfMemory b =
        let s = so_far b.some.requests first b.between none b.some.answered in
        elim (b.stopped (held_after start nothing_held b.some.requests) s.held) [
          | inl before ↦ (
            (few, inl (first_before start b.some.requests b.between.durable (outside_of first) (outside_of b.between) s taken b.some.others b.some.begins (outside_of last) before.put)),
            kept_before start b.some.requests b.between.durable (outside_of first) (outside_of b.between) s taken b.next b.others b.begins (outside_of last) before,
          )
          | inr part ↦ (
            (few, inr (breaks_in start b.some.requests b.between.durable (outside_of first) (outside_of b.between) s taken b.next b.others b.begins (outside_of last) part.1)),
            (kept_in_part start b.some.requests b.between.durable (outside_of first) (outside_of b.between) s taken b.next b.others b.begins (outside_of last) part.0 part.1).kept,
          )
        ]

  past : (taken : List ℕ) (end : End) → AnswersEach AnswersRequest (take most_stream_bytes taken) end first last → KeepsSo ended.TooLong start taken (outside_of first) (outside_of last)
  past taken end a =
      let front = take most_stream_bytes taken in
      subst (λ (l : List ℕ). HasKeptAll start front l (outside_of first) (outside_of last)) (take-append-drop most_stream_bytes taken)
      (kept_fed start front (drop most_stream_bytes taken) (outside_of first) (outside_of last) (all_kept front end a))

  ends_of : (how : Ending Stop) (taken : List ℕ) (left : Option (List ℕ)) → EndsAs AnswersRequest StopsRequest how taken left first last
      → PutsSo (ended_by how) start taken left first.out last.out × KeepsSo (ended_by how) start taken (outside_of first) (outside_of last)
  ends_of ending.Done taken left h = ((h.0, h.1, all_put taken Whole h.2), all_kept taken Whole h.2)
  ends_of (ending.BadFrame place) taken left h =
      elim h.1 [
        | inl refused ↦ ((h.0, inl (all_put taken (Refused place) refused)), all_kept taken (Refused place) refused)
        | inr cut ↦ ((h.0, inr (cut.0, all_put taken (Rest place) cut.1)), all_kept taken (Rest place) cut.1)
      ]
  ends_of ending.TooLong taken left h = ((h.0, (h.1.0, h.1.1, all_put (take most_stream_bytes taken) h.1.0 h.1.2)), past taken h.1.0 h.1.2)
  ends_of ending.ReadFault taken left h = ((h.0, (h.1.0, h.1.1, all_put taken h.1.0 h.1.2)), all_kept taken h.1.0 h.1.2)
  ends_of ending.OutOfMemory taken left h = unread taken left h.0 h.1
  ends_of (ending.Stopped stop) taken left h = stopped taken left h.0 stop h.1

-- what is put and kept for an input
pub pieces_of : RequestsAreSerialFrom → (how : Ending Stop) (result : Ended) (source left : Option (List ℕ)) (first last : DurableView) → result ≡ ended_by how
    → first.durable.held ≡ map frames_of nothing_held → ServesInput AnswersRequest StopsRequest how source left first last
    → ServesPieces result first.durable.state source left (outside_of first) (outside_of last)
pieces_of law how result source left first last r none s =
    let so = ends_of first last none how s.taken left s.ends in
    subst (λ (x : Ended). ServesPieces x first.durable.state source left (outside_of first) (outside_of last)) (sym r)
    (record { taken = s.taken; lost = s.lost; puts = so.0; keeps = so.1; serial = λ store idle requests others b. law first.durable.state store idle (messages_of requests) })

-- ---- faults

-- a call failed only where the loop says so
pub read_failed : (how : Ending Stop) → ended_by how ≡ ended.ReadFault → how ≡ ending.ReadFault
read_failed ending.Done e = cc
read_failed ending.ReadFault e = refl
read_failed ending.TooLong e = cc
read_failed (ending.BadFrame place) e = cc
read_failed ending.OutOfMemory e = cc
read_failed (ending.Stopped stops.WriteFault) e = cc
read_failed (ending.Stopped stops.DiskFault) e = cc
read_failed (ending.Stopped stops.JournalFull) e = cc
read_failed (ending.Stopped stops.OutOfMemory) e = cc

pub write_failed : (how : Ending Stop) (old new : Faults) → ended_by how ≡ ended.WriteFault → CountsEnding CountsStop how old new → Rose old.out new.out
write_failed ending.Done old new e c = absurd cc
write_failed ending.ReadFault old new e c = absurd cc
write_failed ending.TooLong old new e c = absurd cc
write_failed (ending.BadFrame place) old new e c = absurd cc
write_failed ending.OutOfMemory old new e c = absurd cc
write_failed (ending.Stopped stops.WriteFault) old new e c = c.0
write_failed (ending.Stopped stops.DiskFault) old new e c = absurd cc
write_failed (ending.Stopped stops.JournalFull) old new e c = absurd cc
write_failed (ending.Stopped stops.OutOfMemory) old new e c = absurd cc

pub disk_failed : (how : Ending Stop) (old new : Faults) → ended_by how ≡ ended.DiskFault → CountsEnding CountsStop how old new → Rose old.disk new.disk
disk_failed ending.Done old new e c = absurd cc
disk_failed ending.ReadFault old new e c = absurd cc
disk_failed ending.TooLong old new e c = absurd cc
disk_failed (ending.BadFrame place) old new e c = absurd cc
disk_failed ending.OutOfMemory old new e c = absurd cc
disk_failed (ending.Stopped stops.WriteFault) old new e c = absurd cc
disk_failed (ending.Stopped stops.DiskFault) old new e c = c.0
disk_failed (ending.Stopped stops.JournalFull) old new e c = absurd cc
disk_failed (ending.Stopped stops.OutOfMemory) old new e c = absurd cc
