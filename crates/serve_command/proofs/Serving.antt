-- What the server put for the requests of an input.
use Rattle.std.proofs.Common.{◌≡◌, ℕ, List, [], ◌∷◌, Option, Result, Ok, Err, refl, sym, ap, subst, ◌∙◌, inl, inr}
use Rattle.ae_edge.specs.Devices.{Adds, AddsPrefix, Rose}
use Rattle.ae_edge.specs.Streams.{CountsPutAll, CountsWrite, PutsAll}
use Rattle.ae_edge.specs.declared.streams.WriteError.{WriteError}
use Rattle.ae_edge.specs.declared.streams.WriteError.TheVariants as write
use Rattle.ae_edge.proofs.Interface.{adds_none, adds_then}
use Rattle.wire_messages.specs.Exchanges as exchanges
use Rattle.wire_messages.specs.declared.replies.Reply.{Reply}
use Rattle.wire_messages.specs.declared.requests.Request.{Request}
use Rattle.wire_payloads.specs.declared.versioned.Versioned.{Versioned}
use Rattle.wire_encoding.specs.Packing.{packed}
use Rattle.wire_frames.specs.Frames.{End}
use Rattle.server_core.specs.Laws.{RequestsAreSerial}
use Rattle.server_core.specs.Serve.{State, empty_state, serve}
use Rattle.serve_command.specs.Inputs.{CountsEnding, EndsAs, ServesInput}
use Rattle.serve_command.specs.Requests.{Answers, AnswersEach, AnswersEachOpen, AnswersSome, AreAnswered, CountsAnswer, StopsAfter}
use Rattle.serve_command.specs.ServeAll.{answer_frames, messages_of, reply_frames, state_after}
use Rattle.serve_command.specs.Servers.{AnswersRequest, ServerView, StopsRequest, served_by}
use Rattle.serve_command.specs.Serving.{AnswersAll, AnswersFirst, AnswersOpen, BreaksOff, Ends, ServesStream}
use Rattle.serve_command.specs.declared.commands.Served.{Served}
use Rattle.serve_command.specs.declared.commands.Served.TheVariants as served
use Rattle.serve_command.specs.declared.inputs.Ending.{Ending}
use Rattle.serve_command.specs.declared.inputs.Ending.TheVariants as ending
use Rattle.serve_command.proofs.Replying.{answers_all, breaks_off}

-- ---- one request

-- it was served, and the frames of the replies were put, or a prefix of them
pub answers_put : {A : Type 0} (result : Result A WriteError) (asked : Versioned Request) (old new : ServerView) (replies : List Reply)
    → serve old.state asked.message ≡ record { replies = replies; after = new.state } → PutsAll (packed asked.version replies) result old.out new.out
    → Answers AnswersRequest StopsRequest result asked old new
answers_put (Ok x) asked old new replies s p =
    (sym (ap (λ (v : exchanges.Served State). v.after) s), subst (λ (v : exchanges.Served State). Adds (packed asked.version v.replies) old.out new.out) (sym s) p)
answers_put (Err e) asked old new replies s p = subst (λ (v : exchanges.Served State). AddsPrefix (packed asked.version v.replies) old.out new.out) (sym s) p

pub counts_put : {A : Type 0} (result : Result A WriteError) (old new : ℕ) → CountsPutAll result old new → CountsAnswer CountsWrite result old new
counts_put (Ok x) old new c = c
counts_put (Err e) old new c = c

-- ---- the requests

-- where each was answered, the state is that after all of them, and the frames of all replies were put
replied : (requests : List (Versioned Request)) (first last : ServerView) → AreAnswered AnswersRequest first requests last
    → (last.state ≡ state_after first.state requests) × Adds (reply_frames first.state requests) first.out last.out
replied [] first last a = subst (λ (v : ServerView). (v.state ≡ first.state) × Adds [] first.out v.out) (sym a) (refl, adds_none first.out)
replied (r ∷ requests) first last a =
    let after = (serve first.state r.message).after in
    let others = replied requests a.0 last a.2 in (
      others.0 ∙ ap (λ (x : State). state_after x requests) a.1.0,
      adds_then (answer_frames first.state r) (reply_frames after requests) first.out a.0.out last.out a.1.1
          (subst (λ (x : State). Adds (reply_frames x requests) a.0.out last.out) a.1.0 others.1),
    )

all_of : (taken : List ℕ) (end : End) (first last : ServerView) → AnswersEach AnswersRequest taken end first last → AnswersAll first.state taken end first.out last.out
all_of taken end first last a =
    let s = a.some in
    answers_all first.state taken s.requests first.out last.out (replied s.requests first last s.answered).1 s.others end s.begins a.ends

open_of : (taken : List ℕ) (first last : ServerView) → AnswersEachOpen AnswersRequest taken first last → AnswersOpen first.state taken first.out last.out
open_of taken first last a = (a.0, a.1, all_of taken a.0 first last a.2)

first_of : (taken : List ℕ) (first last : ServerView) → AnswersSome AnswersRequest taken first last → AnswersFirst first.state taken first.out last.out
first_of taken first last s = record { answered = s.requests; others = s.others; begins = s.begins; put = (replied s.requests first last s.answered).1 }

breaks_of : (error : WriteError) (taken : List ℕ) (first last : ServerView) → StopsAfter AnswersRequest (StopsRequest error) taken first last → BreaksOff first.state taken first.out last.out
breaks_of error taken first last b =
    let s = b.some in
    let so = replied s.requests first b.between s.answered in
    breaks_off first.state taken s.requests first.out b.between.out so.1 b.next b.others last.out b.begins (rw so.0 at b.stopped)

-- ---- by how it ended

ends_of : (how : Ending WriteError) (taken : List ℕ) (left : Option (List ℕ)) (first last : ServerView) → EndsAs AnswersRequest StopsRequest how taken left first last
    → Ends first.state (served_by how) taken left first.out last.out
ends_of ending.Done taken left first last h = (h.0, h.1, all_of taken _ first last h.2)
ends_of (ending.BadFrame place) taken left first last h =
    (h.0, elim h.1 [ inl refused ↦ inl (all_of taken _ first last refused) | inr cut ↦ inr (cut.0, all_of taken _ first last cut.1) ])
ends_of ending.TooLong taken left first last h = (h.0, open_of _ first last h.1)
ends_of ending.ReadFault taken left first last h = (h.0, open_of taken first last h.1)
ends_of ending.OutOfMemory taken left first last h = (h.0, inl (first_of taken first last h.1))
ends_of (ending.Stopped write.Failed) taken left first last h = (h.0, breaks_of write.Failed taken first last h.1)
ends_of (ending.Stopped write.OutOfMemory) taken left first last h = (h.0, inr (breaks_of write.OutOfMemory taken first last h.1))

stream_from : RequestsAreSerial → (how : Ending WriteError) (source left : Option (List ℕ)) (first last : ServerView) → first.state ≡ empty_state
    → ServesInput AnswersRequest StopsRequest how source left first last → ServesStream (served_by how) source left first.out last.out
stream_from law how source left first last e s = record {
  taken = s.taken;
  lost = s.lost;
  ends = subst (λ (x : State). Ends x (served_by how) s.taken left first.out last.out) e (ends_of how s.taken left first last s.ends);
  serial = λ requests others b. law (messages_of requests);
}

pub stream_of : RequestsAreSerial → (how : Ending WriteError) (result : Served) (source left : Option (List ℕ)) (first last : ServerView) → result ≡ served_by how → first.state ≡ empty_state
    → ServesInput AnswersRequest StopsRequest how source left first last → ServesStream result source left first.out last.out
stream_of law how result source left first last r e s = subst (λ (x : Served). ServesStream x source left first.out last.out) (sym r) (stream_from law how source left first last e s)

-- ---- faults

-- the input's call failed only where the loop says so
pub read_failed : (how : Ending WriteError) → served_by how ≡ served.ReadFault → how ≡ ending.ReadFault
read_failed ending.Done e = cc
read_failed ending.ReadFault e = refl
read_failed ending.TooLong e = cc
read_failed (ending.BadFrame place) e = cc
read_failed ending.OutOfMemory e = cc
read_failed (ending.Stopped write.Failed) e = cc
read_failed (ending.Stopped write.OutOfMemory) e = cc

pub write_failed : (how : Ending WriteError) (old new : ℕ) → served_by how ≡ served.WriteFault → CountsEnding CountsWrite how old new → Rose old new
write_failed ending.Done old new e c = absurd cc
write_failed ending.ReadFault old new e c = absurd cc
write_failed ending.TooLong old new e c = absurd cc
write_failed (ending.BadFrame place) old new e c = absurd cc
write_failed ending.OutOfMemory old new e c = absurd cc
write_failed (ending.Stopped write.Failed) old new e c = c
write_failed (ending.Stopped write.OutOfMemory) old new e c = absurd cc
