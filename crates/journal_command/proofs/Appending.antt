-- A record is added, and then the replies are put.
use Rattle.std.proofs.Common.{◌≡◌, inl, ◌+◌, ◌<◌, ◌≤◌, ℕ, List, [], ◌∷◌, length, map, Option, Some, None, refl, sym, ap, subst, ◌∙◌, arith}
use Rattle.std.specs.Prelude.{◌↔◌, option_to_list, Result, Ok, Err}
use Rattle.ae_edge.specs.Devices.{WhereExposed, Adds}
use Rattle.disk.specs.Moments.{Moments}
use Rattle.journal_core.specs.Appends.{Appends, gate_after, most_bytes}
use Rattle.journal_core.specs.declared.journal.Appended.{Appended}
use Rattle.journal_core.specs.declared.journal.Appended.TheVariants as appended
use Rattle.serve_command.specs.Requests.{Answers}
use Rattle.serve_command.specs.ServeAll.{answer_frames}
use Rattle.wire_messages.specs.declared.replies.Reply.{Reply}
use Rattle.wire_encoding.specs.Packing.{packed}
use Rattle.journal_command.specs.Durable.{AnswersRequest, AppendsEntry, DurableState, DurableView, IsServed, PutsBy, StopsRequest, outside_of}
use Rattle.journal_command.specs.Keeping.{Asked, entries_of, keeping}
use Rattle.journal_command.specs.Records.{HaveRoom}
use Rattle.journal_command.specs.Stopping.{AreThere, Outside, StopsBy}
use Rattle.journal_command.specs.declared.endings.Stop.{Stop}
use Rattle.journal_command.specs.declared.endings.Stop.TheVariants as stops
use Rattle.journal_command.proofs.Adding.{adds_no_entry, appended_done, appended_tried, tries_none}

has_room : (result : Appended) (gate : ℕ) (entry : List ℕ) → (result ≡ appended.JournalFull → ⊥) → (most_bytes < gate + 10 + length entry → result ≡ appended.JournalFull) → HaveRoom gate (entry ∷ [])
has_room result gate entry isnt full = (not_lt most_bytes (gate + 10 + length entry) (λ less. isnt (full less)), tt)
  where
    not_lt : (m n : ℕ) → (m < n → ⊥) → n ≤ m
    not_lt m n none = grind arith

appends_one : (result : Appended) (gate : ℕ) (entry : List ℕ) (a b : Option Moments)
    → (result ≡ appended.JournalFull) ↔ (most_bytes < gate + 10 + length entry) → WhereExposed (Appends result gate entry) a b
    → AppendsEntry result gate (gate_after result gate entry) (entry ∷ []) a b
appends_one appended.Done gate entry a b full w = (appended_done gate entry a b w, omega arith, has_room appended.Done gate entry (λ e. cc) full.1)
appends_one appended.DiskFault gate entry a b full w = (appended_tried appended.DiskFault gate entry a b w, has_room appended.DiskFault gate entry (λ e. cc) full.1)
appends_one appended.OutOfMemory gate entry a b full w = appended_tried appended.OutOfMemory gate entry a b w
appends_one appended.JournalFull gate entry a b full w = (appended_tried appended.JournalFull gate entry a b w, record { entry = entry; is = refl; full = full.0 refl })

pub appends_some : (result : Appended) (gate after : ℕ) (entry : Option (List ℕ)) (x : List ℕ) (a b : Option Moments) → entry ≡ Some x → after ≡ gate_after result gate x
    → (result ≡ appended.JournalFull) ↔ (most_bytes < gate + 10 + length x) → WhereExposed (Appends result gate x) a b → AppendsEntry result gate after (option_to_list entry) a b
appends_some result gate after entry x a b e g full w =
    subst (λ (o : Option (List ℕ)). AppendsEntry result gate after (option_to_list o) a b) (sym e)
    (subst (λ (n : ℕ). AppendsEntry result gate n (x ∷ []) a b) (sym g) (appends_one result gate x a b full w))

pub appends_none : (gate : ℕ) (entry : Option (List ℕ)) (disk : Option Moments) → entry ≡ None → AppendsEntry appended.Done gate gate (option_to_list entry) disk disk
appends_none gate entry disk e =
    subst (λ (o : Option (List ℕ)). AppendsEntry appended.Done gate gate (option_to_list o) disk disk) (sym e) (adds_no_entry gate disk, omega arith, tt)

-- ---- of an answer, and of its request

stops_alike : (stop : Stop) (frames others : List ℕ) (xs ys : List (List ℕ)) (before after : Outside)
    → frames ≡ others → xs ≡ ys → StopsBy stop frames xs before after → StopsBy stop others ys before after
stops_alike stop frames others xs ys before after e f s =
    subst (λ (l : List (List ℕ)). StopsBy stop others l before after) f (subst (λ (l : List ℕ). StopsBy stop l xs before after) e s)

pub answers_so : {A : Type 0} (result : Result A Stop) (asked : Asked) (mid : DurableState) (old new : DurableView) (replies : List Reply) (entry : Option (List ℕ))
    → IsServed replies entry asked old.durable mid → new.durable ≡ record mid { journal = new.durable.journal }
    → PutsBy result (packed asked.version replies) (option_to_list entry) (outside_of old) (outside_of new)
    → Answers AnswersRequest StopsRequest result asked old new
answers_so (Ok x) asked mid old new replies entry s n p = λ held e.
    let k = s.kept held e in
    record {
      state = ap (λ (d : DurableState). d.state) n ∙ s.after;
      held = ap (λ (d : DurableState). d.held) n ∙ k.1;
      there = subst (λ (l : List (List ℕ)). AreThere l (outside_of old) (outside_of new)) k.0 p.0;
      put = subst (λ (l : List Reply). Adds (packed asked.version l) old.out new.out) s.replies p.1;
    }
answers_so (Err stop) asked mid old new replies entry s n p = λ held e.
    stops_alike stop (packed asked.version replies) (answer_frames old.durable.state asked) (option_to_list entry) (entries_of (keeping old.durable.state held asked).records)
    (outside_of old) (outside_of new) (ap (packed asked.version) s.replies) (s.kept held e).0 p

-- before anything was done
pub unanswered : (frames : List ℕ) (more : List (List ℕ)) (old : Outside) → StopsBy stops.OutOfMemory frames more old old
unanswered frames more old = inl (record { tried = tries_none old.gate more old.disk; put = refl })
