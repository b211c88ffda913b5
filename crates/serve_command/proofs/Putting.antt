-- The frames of an answer are put as they are made.
use Rattle.std.proofs.Common.{◌≡◌, ◌+◌, ◌-◌, ◌≤◌, ℕ, List, [], ◌∷◌, ◌++◌, length, take, drop, Option, Result, Ok, Err, refl, sym, ap, subst, ◌∙◌, append_assoc, append-nil, arith, length-drop}
use Rattle.std.proofs.lemmas.List.{drop-drop, take_rest}
use Rattle.ae_base.specs.declared.frames.FrameVersion.{FrameVersion}
use Rattle.ae_edge.specs.Devices.{Adds, AddsPrefix}
use Rattle.ae_edge.specs.Streams.{PutsAll}
use Rattle.ae_edge.specs.declared.streams.WriteError.{WriteError}
use Rattle.ae_edge.proofs.Interface.{adds_front_then, adds_then, adds_then_front}
use Rattle.wire_messages.specs.declared.replies.Reply.{Reply}
use Rattle.wire_encoding.specs.Packing.{PutsPrefix, packed}
use Rattle.wire_encoding.proofs.Interface.{packed_front, packed_none}
use Rattle.serve_command.specs.Answers.{PutsOrKeeps, PutsSome}

-- a buffer that was put is empty
pub put_or_kept : {A : Type 0} (frames left : List ℕ) (r : Result A WriteError) (old new : Option (List ℕ)) → left ≡ [] → PutsAll frames r old new → PutsOrKeeps frames left r old new
put_or_kept frames left (Ok x) old new e p = record { front = frames; whole = sym (ap (λ (l : List ℕ). frames ++ l) e ∙ append-nil frames); put = p }
put_or_kept frames left (Err x) old new e p = p

-- some frames were put, others stand in the buffer, and then come those of the other replies
pub record PutSoFar (version : FrameVersion) (replies rest : List Reply) (frames : List ℕ) (old now : Option (List ℕ)) : Type 0 where
  pub front : List ℕ
  pub whole : packed version replies ≡ front ++ (frames ++ packed version rest)
  pub put : Adds front old now

empty : {A : Type 0} (xs : List A) → length xs ≡ 0 → xs ≡ []
empty [] e = refl
empty (x ∷ xs) e = absurd cc

module _ (version : FrameVersion) (replies rest : List Reply) (frames : List ℕ) (old now : Option (List ℕ)) (s : PutSoFar version replies rest frames old now) where
  -- one frame more stands in the buffer
  pub frame_more : (count : ℕ) (more : List ℕ) → PutsPrefix version rest frames more count → PutSoFar version replies (drop count rest) more old now
  frame_more count more p =
      let others = packed version (drop count rest) in
      record {
        front = s.front;
        whole =
            s.whole
            ∙ ap (λ (l : List ℕ). s.front ++ (frames ++ l)) (packed_front version rest count p.bytes p.front)
            ∙ ap (λ (l : List ℕ). s.front ++ l) (sym (append_assoc frames p.bytes others) ∙ ap (λ (l : List ℕ). l ++ others) (sym p.grew));
        put = s.put;
      }

  -- a front of the buffer was put
  pub front_put : (left : List ℕ) (new : Option (List ℕ)) → PutsSome frames left now new → PutSoFar version replies rest left old new
  front_put left new p = record {
    front = s.front ++ p.front;
    whole =
        s.whole
        ∙ ap (λ (l : List ℕ). s.front ++ (l ++ packed version rest)) p.whole
        ∙ ap (λ (l : List ℕ). s.front ++ l) (append_assoc p.front left (packed version rest))
        ∙ sym (append_assoc s.front p.front (left ++ packed version rest));
    put = adds_then s.front p.front old now new s.put p.put;
  }

  -- a front of the buffer was put, and no more
  pub stops_in_buffer : (new : Option (List ℕ)) → AddsPrefix frames now new → AddsPrefix (packed version replies) old new
  stops_in_buffer new p =
      adds_front_then (s.front ++ frames) (packed version replies) old new
      (adds_then_front s.front frames old now new s.put p)
      (record { rest = packed version rest; is = s.whole ∙ sym (append_assoc s.front frames (packed version rest)) })

  -- no reply is left, and the buffer was put
  pub all_put : {A : Type 0} (r : Result A WriteError) (new : Option (List ℕ)) → length rest ≡ 0 → PutsAll frames r now new → PutsAll (packed version replies) r old new
  all_put (Ok x) new none p =
      let nothing : packed version rest ≡ [] = ap (packed version) (empty rest none) ∙ packed_none version in
      let whole : packed version replies ≡ s.front ++ frames = s.whole ∙ ap (λ (l : List ℕ). s.front ++ (frames ++ l)) nothing ∙ ap (λ (l : List ℕ). s.front ++ l) (append-nil frames) in
      subst (λ (l : List ℕ). Adds l old new) (sym whole) (adds_then s.front frames old now new s.put p)
  all_put (Err e) new none p = stops_in_buffer new p

-- one frame more of the replies behind a place
module _ (version : FrameVersion) (replies : List Reply) (done count : ℕ) (frames more : List ℕ) (p : PutsPrefix version (take (length replies - done) (drop done replies)) frames more count) where
  front_there : PutsPrefix version (drop done replies) frames more count
  front_there = subst (λ (l : List Reply). PutsPrefix version l frames more count) (take_rest replies done) p

  pub next_within : done ≤ length replies → done + count ≤ length replies
  next_within within = omega (arith, within, front_there.front.within, length-drop done replies)

  pub frame_next : (old now : Option (List ℕ)) → PutSoFar version replies (drop done replies) frames old now → PutSoFar version replies (drop (done + count) replies) more old now
  frame_next old now s =
      subst (λ (l : List Reply). PutSoFar version replies l more old now) (drop-drop count done replies)
      (frame_more version replies (drop done replies) frames old now s count more front_there)
