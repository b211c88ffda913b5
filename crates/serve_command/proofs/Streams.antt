-- The requests of streams that are read, as lists, and what their answers are carried by.
use Rattle.std.proofs.Common.{ℕ, ◌+◌, List, [], ◌∷◌, length, sym, subst}
use Rattle.std.specs.List.{All, AllZip}
use Rattle.std.proofs.lemmas.List.Elements.{All-nil, All-cons, All-head, All-tail}
use Rattle.ae_base.specs.declared.frames.FrameVersion.{FrameVersion}
use Rattle.renaming_laws.specs.Renaming.{IsRenaming}
use Rattle.scalar.specs.Classes.{Entry, Pairing, Listing}
use Rattle.frame_laws.specs.Correspond.{PayloadsCorrespond}
use Rattle.frame_laws.specs.Laws.{RepliesAreCarriedAlike}
use Rattle.serve_command.specs.Correspond.{answers_to}
use Rattle.serve_command.specs.ServeAll.{messages_of, requests_of, state_after}
use Rattle.serve_command.specs.Serving.{IsProper}
use Rattle.server_core.specs.Serve.{State, empty_state, serve}
use Rattle.server_core.specs.Correspond.{RequestsCorrespond, StatesCorrespond}
use Rattle.server_core.specs.Laws.{RequestsAreServedAlike, ServedAlike}
use Rattle.wire_frames.specs.Frames.{Placed, End, ReadsAs, is_request_head}
use Rattle.wire_messages.specs.Conditions.{IsRequest}
use Rattle.wire_messages.specs.declared.requests.Request.{Request}
use Rattle.wire_payloads.specs.declared.versioned.Versioned.{Versioned}
use Rattle.wire_encoding.specs.Packing.{payloads_of}
use Rattle.wire_encoding.specs.Spelling.{SpellsRequest}
use Rattle.serve_command.specs.Laws.{PlacedCorrespond, StreamsAreServedAlike}

are_proper : (at : ℕ) (bytes : List ℕ) (ms : List (Placed (Versioned Request))) (end : End) → ReadsAs is_request_head SpellsRequest at bytes ms end → All IsProper (requests_of ms)
are_proper at bytes [] end r = All-nil IsProper
are_proper at bytes (m ∷ ms) end r = All-cons IsProper m.message (requests_of ms) r.4.0 (are_proper (at + length r.0) r.1 ms end r.5)

are_requests : (requests : List (Versioned Request)) → All IsProper requests → All IsRequest (messages_of requests)
are_requests [] h = All-nil IsRequest
are_requests (r ∷ requests) h = All-cons IsRequest r.message (messages_of requests) (All-head IsProper r requests h) (are_requests requests (All-tail IsProper r requests h))

in_order : (R : Pairing) (ms ns : List (Placed (Versioned Request))) → AllZip (PlacedCorrespond R) ms ns → AllZip (RequestsCorrespond R) (messages_of (requests_of ms)) (messages_of (requests_of ns))
in_order R [] [] h = tt
in_order R [] (n ∷ ns) h = absurd h
in_order R (m ∷ ms) [] h = absurd h
in_order R (m ∷ ms) (n ∷ ns) h = (h.0.1, in_order R ms ns h.1)

module _ (each : RequestsAreServedAlike) (carried : RepliesAreCarriedAlike) (entries : List Entry) (renaming : IsRenaming entries) where
  answers_alike : (w v : State) (ms ns : List (Placed (Versioned Request))) → StatesCorrespond (Listing entries) w v → All IsProper (requests_of ms) → AllZip (PlacedCorrespond (Listing entries)) ms ns
      → AllZip (PayloadsCorrespond (Listing entries) []) (answers_to w (requests_of ms)) (answers_to v (requests_of ns))
  answers_alike w v [] [] st good h = tt
  answers_alike w v [] (n ∷ ns) st good h = absurd h
  answers_alike w v (m ∷ ms) [] st good h = absurd h
  answers_alike w v (m ∷ ms) (n ∷ ns) st good h =
      let R = Listing entries in
      let left = serve w m.message.message in
      let right = serve v n.message.message in
      let one = each w m.message.message entries renaming v n.message.message (All-head IsProper m.message (requests_of ms) good) st h.0.1 in (
        subst (λ (version : FrameVersion). PayloadsCorrespond R [] (payloads_of m.message.version left.replies) (payloads_of version right.replies)) h.0.0
            (carried entries renaming m.message.version left.replies right.replies one.replies),
        answers_alike left.after right.after ms ns one.states (All-tail IsProper m.message (requests_of ms) good) h.1,
      )

pub streams_served_alike : ServedAlike → RequestsAreServedAlike → RepliesAreCarriedAlike → StreamsAreServedAlike
streams_served_alike law each carried entries renaming bytes others frames more after later left right h =
    let R = Listing entries in
    let good = are_proper 0 bytes left.requests _ left.read in
    let requests = messages_of (requests_of left.requests) in
    let seconds = messages_of (requests_of right.requests) in
    let start = (law entries renaming [] [] (All-nil IsRequest) tt).1 in
    let a = law entries renaming requests seconds (are_requests (requests_of left.requests) good) (in_order R left.requests right.requests h) in (
      record {
        left = left.replied;
        right = right.replied;
        correspond = a.0;
        carried = answers_alike each carried entries renaming empty_state empty_state left.requests right.requests start good h;
      },
      subst (λ s. StatesCorrespond R s later) (sym left.left) (subst (λ s. StatesCorrespond R (state_after empty_state (requests_of left.requests)) s) (sym right.left) a.1),
    )
