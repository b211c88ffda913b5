-- Bytes that begin with requests, and requests that are answered one after another, whatever answers them.
use Rattle.std.specs.Prelude.{◌≡◌, ℕ, List, [], ◌∷◌, ◌++◌, length, flat_map, Result, Ok, Err}
use Rattle.std.specs.List.{All}
use Rattle.wire_messages.specs.Conditions.{IsRequest}
use Rattle.wire_messages.specs.declared.requests.Request.{Request}
use Rattle.wire_payloads.specs.declared.versioned.Versioned.{Versioned}
use Rattle.wire_encoding.specs.Spelling.{SpellsRequest, asked_frame}
use Rattle.wire_frames.specs.Frames.{End, Whole, Refused, Rest, EndsSo, is_request_head}

-- ---- bytes that begin with requests

-- the message meets its conditions
abbrev pub IsProper : Versioned Request → Type 0
IsProper asked = IsRequest asked.message

-- the bytes begin with the frames of these requests, and then come the others
pub record Begins (bytes : List ℕ) (requests : List (Versioned Request)) (others : List ℕ) : Type 0 where
  pub whole : bytes ≡ flat_map asked_frame requests ++ others
  pub proper : All IsProper requests

-- they end after a frame, or inside one
abbrev pub IsOpen : End → Type 0
IsOpen Whole = Unit {0}
IsOpen (Refused place) = ⊥
IsOpen (Rest place) = Unit {0}

-- ---- requests that are answered

-- one request was answered whole, or not, for a cause
abbrev pub Answers : {V E A : Type 0} → (V → Versioned Request → V → Type 0) → (E → V → Versioned Request → V → Type 0) → Result A E → Versioned Request → V → V → Type 0
Answers whole part (Ok x) asked old new = whole old asked new
Answers whole part (Err e) asked old new = part e old asked new

-- the counts of faults stay, but where it wasn't answered whole
abbrev pub CountsAnswer : {F E A : Type 0} → (E → F → F → Type 0) → Result A E → F → F → Type 0
CountsAnswer counts (Ok x) old new = new ≡ old
CountsAnswer counts (Err e) old new = counts e old new

-- requests were answered whole, one after another
abbrev pub AreAnswered : {V : Type 0} → (V → Versioned Request → V → Type 0) → V → List (Versioned Request) → V → Type 0
AreAnswered answers first [] last = last ≡ first
AreAnswered {V} answers first (asked ∷ others) last = (next : V) × answers first asked next × AreAnswered answers next others last

-- the first requests of some bytes were
pub record AnswersSome {V : Type 0} (answers : V → Versioned Request → V → Type 0) (bytes : List ℕ) (first last : V) : Type 0 where
  pub requests : List (Versioned Request)
  pub others : List ℕ
  pub begins : Begins bytes requests others
  pub answered : AreAnswered answers first requests last

-- these are all of them, and the bytes end so
pub record AnswersEach {V : Type 0} (answers : V → Versioned Request → V → Type 0) (bytes : List ℕ) (end : End) (first last : V) : Type 0 where
  pub some : AnswersSome answers bytes first last
  pub ends : EndsSo is_request_head SpellsRequest (length (flat_map asked_frame some.requests)) some.others end

abbrev pub AnswersEachOpen : {V : Type 0} → (V → Versioned Request → V → Type 0) → List ℕ → V → V → Type 0
AnswersEachOpen answers bytes first last = (end : End) × IsOpen end × AnswersEach answers bytes end first last

-- and the next one wasn't answered whole
pub record StopsAfter {V : Type 0} (answers stops : V → Versioned Request → V → Type 0) (bytes : List ℕ) (first last : V) : Type 0 where
  pub between : V
  pub some : AnswersSome answers bytes first between
  pub next : Versioned Request
  pub others : List ℕ
  pub begins : Begins bytes (some.requests ++ next ∷ []) others
  pub stopped : stops between next last
