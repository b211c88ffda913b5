-- What is done with the bytes that a feed holds.
use Rattle.std.specs.Prelude.{◌≡◌, ℕ, ◌≤◌, List, length, take, flat_map, false}
use Rattle.wire_messages.specs.declared.requests.Request.{Request}
use Rattle.wire_payloads.specs.declared.versioned.Versioned.{Versioned}
use Rattle.wire_encoding.specs.Spelling.{SpellsRequest, asked_frame}
use Rattle.wire_frames.specs.Frames.{Refused, IsNotYet, IsRefused, is_request_head}
use Rattle.wire_frames.specs.declared.decoding.Way.TheVariants.{ToServer}
use Rattle.frame_feed.specs.Feeding.{Feeding}
use Rattle.frame_feed.specs.declared.messages.Message.{Message}
use Rattle.frame_feed.specs.declared.messages.Message.TheVariants.{Asks, Tells}
use Rattle.serve_command.specs.Requests.{AnswersEach, AnswersSome, AreAnswered, Begins, StopsAfter}
use Rattle.serve_command.specs.declared.turns.Turn.{Turn}
use Rattle.serve_command.specs.declared.turns.Turn.TheVariants as turn
use Rattle.serve_command.specs.declared.turns.Drained.{Drained}
use Rattle.serve_command.specs.declared.turns.Drained.TheVariants as drained

-- ---- one request

abbrev pub IsAsked : Message → Type 0
IsAsked (Asks asked) = Unit {0}
IsAsked (Tells payload) = ⊥

-- the request was answered, whole or not
abbrev pub Responds : {V E : Type 0} → (V → Versioned Request → V → Type 0) → (E → V → Versioned Request → V → Type 0) → Turn E → ℕ → Message → V → V → Type 0
Responds answers stops (turn.Answered count) used (Asks asked) old new = (count ≡ used) × answers old asked new
Responds answers stops (turn.Stopped stop) used (Asks asked) old new = stops stop old asked new
Responds answers stops turn.Waits used (Asks asked) old new = ⊥
Responds answers stops (turn.Refused place) used (Asks asked) old new = ⊥
Responds answers stops turn.OutOfMemory used (Asks asked) old new = ⊥
Responds answers stops turn used (Tells payload) old new = ⊥

-- a request stands next, whose frame has so many bytes
pub record IsNext (feed : Feeding) (request : Versioned Request) (used : ℕ) : Type 0 where
  pub header : 6 ≤ used
  pub held : used ≤ length feed.held
  pub spells : SpellsRequest request (take used feed.held)

-- a request stands next, and was answered
pub record AnswersNext {V : Type 0} (answers : V → Versioned Request → V → Type 0) (feed : Feeding) (used : ℕ) (old new : V) : Type 0 where
  pub request : Versioned Request
  pub next : IsNext feed request used
  pub waits : feed.failed ≡ false
  pub answered : answers old request new

-- a request stands next, and wasn't answered whole
pub record StopsNext {V : Type 0} (stops : V → Versioned Request → V → Type 0) (feed : Feeding) (old new : V) : Type 0 where
  pub request : Versioned Request
  pub used : ℕ
  pub next : IsNext feed request used
  pub stopped : stops old request new

abbrev pub Turns : {V E : Type 0} → (V → Versioned Request → V → Type 0) → (E → V → Versioned Request → V → Type 0) → Turn E → Feeding → V → V → Type 0
Turns answers stops (turn.Answered used) feed old new = AnswersNext answers feed used old new
Turns answers stops turn.Waits feed old new = IsNotYet is_request_head feed.held × (feed.failed ≡ false) × (new ≡ old)
Turns answers stops (turn.Refused place) feed old new = (place ≡ feed.at) × IsRefused is_request_head SpellsRequest feed.held × (new ≡ old)
Turns answers stops turn.OutOfMemory feed old new = new ≡ old
Turns answers stops (turn.Stopped stop) feed old new = StopsNext (stops stop) feed old new

-- the counts of faults stay, but where a request wasn't answered whole
abbrev pub CountsTurn : {F E : Type 0} → (E → F → F → Type 0) → Turn E → F → F → Type 0
CountsTurn counts (turn.Answered used) old new = new ≡ old
CountsTurn counts turn.Waits old new = new ≡ old
CountsTurn counts (turn.Refused place) old new = new ≡ old
CountsTurn counts turn.OutOfMemory old new = new ≡ old
CountsTurn counts (turn.Stopped stop) old new = counts stop old new

-- a condition holds, where a request was answered
abbrev pub WhereAnswered : {E : Type 0} → Turn E → Type 0 → Type 0
WhereAnswered (turn.Answered used) P = P
WhereAnswered turn.Waits P = Unit {0}
WhereAnswered (turn.Refused place) P = Unit {0}
WhereAnswered turn.OutOfMemory P = Unit {0}
WhereAnswered (turn.Stopped stop) P = Unit {0}

-- ---- all that is held

-- the bytes taken begin with requests, which were answered, and the feed holds the others
pub record Stands {V : Type 0} (answers : V → Versioned Request → V → Type 0) (taken : List ℕ) (feed : Feeding) (first now : V) : Type 0 where
  pub requests : List (Versioned Request)
  pub begins : Begins taken requests feed.held
  pub place : feed.at ≡ length (flat_map asked_frame requests)
  pub way : feed.way ≡ ToServer
  pub waits : feed.failed ≡ false
  pub answered : AreAnswered answers first requests now

abbrev pub Drains : {V E : Type 0} → (V → Versioned Request → V → Type 0) → (E → V → Versioned Request → V → Type 0) → Drained E → List ℕ → Feeding → V → V → Type 0
Drains answers stops drained.Waits taken feed first now = Stands answers taken feed first now × IsNotYet is_request_head feed.held
Drains answers stops (drained.Refused place) taken feed first now = AnswersEach answers taken (Refused place) first now
Drains answers stops drained.OutOfMemory taken feed first now = AnswersSome answers taken first now
Drains answers stops (drained.Stopped stop) taken feed first now = StopsAfter answers (stops stop) taken first now

abbrev pub CountsDrained : {F E : Type 0} → (E → F → F → Type 0) → Drained E → F → F → Type 0
CountsDrained counts drained.Waits old new = new ≡ old
CountsDrained counts (drained.Refused place) old new = new ≡ old
CountsDrained counts drained.OutOfMemory old new = new ≡ old
CountsDrained counts (drained.Stopped stop) old new = counts stop old new
