-- The moments of a disk, one after another, and what a crash leaves at each of them.
use Rattle.std.specs.Prelude.{◌≡◌, ◌⊎◌, ℕ, List, [], ◌∷◌, ◌++◌}
use Rattle.std.specs.List.{All}
use Rattle.disk.specs.Crashes.{Stand, IsImage, kept}

-- all moments so far: how the disk stood, the first of them first, and how it stands now
pub record Moments : Type 0 where
  pub past : List Stand
  pub now : Stand

-- One moment more, between which and the one before P holds. What reads give is one of the images that a crash may leave.
pub record Passes (P : Stand → Stand → Type 0) (old new : Moments) : Type 0 where
  pub past : new.past ≡ old.past ++ old.now ∷ []
  pub here : P old.now new.now
  pub was_image : IsImage old.now old.now.seen
  pub is_image : IsImage new.now new.now.seen

-- each crash at this moment leaves what has P
abbrev pub LeavesNow : (List ℕ → Type 0) → Stand → Type 0
LeavesNow P stand = (image : List ℕ) → IsImage stand image → P image

-- Each crash since the old moment leaves what has P, during a call or between two: at the old moment, at each one since then,
-- and now. While a call is under way a crash leaves what it may leave at the moment before the call, or at the one after it.
pub record Leaves (P : List ℕ → Type 0) (old new : Moments) : Type 0 where
  pub since : List Stand
  pub grew : new.past ≡ old.past ++ since
  pub each : All (LeavesNow P) (since ++ new.now ∷ [])

-- ---- a file that is left as it is

-- as a read that succeeded leaves a disk, or a sync: reads give what they gave, and no write and no cut was asked for
abbrev pub StaysOrSyncs : Stand → Stand → Type 0
StaysOrSyncs before after = (after ≡ before) ⊎ (after ≡ kept before.seen)

-- there were only such calls
pub data OnlySyncs (old : Moments) : Moments → Type 0 where
  NoCall : OnlySyncs old old
  OneMore : (between new : Moments) → OnlySyncs old between → Passes StaysOrSyncs between new → OnlySyncs old new
