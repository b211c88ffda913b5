-- A rotation goes on as its machine moves.
use Rattle.std.proofs.Common.{◌≡◌, ℕ, List, Option, Some, None, Result, Ok, Err, refl, ◌∙◌, ap, subst}
use Rattle.std.specs.Prelude.{IfOk}
use Rattle.std.specs.declared.alloc.AllocError.{AllocError}
use Rattle.conversation.specs.declared.sessions.Session.{Session}
use Rattle.conversation.specs.declared.sessions.Session.TheVariants.{Idle, Begun, Pending, Sent, Reading, Skipping}
use Rattle.conversation.specs.Turns.{Accepted}
use Rattle.conversation.specs.Talk.{Talk}
use Rattle.driver.specs.Clients.{Client, columns_of, session_of}
use Rattle.driver.specs.declared.outcomes.Outcome as told
use Rattle.column_rotate.specs.declared.rotations.Next.{Next}
use Rattle.column_rotate.specs.declared.rotations.Next.TheVariants as next
use Rattle.column_rotate.specs.declared.sent.Sent as sends
use Rattle.column_rotate.specs.declared.sent.Sent.TheVariants as sent
use Rattle.column_rotate.specs.Laws.{RotationsAreNext}
use Rattle.column_rotate.specs.Moves.{Move, IsMove, move}
use Rattle.column_rotate.specs.Rotating.{Ends, beginning, heard, moved, rotating, told_of}
use Rattle.script_run.specs.Shares.{Outside}
use Rattle.script_run.specs.Ways.{Proceeds}
use Rattle.script_run.specs.Onward.{IsBlind}
use Rattle.script_run.specs.Rotations.{standing, next_on}

module _ (law : RotationsAreNext) (trusted : List (List ℕ)) (number : ℕ) (old new : List ℕ) (k : Ends) where
  stands_moved : (s : sends.Sent) (columns : Accepted) (outcome : Option told.Outcome) (after : Session)
      → standing trusted number old new k s columns outcome after ≡ moved trusted number old new k (move old new s columns outcome) (heard trusted number old new k) after
  stands_moved s columns None after = refl
  stands_moved s columns (Some comes) after = law trusted number old new k s columns comes after

  moves_on : (n : Next) (s : sends.Sent) (m : Move) (after : Session) → IsMove n s m
      → moved trusted number old new k m (heard trusted number old new k) after ≡ next_on trusted number old new k s n after
  moves_on (next.Send batch) s m after e = ap (λ w. moved trusted number old new k w (heard trusted number old new k) after) e
  moves_on (next.Finished count) s m after e = ap (λ w. moved trusted number old new k w (heard trusted number old new k) after) e
  moves_on (next.Failed fault) s m after e = ap (λ w. moved trusted number old new k w (heard trusted number old new k) after) e

  pub stands_next : (result : Result Next AllocError) (s t : sends.Sent) (columns : Accepted) (outcome : Option told.Outcome) (after : Session)
      → IfOk result (λ n. IsMove n t (move old new s columns outcome))
      → IfOk result (λ n. standing trusted number old new k s columns outcome after ≡ next_on trusted number old new k t n after)
  stands_next (Ok n) s t columns outcome after h = stands_moved s columns outcome after ∙ moves_on n t (move old new s columns outcome) after h
  stands_next (Err e) s t columns outcome after h = tt

module _ (trusted : List (List ℕ)) (number : ℕ) (old new : List ℕ) (k : Ends) where
  -- where a batch was refused, the columns aren't looked at
  pub heard_blind : (s : sends.Sent) → IsBlind (λ comes columns after. heard trusted number old new k s columns (told_of comes) after)
  heard_blind sent.Nothing f columns after = refl
  heard_blind sent.Begin f columns after = refl
  heard_blind sent.ReadNew f columns after = refl
  heard_blind (sent.ReadOld news empty) f columns after = refl
  heard_blind (sent.Put olds all left) f columns after = refl
  heard_blind (sent.Replace all) f columns after = refl
  heard_blind (sent.Commit all) f columns after = refl
  heard_blind (sent.RollBack fault) f columns after = refl

  -- a session that has a batch is told so by its first one
  pub rotating_begins : (before : Session) → rotating trusted number old new before k ≡ beginning trusted number old new k before
  rotating_begins Idle = refl
  rotating_begins (Begun batch) = refl
  rotating_begins (Pending p) = refl
  rotating_begins Sent = refl
  rotating_begins (Reading columns keys count) = refl
  rotating_begins (Skipping columns count) = refl

-- the machine's session and tables are the rotation's
pub now_on : (trusted : List (List ℕ)) (number own : ℕ) (old from new into : List ℕ) (k : Ends) (client : Client) → own ≡ number → from ≡ old → into ≡ new
    → (t : Talk) (x y : Outside) (s r : sends.Sent) (outcome : Option told.Outcome) (n m : Next) → n ≡ m
    → Proceeds t (standing trusted number old new k s (columns_of client number) outcome (session_of client number)) x y
    → standing trusted own from into k s (columns_of client own) outcome (session_of client number) ≡ next_on trusted own from into k r n (session_of client number)
    → Proceeds t (next_on trusted number old new k r m (session_of client number)) x y
now_on trusted number own old from new into k client a b c t x y s r outcome n m d g e =
    let h = rw (a, b, c, d) at e in subst (λ w. Proceeds t w x y) h g
