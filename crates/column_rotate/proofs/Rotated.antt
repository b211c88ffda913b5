-- The machine of a rotation is its conversation.
use Rattle.std.proofs.Common.{◌≡◌, ℕ, List, [], ◌∷◌, length, refl, Bool, true, false}
use Rattle.std.specs.Prelude.{not, if◌then◌else◌}
use Rattle.ae_base.specs.declared.values.Value.{Value}
use Rattle.wire_messages.specs.declared.columns.SentColumn.{SentColumn}
use Rattle.conversation.specs.declared.faults.DriverFault.TheVariants.{NotAlike, NotEmpty}
use Rattle.conversation.specs.declared.sessions.Session.{Session}
use Rattle.conversation.specs.Turns.{Accepted}
use Rattle.driver.specs.declared.outcomes.Fault.TheVariants.{OfDriver}
use Rattle.driver.specs.declared.outcomes.Outcome.{Outcome}
use Rattle.driver.specs.declared.outcomes.Outcome.TheVariants.{Rows, Changed, Defined, Refused}
use Rattle.column_rotate.specs.declared.sent.Sent.{Sent}
use Rattle.column_rotate.specs.declared.sent.Sent.TheVariants.{Nothing, Begin, ReadNew, ReadOld, Put, Replace, Commit, RollBack}
use Rattle.column_rotate.specs.Headers.{are_alike, columns_in}
use Rattle.column_rotate.specs.Moves.{back, putting, compared, move_of}
use Rattle.column_rotate.specs.Rotating.{Ends, rolling_back, putting_each, comparing, moved, heard}

module _ (trusted : List (List ℕ)) (number : ℕ) (old new : List ℕ) (k : Ends) where
  putting_next : (columns : List SentColumn) (all : ℕ) (rows : List (List Value)) (after : Session)
      → putting_each trusted number old new k columns all rows after ≡ moved trusted number old new k (putting old new columns all rows) (heard trusted number old new k) after
  putting_next columns all [] after = refl
  putting_next columns all (row ∷ rows) after = refl

  comparing_next : (news : Accepted) (empty : Bool) (olds : Accepted) (rows : List (List Value)) (after : Session)
      → comparing trusted number old new k news empty olds rows after ≡ moved trusted number old new k (compared old new news empty olds rows) (heard trusted number old new k) after
  comparing_next news empty olds rows after = by (not (are_alike olds news)) (not empty)
    where
      by : (a b : Bool)
          → (if a then rolling_back trusted number old new k (OfDriver (NotAlike new)) after else if b then
          rolling_back trusted number old new k (OfDriver (NotEmpty new)) after else putting_each trusted number old new k (columns_in olds) (length rows) rows after)
          ≡ moved trusted number old new k
          (if a then back (OfDriver (NotAlike new)) else if b then back (OfDriver (NotEmpty new)) else putting old new (columns_in olds) (length rows) rows) (heard trusted number old new k) after
      by true b = refl
      by false true = refl
      by false false = putting_next (columns_in olds) (length rows) rows after

  pub rotation_next : (sent : Sent) (columns : Accepted) (comes : Outcome) (after : Session)
      → heard trusted number old new k sent columns comes after ≡ moved trusted number old new k (move_of old new sent columns comes) (heard trusted number old new k) after
  rotation_next Nothing columns (Rows rows) after = refl
  rotation_next Nothing columns (Changed count) after = refl
  rotation_next Nothing columns Defined after = refl
  rotation_next Nothing columns (Refused f) after = refl
  rotation_next Begin columns (Rows rows) after = refl
  rotation_next Begin columns (Changed count) after = refl
  rotation_next Begin columns Defined after = refl
  rotation_next Begin columns (Refused f) after = refl
  rotation_next ReadNew columns (Rows rows) after = refl
  rotation_next ReadNew columns (Changed count) after = refl
  rotation_next ReadNew columns Defined after = refl
  rotation_next ReadNew columns (Refused f) after = refl
  rotation_next (ReadOld news empty) columns (Rows rows) after = comparing_next news empty columns rows after
  rotation_next (ReadOld news empty) columns (Changed count) after = comparing_next news empty columns [] after
  rotation_next (ReadOld news empty) columns Defined after = comparing_next news empty columns [] after
  rotation_next (ReadOld news empty) columns (Refused f) after = refl
  rotation_next (Put cs all left) columns (Rows rows) after = putting_next cs all left after
  rotation_next (Put cs all left) columns (Changed count) after = putting_next cs all left after
  rotation_next (Put cs all left) columns Defined after = putting_next cs all left after
  rotation_next (Put cs all left) columns (Refused f) after = refl
  rotation_next (Replace all) columns (Rows rows) after = refl
  rotation_next (Replace all) columns (Changed count) after = refl
  rotation_next (Replace all) columns Defined after = refl
  rotation_next (Replace all) columns (Refused f) after = refl
  rotation_next (Commit all) columns (Rows rows) after = refl
  rotation_next (Commit all) columns (Changed count) after = refl
  rotation_next (Commit all) columns Defined after = refl
  rotation_next (Commit all) columns (Refused f) after = refl
  rotation_next (RollBack fault) columns (Rows rows) after = refl
  rotation_next (RollBack fault) columns (Changed count) after = refl
  rotation_next (RollBack fault) columns Defined after = refl
  rotation_next (RollBack fault) columns (Refused f) after = refl
