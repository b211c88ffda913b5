-- Laws of lists of statements over worlds that correspond.
use Rattle.std.specs.Prelude.{List, Bool}
use Rattle.std.specs.List.{AllZip}
use Rattle.ae_base.specs.Atoms.{Atom}
use Rattle.scalar.specs.Classes.{Class, Entry, Listing, IsOneToOne, BothAnswer}
use Rattle.engine.specs.Correspond.{Related, ArePairsWithin, WorldsCorrespond, AnswersCorrespond}
use Rattle.engine.specs.WellTyped.{IsWellTyped}
use Rattle.engine.specs.Worlds.{World}
use Rattle.renaming_laws.specs.Executions.{Execution, answers_of, world_after, any_cell, AreExecutable, ExecutionsCorrespond}
use Rattle.renaming_laws.specs.Renaming.{IsRenaming}

-- two lists of statements have answers that correspond, fault for fault, and lead to worlds that correspond, both well typed
pub record AreAlike (R : Class → Atom → Atom → Type 0) (world other : World) (es fs : List Execution) : Type 0 where
  pub answers : AllZip (BothAnswer (AnswersCorrespond R)) (answers_of world es) (answers_of other fs)
  pub worlds : WorldsCorrespond R (world_after world es) (world_after other fs)
  pub typed : IsWellTyped any_cell (world_after world es)
  pub other_typed : IsWellTyped any_cell (world_after other fs)

-- over any pairing that is one-to-one in deterministic classes, of values within their types: so it is from worlds that
-- correspond, the first one well typed, over values that correspond
abbrev pub StepsAlike : Type 0
StepsAlike = (related : Class → Atom → Atom → Bool) (world other : World) (es fs : List Execution) → IsOneToOne (Related related) → ArePairsWithin (Related related) → IsWellTyped any_cell world
    → WorldsCorrespond (Related related) world other → AreExecutable world es → AllZip (ExecutionsCorrespond (Related related)) es fs → AreAlike (Related related) world other es fs

-- and over every renaming
abbrev pub RenamedStepsAlike : Type 0
RenamedStepsAlike = (entries : List Entry) (world other : World) (es fs : List Execution) → IsRenaming entries
    → IsWellTyped any_cell world → WorldsCorrespond (Listing entries) world other → AreExecutable world es
    → AllZip (ExecutionsCorrespond (Listing entries)) es fs → AreAlike (Listing entries) world other es fs
