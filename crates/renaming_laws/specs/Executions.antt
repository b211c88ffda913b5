-- Lists of statements that are executed one after another.
use Rattle.std.specs.Prelude.{◌≡◌, ℕ, List, [], ◌∷◌, Result, Bool, true}
use Rattle.ae_base.specs.Atoms.{Atom}
use Rattle.ae_base.specs.declared.faults.SqlFault.{SqlFault}
use Rattle.ae_base.specs.declared.types.Enc.{Enc}
use Rattle.sql_tree.specs.Bound.{Bound}
use Rattle.scalar.specs.Classes.{Class, RowsCorrespond}
use Rattle.engine.specs.BoundOn.{IsBoundOn}
use Rattle.engine.specs.Step.{Answer, Outcome, step}
use Rattle.engine.specs.Typed.{param_classes, IsTypedBy}
use Rattle.engine.specs.WellTyped.{AreValuesOf}
use Rattle.engine.specs.Worlds.{World}

-- a bound statement, how its parameters are encrypted, and their values
pub record Execution : Type 0 where
  pub bound : Bound
  pub encs : List Enc
  pub params : List Atom

abbrev pub executed : World → Execution → Outcome
executed world e = step world e.bound e.encs e.params

-- the answers and faults, in order
abbrev pub answers_of : World → List Execution → List (Result Answer SqlFault)
answers_of world [] = []
answers_of world (e ∷ more) = (executed world e).answer ∷ answers_of (executed world e).world more

-- the world after all
abbrev pub world_after : World → List Execution → World
world_after world [] = world
world_after world (e ∷ more) = world_after (executed world e).world more

-- whatever bytes a cell has
abbrev pub any_cell : List ℕ → Bool
any_cell cell = true

-- a statement that is bound on the world's catalog, and that the rules admit with what its parameters are encrypted as; their
-- values are of these
pub record IsExecutable (world : World) (e : Execution) : Type 0 where
  pub bound : IsBoundOn world.catalog e.bound e.encs e.params
  pub typed : IsTypedBy e.encs e.bound
  pub values : AreValuesOf any_cell e.bound.params e.encs e.params

-- each in the world that stands at its turn
abbrev pub AreExecutable : World → List Execution → Type 0
AreExecutable world [] = Unit {0}
AreExecutable world (e ∷ more) = IsExecutable world e × AreExecutable (executed world e).world more

-- one statement, over values that correspond at the classes of its parameters
pub record ExecutionsCorrespond (R : Class → Atom → Atom → Type 0) (e f : Execution) : Type 0 where
  pub bound : f.bound ≡ e.bound
  pub encs : f.encs ≡ e.encs
  pub params : RowsCorrespond R (param_classes e.bound.params e.encs) e.params f.params
