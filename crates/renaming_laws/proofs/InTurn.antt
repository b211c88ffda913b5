-- Statements that are executed one after another over worlds that correspond.
use Rattle.std.proofs.Common.{◌≡◌, List, [], ◌∷◌, refl, ap, sym, subst, ◌∙◌}
use Rattle.std.specs.List.{AllZip}
use Rattle.ae_base.specs.Atoms.{Atom}
use Rattle.ae_base.specs.declared.atoms.AtomOf.TheVariants.{Null, Plain, Sealed}
use Rattle.scalar.specs.Classes.{Class, Pairing, IsOneToOne}
use Rattle.engine.specs.Correspond.{IsWithinClass, ArePairsWithin, WorldsCorrespond, OutcomesCorrespond}
use Rattle.engine.specs.Laws.{StepKeepsWorlds}
use Rattle.engine.specs.Step.{step}
use Rattle.engine.specs.WellTyped.{IsWellTyped}
use Rattle.engine.specs.Worlds.{World}
use Rattle.engine.proofs.Interface.{step_alike}
use Rattle.renaming_laws.proofs.Corresponding.{corresponding_typed}
use Rattle.renaming_laws.specs.Executions.{Execution, executed, any_cell, AreExecutable, ExecutionsCorrespond}
use Rattle.renaming_laws.specs.Laws.{AreAlike}
use Rattle.renaming_laws.specs.Renaming.{AreCells, PairsCells}

module _ (R : Pairing) (r : IsOneToOne R) (within : ArePairsWithin R) (keeps : StepKeepsWorlds) where
  one_alike : (world other : World) (e f : Execution) → IsWellTyped any_cell world → WorldsCorrespond R world other
      → AreExecutable world (e ∷ []) → ExecutionsCorrespond R e f → OutcomesCorrespond R (executed world e) (executed other f)
  one_alike world other e f typed corr h m =
      let same : executed other f ≡ step other e.bound e.encs f.params = ap (λ b. step other b f.encs f.params) m.bound ∙ ap (λ encs. step other e.bound encs f.params) m.encs in
      subst (OutcomesCorrespond R (executed world e)) (sym same) (step_alike R r within world other e.bound e.encs e.params f.params typed.keys corr m.params h.0.bound h.0.typed)

  pub steps_alike : (world other : World) (es fs : List Execution) → IsWellTyped any_cell world
      → WorldsCorrespond R world other → AreExecutable world es → AllZip (ExecutionsCorrespond R) es fs → AreAlike R world other es fs
  steps_alike world other [] [] typed corr h m = record { answers = tt; worlds = corr; typed = typed; other_typed = corresponding_typed R r within any_cell (λ bytes. refl) world other typed corr }
  steps_alike world other [] (f ∷ fs) typed corr h m = absurd m
  steps_alike world other (e ∷ es) [] typed corr h m = absurd m
  steps_alike world other (e ∷ es) (f ∷ fs) typed corr h m =
      let kept = keeps any_cell world e.bound e.encs e.params typed h.0.bound h.0.typed h.0.values in
      let first = one_alike world other e f typed corr (h.0, tt) m.0 in
      let rest = steps_alike (executed world e).world (executed other f).world es fs kept.0 first.worlds h.1 m.1 in
      record { answers = (first.answers, rest.answers); worlds = rest.worlds; typed = rest.typed; other_typed = rest.other_typed }

-- ---- cells are within each class

left_cell : (c : Class) (a b : Atom) → AreCells a b → IsWithinClass c a
left_cell c Null b h = absurd h
left_cell c (Plain value) b h = absurd h
left_cell c (Sealed cell) b h = tt

right_cell : (c : Class) (a b : Atom) → AreCells a b → IsWithinClass c b
right_cell c Null b h = absurd h
right_cell c (Plain value) b h = absurd h
right_cell c (Sealed cell) Null h = absurd h
right_cell c (Sealed cell) (Plain value) h = absurd h
right_cell c (Sealed cell) (Sealed other) h = tt

pub cells_within : (R : Pairing) → PairsCells R → ArePairsWithin R
cells_within R h = record { left = λ c a b p. left_cell c a b (h c a b p); right = λ c a b p. right_cell c a b (h c a b p) }
