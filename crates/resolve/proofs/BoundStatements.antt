-- What each bound statement is.
use Rattle.std.proofs.Common.{◌≡◌, refl, Bool, true, false, ◌||◌, Ok}
use Rattle.ae_base.specs.Results.{◌>>=◌}
use Rattle.semantic_checks.specs.Checks.{check_of}
use Rattle.semantic_checks.proofs.Interface.{smallest_first}
use Rattle.resolve.specs.Bind.{resolution, bind}
use Rattle.resolve.specs.Laws.{IsBoundOver, BoundStatementsAre}
use Rattle.expression_binding.proofs.Interface.{one_part, first_part}
use Rattle.resolve.proofs.PlacedStatements.{named_placed_well}
use Rattle.resolve.proofs.OnCatalog.{stands_on}

no_left : (a b : Bool) → (a || b) ≡ false → a ≡ false
no_left true b e = absurd cc
no_left false b e = refl

pub bound_statements_are : BoundStatementsAre
unfolding bind
bound_statements_are catalog statement declarations b e =
    first_part (resolution catalog statement declarations) (λ made. check_of made >>= λ fine. Ok made) b (IsBoundOver catalog declarations b) e
    (λ made en e1. one_part (check_of made) (λ fine. made) b (IsBoundOver catalog declarations) e1
    (λ fine ef.
    let passed = smallest_first.fine made ef in
    let on = stands_on catalog statement declarations made en in
    record {
      params = on.params;
      placed = named_placed_well catalog statement declarations made en passed.0 (no_left _ _ passed.2);
      tables = on.tables;
      definable = on.definable;
      keys = on.keys;
    }))
