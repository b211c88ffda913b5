-- Some truths and sums, computed.
use Rattle.std.specs.Prelude.{◌≡◌, pos, negsuc, codes, [], ◌∷◌, ℕ, Ok, Err, refl}
use Rattle.ae_base.specs.declared.values.Value.TheVariants as value
use Rattle.ae_base.specs.declared.values.Datum.TheVariants.{Num, Text}
use Rattle.ae_base.specs.declared.atoms.AtomOf.TheVariants.{Null, Plain, Sealed}
use Rattle.sql_tree.specs.declared.conditions.Comparison.TheVariants as comparison
use Rattle.sql_tree.specs.Operands as operands
use Rattle.sql_tree.specs.Bound.{BoundOperand}
use Rattle.scalar.specs.declared.truth.Truth.TheVariants as truths
use Rattle.scalar.specs.Eval.{eval, overflow, compare, conjunction, disjunction, negation}

pub conjunctions :
    (conjunction truths.True truths.True ≡ truths.True) × (conjunction truths.True truths.False ≡ truths.False) × (conjunction truths.True truths.Unknown ≡ truths.Unknown)
    × (conjunction truths.False truths.True ≡ truths.False) × (conjunction truths.False truths.False ≡ truths.False) × (conjunction truths.False truths.Unknown ≡ truths.False)
    × (conjunction truths.Unknown truths.True ≡ truths.Unknown) × (conjunction truths.Unknown truths.False ≡ truths.False) × (conjunction truths.Unknown truths.Unknown ≡ truths.Unknown)
conjunctions = (refl, refl, refl, refl, refl, refl, refl, refl, refl)

pub disjunctions :
    (disjunction truths.True truths.True ≡ truths.True) × (disjunction truths.True truths.False ≡ truths.True) × (disjunction truths.True truths.Unknown ≡ truths.True)
    × (disjunction truths.False truths.True ≡ truths.True) × (disjunction truths.False truths.False ≡ truths.False) × (disjunction truths.False truths.Unknown ≡ truths.Unknown)
    × (disjunction truths.Unknown truths.True ≡ truths.True) × (disjunction truths.Unknown truths.False ≡ truths.Unknown) × (disjunction truths.Unknown truths.Unknown ≡ truths.Unknown)
disjunctions = (refl, refl, refl, refl, refl, refl, refl, refl, refl)

pub negations : (negation truths.True ≡ truths.False) × (negation truths.False ≡ truths.True) × (negation truths.Unknown ≡ truths.Unknown)
negations = (refl, refl, refl)

pub comparisons :
    (compare comparison.Less (Plain (Num (pos 5))) (Plain (Num (pos 6))) ≡ truths.True)
    × (compare comparison.Less (Plain (Num (pos 7))) (Plain (Num (pos 6))) ≡ truths.False)
    × (compare comparison.Less Null (Plain (Num (pos 6))) ≡ truths.Unknown)
    × (compare comparison.Equal Null Null ≡ truths.Unknown)
    × (compare comparison.Less (Plain (Text (codes "a"))) (Plain (Text (codes "a "))) ≡ truths.True)
    × (compare comparison.NotEqual (Sealed (1 ∷ [])) (Sealed (2 ∷ [])) ≡ truths.True)
comparisons = (refl, refl, refl, refl, refl, refl)

abbrev pub number : ℕ → BoundOperand
number n = operands.Literal 0 (value.Is (Num (pos n)))

-- NULL makes the rest NULL, and a sum past 64 bits is none
pub sums :
    (eval [] [] (operands.Sum (operands.Literal 0 value.Null) (operands.PlusThen 0 (number 9223372036854775807) (operands.PlusThen 0 (number 1) operands.NoMore))) ≡ Ok Null)
    × (eval [] [] (operands.Sum (number 9223372036854775807) (operands.PlusThen 0 (number 1) (operands.PlusThen 0 (operands.Literal 0 value.Null) operands.NoMore))) ≡ Err overflow)
    × (eval [] [] (operands.Minus 0 (number 3)) ≡ Ok (Plain (Num (negsuc 2))))
sums = (refl, refl, refl)
