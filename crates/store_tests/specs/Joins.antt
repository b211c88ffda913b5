-- Two small tables, and the condition by which they are joined.
use Rattle.std.specs.Prelude.{ℤ, pos, List, [], ◌∷◌, Option, Some, None}
use Rattle.ae_base.specs.Atoms.{Atom}
use Rattle.ae_base.specs.declared.atoms.AtomOf.TheVariants.{Null, Plain}
use Rattle.ae_base.specs.declared.values.Datum.TheVariants.{Num}
use Rattle.sql_tree.specs.Bound.{BoundCondition}
use Rattle.sql_tree.specs.Conditions.{AllOf, Compare, NoMore, Then}
use Rattle.sql_tree.specs.Operands.{Column}
use Rattle.sql_tree.specs.declared.conditions.Comparison.TheVariants.{Equal, Less}

abbrev pub number : Option ℤ → Atom
number None = Null
number (Some n) = Plain (Num n)

abbrev pub row_of : Option ℤ → ℤ → List Atom
row_of key other = number key ∷ number (Some other) ∷ []

abbrev pub left_rows : List (List Atom)
left_rows = row_of (Some (pos 1)) (pos 10) ∷ row_of None (pos 20) ∷ row_of (Some (pos 2)) (pos 30) ∷ row_of (Some (pos 1)) (pos 40) ∷ []

abbrev pub right_rows : List (List Atom)
right_rows = row_of (Some (pos 1)) (pos 20) ∷ row_of None (pos 50) ∷ row_of (Some (pos 2)) (pos 5) ∷ row_of (Some (pos 1)) (pos 50) ∷ []

-- the first columns are equal, and of the second the left one is less
abbrev pub on_tree : BoundCondition
on_tree = AllOf (Then (Compare 0 Equal (Column 0 0) (Column 0 2)) (Then (Compare 0 Less (Column 0 1) (Column 0 3)) NoMore))
