-- Items that count, in code and as trees.
use Rattle.std.proofs.Common.{◌≡◌, Bool, ◌||◌, List, [], ◌∷◌, map, refl, ap}
use Rattle.std.specs.List.{list_any}
use Rattle.sql_tree.specs.declared.statements.Item as code
use Rattle.sql_tree.specs.Statements.{item_of}
use Rattle.sql_grammar.specs.Making as make

any_mapped : {X Y : Type 0} (p : Y → Bool) (f : X → Y) (xs : List X) → list_any p (map f xs) ≡ list_any (λ x. p (f x)) xs
any_mapped p f [] = refl
any_mapped p f (x ∷ xs) = ap (λ b. p (f x) || b) (any_mapped p f xs)

pub counts_seen : (items : List code.Item) → list_any make.is_count (map item_of items) ≡ list_any (λ (item : code.Item). make.is_count (item_of item)) items
counts_seen items = any_mapped make.is_count item_of items
