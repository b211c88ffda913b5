-- Where no row is dropped, all stay; and places that rise are those of rows.
use Rattle.std.proofs.Common.{◌≡◌, ℕ, ◌+◌, ◌<◌, List, [], ◌∷◌, length, map, refl, ap, arith, true}
use Rattle.std.specs.Prelude.{◌==◌}
use Rattle.std.specs.List.{All}
use Rattle.std.proofs.lemmas.Bool.{eqb-true}
use Rattle.std.proofs.lemmas.List.Elements.{All-cons, All-nil}
use Rattle.row_store.specs.declared.changes.Change.{Change}
use Rattle.row_store.specs.Changes.{marked, unhit}
use Rattle.row_store.specs.Numbers.{AreRising}

none_marked : {T : Type 0} (rows : List T) (place : ℕ) → rows ≡ unhit rows (marked place (length rows) [])
none_marked [] place = refl
none_marked (row ∷ rows) place = ap (λ l. row ∷ l) (none_marked rows (place + 1))

pub none_dropped : {T : Type 0} (rows : List T) (places : List ℕ) → (length places == 0) ≡ true → rows ≡ unhit rows (marked 0 (length rows) places)
none_dropped rows [] e = none_marked rows 0
none_dropped rows (place ∷ places) e = let none = eqb-true (length (place ∷ places)) 0 e in absurd (omega arith)

pub places_within : {T : Type 0} (from to : ℕ) (changes : List (Change T)) → AreRising from to (map (λ change. change.place) changes) → All (λ (change : Change T). change.place < to) changes
places_within {T = T} from to [] h = All-nil (λ (change : Change T). change.place < to)
places_within {T = T} from to (change ∷ changes) h = All-cons (λ (change : Change T). change.place < to) change changes h.1 (places_within (change.place + 1) to changes h.2)
