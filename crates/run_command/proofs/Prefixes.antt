-- The whole of a text, and none of it, are fronts of it.
use Rattle.std.proofs.Common.{ℕ, List, [], Option, Some, None, refl, sym, append-nil}
use Rattle.ae_edge.specs.Devices.{Adds, AddsPrefix}

pub whole_front : (xs : List ℕ) (old new : Option (List ℕ)) → Adds xs old new → AddsPrefix xs old new
whole_front xs (Some old) (Some new) h = record { front = xs; grew = h; of_it = record { rest = []; is = sym (append-nil xs) } }
whole_front xs None None h = tt
whole_front xs (Some old) None h = absurd h
whole_front xs None (Some new) h = absurd h

pub none_front : (xs : List ℕ) (old : Option (List ℕ)) → AddsPrefix xs old old
none_front xs (Some old) = record { front = []; grew = sym (append-nil old); of_it = record { rest = xs; is = refl } }
none_front xs None = tt
