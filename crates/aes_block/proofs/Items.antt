-- The elements that a pattern takes from an array.
use Rattle.std.proofs.Common.{◌≡◌, ℕ, ◌<◌, List, [], length, slice_index_or, arith}
use Rattle.std.proofs.lemmas.List.{get_or_default}

-- element i of n planes
pub item : (planes : List (List ℕ)) (i n : ℕ) (plane : List ℕ) → length planes ≡ n → i < n
    → slice_index_or planes i plane ≡ slice_index_or planes i []
item planes i n plane long low = get_or_default planes i plane [] (omega arith)
