-- What crates above may cite of the proofs of this one. The rest is free to change.

-- The number of the one row with a key.
pub use Rattle.unique_keys.proofs.Numbering.{IsOfOne, one_of_distinct, or_else, where_append, where_keys, where_none}
-- Rows that are alike on a unique key.
pub use Rattle.unique_keys.proofs.Twins.{all_differ, has_twins-append, key_turned, twins_same, unhit_differ}
-- Unique keys over rows that correspond.
pub use Rattle.unique_keys.proofs.TwinsAlike.{first_alike}
