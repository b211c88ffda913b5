-- What crates above may cite of the proofs of this one. The rest is free to change.

-- The parameters of an understood statement have as many encryptions as are declared, under keys that are there.
pub use Rattle.statement_analysis.proofs.Encryptions.{encs_count, keys_there, there_if}
-- The keys that are told of some encryptions are those that they use.
pub use Rattle.statement_analysis.proofs.Listing.{are_the_keys}
