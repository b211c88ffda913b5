-- What crates above may cite of the proofs of this one. The rest is free to change.

-- Readings that read the same.
pub use Rattle.sql_expressions.proofs.Alike.{away, behind, here, same_gives}
-- Loops that read things one after another, or with commas between.
pub use Rattle.sql_expressions.proofs.Listing.{goes_push}
pub use Rattle.sql_expressions.proofs.Listing.{goes_fails}
