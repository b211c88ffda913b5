-- What crates above may cite of the proofs of this one. The rest is free to change.

-- Where the rows lie that pass a test, and which they are.
pub use Rattle.row_lookups.proofs.Finding.{where_below, where_least, where_long, where_rises}
pub use Rattle.row_lookups.proofs.Finding.{found_rows}
