-- What crates above may cite of the proofs of this one. The rest is free to change.

-- What UPDATE and DELETE find of each row of a table, and what they write.
pub use Rattle.row_changes.proofs.Changing.{hits_counted, replaced_width, unhit_stay}
-- Changes with their places, and the rows that they stand for.
pub use Rattle.row_changes.proofs.Spreading.{changes_counted, written_stand}
-- The values of new rows, one by one.
pub use Rattle.row_changes.proofs.Values.{new_rows_shape}
