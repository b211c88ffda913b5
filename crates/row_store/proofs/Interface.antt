-- What crates above may cite of the proofs of this one. The rest is free to change.

-- Lists that lie in pages, taken page by page.
pub use Rattle.row_store.proofs.Flat.{All_page, flat-append, flat_left, flat_map-flat, flat_taken}
-- Places that are marked, and the rows there.
pub use Rattle.row_store.proofs.Marking.{hit_read, marked_long, marked_read, written_long}
-- Numbers that rise.
pub use Rattle.row_store.proofs.Rising.{counted_long, counted_more, rising_hit, rising_least, rising_order, rising_unhit, unhit_each, wider}
