-- What crates above may cite of the proofs of this one. The rest is free to change.

-- Keys that are put into an index, and taken out.
pub use Rattle.key_index.proofs.Entries.{put_none}
