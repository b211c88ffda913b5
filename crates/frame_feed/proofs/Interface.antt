-- What crates above may cite of the proofs of this one. The rest is free to change.

-- A stream that is read as far as it has come.
pub use Rattle.frame_feed.proofs.Streams.{refused_more}
