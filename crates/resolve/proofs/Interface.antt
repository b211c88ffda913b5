-- What crates above may cite of the proofs of this one. The rest is free to change.

-- The faults of each part of a statement that is bound.
pub use Rattle.resolve.proofs.Causes.{bind_blames}
