-- What crates above may cite of the proofs of this one. The rest is free to change.

-- Bytes are the frames of one list of requests at most; and of records that are served again none is refused.
pub use Rattle.journal_command.proofs.Servable.{refused_not, same_requests}
-- A disk that was mounted, and whose records were read again: it stands as it stood, and a record was refused.
pub use Rattle.journal_command.proofs.Rereading.{still_of}
pub use Rattle.journal_command.proofs.WholeRuns.{refused_at, still_moments}
