-- What crates above may cite of the proofs of this one. The rest is free to change.

-- Bytes that begin with requests.
pub use Rattle.serve_command.proofs.Beginning.{begins_fed}
-- Requests one after another, and the frames of their replies.
pub use Rattle.serve_command.proofs.Replying.{answers_all, breaks_off, frames_more, state_more}
-- What one request more keeps, all of them keep.
pub use Rattle.serve_command.proofs.Turning.{answered_keeps}
-- Of an input that is told, what was put is of its frames within the limit.
pub use Rattle.serve_command.proofs.Exactly.{exactly_from}
