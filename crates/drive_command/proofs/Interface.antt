-- What crates above may cite of the proofs of this one. The rest is free to change.

-- A count rose where a call failed.
pub use Rattle.drive_command.proofs.Lent.{entropy_rose, reply_rose, vault_rose, write_rose}
