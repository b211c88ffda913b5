-- What crates above may cite of the proofs of this one. The rest is free to change.

-- Keys and their entries: each gives the other, a key has one entry or two, and meets what they meet.
pub use Rattle.wire_messages.proofs.Gathering.{entries_meet, entries_of_gathered, entries_within, gathered_again, keys_meet}
