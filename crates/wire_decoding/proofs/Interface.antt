-- What crates above may cite of the proofs of this one. The rest is free to change.

-- The two laws of bodies: what is read of a body spells it, and what is spelled so is read.
pub use Rattle.wire_decoding.proofs.MessageLaws.{request_again, request_takes}
pub use Rattle.wire_decoding.proofs.PayloadLaws.{payload_again, payload_takes}
-- What is read is spelled so, and what is spelled so is read, whatever follows: the two laws of a part, and how they go
pub use Rattle.wire_decoding.proofs.Takes.{AreBytes, AreBytes-drop, AreBytes-take, some_is}
