-- What crates above may cite of the proofs of this one. The rest is free to change.

-- The inverse cipher undoes the cipher, and the cipher the inverse cipher.
pub use Rattle.aes_block.proofs.Inversion.{length-decrypted}
-- Exclusive or, byte by byte.
pub use Rattle.aes_block.proofs.Xoring.{AreBytes-xored, length-xored, xored-xored}
