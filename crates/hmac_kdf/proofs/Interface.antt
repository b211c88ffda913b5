-- What crates above may cite of the proofs of this one. The rest is free to change.

-- An authentication code is 32 bytes.
pub use Rattle.hmac_kdf.proofs.Codes.{bytes-hmac, length-hmac}
