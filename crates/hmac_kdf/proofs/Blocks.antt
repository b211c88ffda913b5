-- What the kernel computes of the blocks of specs/Hmac at small keys.
use Rattle.std.proofs.Common.{◌≡◌, ◌++◌, refl, replicate, codes}
use Rattle.hmac_kdf.specs.Hmac.{key_block, padded_with, inner_pad, outer_pad}

-- a short key gets zeros after it
key_block-short : key_block (codes "Jefe") ≡ codes "Jefe" ++ replicate 60 0
key_block-short = refl

-- a key of a whole block stays as it is
key_block-whole : key_block (replicate 64 0xaa) ≡ replicate 64 0xaa
key_block-whole = refl

-- the exclusive or of 0xaa with each pad's byte
padded_with-inner : padded_with inner_pad (replicate 64 0xaa) ≡ replicate 64 0x9c
padded_with-inner = refl

padded_with-outer : padded_with outer_pad (replicate 64 0xaa) ≡ replicate 64 0xf6
padded_with-outer = refl
