-- HMAC-SHA-256 (RFC 2104) as a function on lists of bytes, over the SHA-256 of FIPS 180-4. The
-- sections are those of RFC 2104.
use Rattle.std.specs.Prelude.{ℕ, ◌-◌, List, ◌++◌, map, length, replicate, bit_xor, nat_lt, if◌then◌else◌}
use Rattle.sha2.specs.Sha256.{sha256}

-- B, the length of a block of SHA-256 in bytes (section 2)
abbrev pub block_length : ℕ
block_length = 64

-- the byte that ipad repeats (section 2)
abbrev pub inner_pad : ℕ
inner_pad = 0x36

-- the byte that opad repeats (section 2)
abbrev pub outer_pad : ℕ
outer_pad = 0x5c

-- the bytes with zeros after them up to a block (section 2, step 1)
abbrev pub zero_filled : List ℕ → List ℕ
zero_filled bytes = bytes ++ replicate (block_length - length bytes) 0

-- the key as one block; a key longer than a block is hashed first (section 2)
abbrev pub key_block : List ℕ → List ℕ
key_block key = zero_filled (if nat_lt block_length (length key) then sha256 key else key)

-- the exclusive or of a block with a pad's byte repeated (section 2, steps 2 and 5)
abbrev pub padded_with : ℕ → List ℕ → List ℕ
padded_with pad block = map (λ byte. bit_xor byte pad) block

-- the HMAC of a message under a key: H(K XOR opad, H(K XOR ipad, text)) (section 2)
unfoldable pub hmac : List ℕ → List ℕ → List ℕ
hmac key message =
    let block = key_block key in
    let inner_hash = sha256 (padded_with inner_pad block ++ message) in
    sha256 (padded_with outer_pad block ++ inner_hash)
