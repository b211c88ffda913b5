-- What a contract sees of a `Mac`: the key that it was made with, and the message that it holds.
use Rattle.std.specs.Prelude.{ℕ, List, ◌++◌}
use Rattle.sha2.specs.Hashers.{Holds256}
use Rattle.hmac_kdf.specs.Hmac.{inner_pad, outer_pad, key_block, padded_with}
use Rattle.hmac_kdf.specs.declared.mac.Mac.{Mac}

-- the mac was made with this key and holds this message: its inner hash has taken the key's block
-- under ipad and then the message, and its outer hash the key's block under opad
unfoldable pub Holds : Mac → List ℕ → List ℕ → Type 0
Holds mac key message =
    Holds256 mac.inner (padded_with inner_pad (key_block key) ++ message)
    × Holds256 mac.outer (padded_with outer_pad (key_block key))
