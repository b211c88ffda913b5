use Rattle.hmac_kdf.specs.Keys.{keys_of}
use Rattle.hmac_kdf.proofs.keys.CellKeys.derive.Goals as goal
use Rattle.std.proofs.Common.{refl}

pub returns : goal.returns
unfolding keys_of
returns c = rw (c.derived_key-enc_key.ensures, c.derived_key-mac_key.ensures, c.derived_key-iv_key.ensures) refl
