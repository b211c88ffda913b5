-- Authentication codes are 32 bytes.
use Rattle.std.proofs.Common.{ℕ, ◌<◌, List, arith}
use Rattle.std.proofs.lemmas.List.{length-take-le}
use Rattle.std.proofs.lemmas.List.Elements.{All-take}
use Rattle.aes_block.specs.Aes.{IsKey, IsBlock}
use Rattle.hmac_kdf.specs.Hmac.{hmac}
use Rattle.hmac_kdf.specs.Keys.{Keys, keys_of}
use Rattle.hmac_kdf.proofs.Interface.{length-hmac, bytes-hmac}
use Rattle.cell_codec.specs.Cells.{iv_of}

pub hmac-IsKey : (key message : List ℕ) → IsKey (hmac key message)
hmac-IsKey key message = (length-hmac key message, bytes-hmac key message)

pub enc_key-IsKey : (cek : List ℕ) → IsKey (keys_of cek).enc_key
unfolding keys_of
enc_key-IsKey cek = hmac-IsKey _ _

pub iv_of-IsBlock : (keys : Keys) (bytes : List ℕ) → IsBlock (iv_of keys bytes)
iv_of-IsBlock keys bytes =
    let code = hmac-IsKey keys.iv_key bytes in
    (length-take-le 16 (hmac keys.iv_key bytes) (omega arith), All-take (λ byte. byte < 256) 16 (hmac keys.iv_key bytes) code.1)
