-- Laws of cells.
use Rattle.std.specs.Prelude.{◌≡◌, ℕ, ◌+◌, ◌*◌, ◌/◌, ◌≤◌, List, length, Ok}
use Rattle.ae_base.specs.declared.types.Ty.{Ty}
use Rattle.aes_block.specs.Aes.{IsKey, IsBlock}
use Rattle.aes_block.specs.Bytes.{AreBytes}
use Rattle.hmac_kdf.specs.Keys.{Keys, keys_of}
use Rattle.value_norm.specs.Norm.{most_bytes}
use Rattle.cell_codec.specs.Cells.{cell_of, sealed_det, iv_of, content_of, IsShape}

-- what is sealed is read back: under a key of 32 bytes and a vector of 16, any bytes
abbrev pub SealedIsReadBack : Type 0
SealedIsReadBack = (keys : Keys) (iv bytes : List ℕ) → IsKey keys.enc_key → IsBlock iv → AreBytes bytes
    → content_of keys (cell_of keys iv bytes) ≡ Ok bytes

-- and under the deterministic vector
abbrev pub SealedDetIsReadBack : Type 0
SealedDetIsReadBack = (keys : Keys) (bytes : List ℕ) → IsKey keys.enc_key → AreBytes bytes
    → content_of keys (sealed_det keys bytes) ≡ Ok bytes

-- how long a cell is, and that it is made of bytes
pub record IsCellOf (cell bytes : List ℕ) : Type 0 where
  pub long : length cell ≡ 49 + (length bytes / 16 + 1) * 16
  pub bytes_alone : AreBytes cell

abbrev pub SealedIsCell : Type 0
SealedIsCell = (keys : Keys) (iv bytes : List ℕ) → IsKey keys.enc_key → IsBlock iv → AreBytes bytes
    → IsCellOf (cell_of keys iv bytes) bytes

-- a cell of no more bytes than the type has at most is of the type's shape
abbrev pub SealedHasShape : Type 0
SealedHasShape = (keys : Keys) (iv bytes : List ℕ) (ty : Ty) → IsKey keys.enc_key → IsBlock iv → AreBytes bytes
    → length bytes ≤ most_bytes ty → IsShape (cell_of keys iv bytes) ty

-- a derived key is a key
abbrev pub DerivedAreKeys : Type 0
DerivedAreKeys = (cek : List ℕ) → IsKey (keys_of cek).enc_key

-- the deterministic vector is a block
abbrev pub IvIsBlock : Type 0
IvIsBlock = (keys : Keys) (bytes : List ℕ) → IsBlock (iv_of keys bytes)
