-- The three keys that are derived from a column encryption key for the cells of its columns.
use Rattle.std.specs.Prelude.{ℕ, List, [], ◌∷◌, codes}
use Rattle.std.specs.List.{flat_map}
use Rattle.hmac_kdf.specs.Hmac.{hmac}

-- the derived keys, each a list of bytes
pub record Keys : Type 0 where
  pub enc_key : List ℕ
  pub mac_key : List ℕ
  pub iv_key : List ℕ

-- the text of the label of enc_key; the three texts are this repository's own choice
abbrev pub enc_label : List ℕ
enc_label = codes "Microsoft SQL Server cell encryption key with encryption algorithm:AEAD_AES_256_CBC_HMAC_SHA256 and key length:256"

-- the text of the label of mac_key
abbrev pub mac_label : List ℕ
mac_label = codes "Microsoft SQL Server cell MAC key with encryption algorithm:AEAD_AES_256_CBC_HMAC_SHA256 and key length:256"

-- the text of the label of iv_key
abbrev pub iv_label : List ℕ
iv_label = codes "Microsoft SQL Server cell IV key with encryption algorithm:AEAD_AES_256_CBC_HMAC_SHA256 and key length:256"

-- an ASCII text in UTF-16LE, with no byte order mark: a zero byte after each character
-- (RFC 2781 sections 2.1, 3.1 and 3.3)
abbrev pub utf16le_of_ascii : List ℕ → List ℕ
utf16le_of_ascii text = flat_map (λ character. character ∷ 0 ∷ []) text

-- the keys of a column encryption key: the HMAC of each label under it (RFC 2104 section 2)
unfoldable pub keys_of : List ℕ → Keys
keys_of cek = record {
  enc_key = hmac cek (utf16le_of_ascii enc_label);
  mac_key = hmac cek (utf16le_of_ascii mac_label);
  iv_key = hmac cek (utf16le_of_ascii iv_label);
}
