-- What the kernel computes of the labels of specs/Keys: their lengths in characters, and that their
-- bytes are std's UTF-16 with the low byte of each unit first.
use Rattle.std.proofs.Common.{◌≡◌, ℕ, List, refl, length}
use Rattle.std.specs.Char.Escape.{encode_utf16}
use Rattle.std.specs.Int.{w16, to_le_bytes}
use Rattle.std.specs.List.{flat_map}
use Rattle.hmac_kdf.specs.Keys.{enc_label, mac_label, iv_label, utf16le_of_ascii}

length-enc_label : length enc_label ≡ 114
length-enc_label = refl

length-mac_label : length mac_label ≡ 107
length-mac_label = refl

length-iv_label : length iv_label ≡ 106
length-iv_label = refl

-- any text in UTF-16LE
abbrev utf16le : List ℕ → List ℕ
utf16le text = flat_map (λ character. flat_map (to_le_bytes w16) (encode_utf16 character)) text

utf16le-enc_label : utf16le enc_label ≡ utf16le_of_ascii enc_label
utf16le-enc_label = refl

utf16le-mac_label : utf16le mac_label ≡ utf16le_of_ascii mac_label
utf16le-mac_label = refl

utf16le-iv_label : utf16le iv_label ≡ utf16le_of_ascii iv_label
utf16le-iv_label = refl
