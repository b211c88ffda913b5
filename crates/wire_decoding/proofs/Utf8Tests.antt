-- The test whether bytes are UTF-8.
use Rattle.std.proofs.Common.{◌≡◌, List, ℕ, Bool, true, false, Some, None, refl}
use Rattle.std.specs.Str.{chars, is_utf8, IsUtf8}
use Rattle.std.proofs.lemmas.Str.{IsUtf8-from_is_utf8, is_utf8-from_IsUtf8}
use Rattle.wire_decoding.specs.Reading.{characters_of}

pub is_text : (bytes text : List ℕ) → text ≡ bytes → IsUtf8 bytes → characters_of bytes ≡ Some (chars text)
is_text bytes text e u = let t = is_utf8-from_IsUtf8 bytes u in rw (t, e) refl

not_utf8 : (bytes : List ℕ) (test : Bool) → is_utf8 bytes ≡ test → ¬ (IsUtf8 bytes) → test ≡ false
not_utf8 bytes true e n = absurd (n (IsUtf8-from_is_utf8 bytes e))
not_utf8 bytes false e n = refl

pub is_no_text : (bytes : List ℕ) → ¬ (IsUtf8 bytes) → characters_of bytes ≡ None
is_no_text bytes n = let t = not_utf8 bytes (is_utf8 bytes) refl n in rw t refl
