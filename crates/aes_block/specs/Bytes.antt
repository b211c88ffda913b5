-- Lists of bytes.
use Rattle.std.specs.Prelude.{ℕ, ◌<◌, List, map, bit_xor}
use Rattle.std.specs.List.{All, zip}

-- a list of bytes
abbrev pub AreBytes : List ℕ → Type 0
AreBytes bytes = All (λ byte. byte < 256) bytes

-- exclusive or, byte by byte
unfoldable pub bytes_xor : List ℕ → List ℕ → List ℕ
bytes_xor xs ys = map (λ pair. bit_xor pair.0 pair.1) (zip xs ys)
