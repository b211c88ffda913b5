-- The test of a path decides whether it names a file.
use Rattle.std.proofs.Common.{◌≡◌, ℕ, ◌<◌, ◌≤◌, List, length, get_or, encode_utf8_all, Bool, true, inl, inr, refl, arith}
use Rattle.std.specs.Prelude.{◌↔◌, IsTrue}
use Rattle.std.specs.List.{list_all, AllPass}
use Rattle.std.specs.Bool.{Decides}
use Rattle.std.specs.Str.{IsAscii}
use Rattle.std.proofs.lemmas.Bool.{cases_lt}
use Rattle.std.proofs.lemmas.Bool.Decides.{Decides-by_and, nat_tests}
use Rattle.std.proofs.lemmas.List.{get_or_past}
use Rattle.std.proofs.lemmas.Str.{encodes-IsAscii}
use Rattle.ae_edge.specs.KeyFiles.{IsKeyPath, is_path_character}

plain_decides : (path : List ℕ) → Decides (list_all is_path_character path) (AllPass is_path_character path)
plain_decides path =
    Decides-by_and is_path_character (λ c. is_path_character c ≡ true) (list_all is_path_character) (λ c. (λ e. e, λ e. e)) refl (λ _ _. refl) path

pub path_exactly : (path : List ℕ) (plain : Bool) → 1 ≤ length path → length path ≤ 64 → plain ≡ list_all is_path_character path → IsTrue plain ↔ IsKeyPath path
path_exactly path plain some few is =
    rw is (
      λ h. record { some = some; few = few; plain = (plain_decides path).0 h },
      λ (key : IsKeyPath path). (plain_decides path).1 key.plain,
    )

ascii : (c : ℕ) → is_path_character c ≡ true → c < 128
ascii c h = grind (arith, nat_tests)

IsAscii-path : (path : List ℕ) → AllPass is_path_character path → IsAscii path
IsAscii-path path h i =
    elim (cases_lt i (length path)) [
      | inl within ↦ ascii (get_or path i 0) (h i 0 within)
      | inr past ↦ let e = get_or_past path i 0 past in omega (arith, e)
    ]

pub few_bytes : (path bytes : List ℕ) → IsKeyPath path → bytes ≡ encode_utf8_all path → length bytes ≤ 64
few_bytes path bytes key is = rw (is, encodes-IsAscii path (IsAscii-path path key.plain)) key.few
