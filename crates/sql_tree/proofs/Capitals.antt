-- A text that reads as a word in capitals.
use Rattle.std.proofs.Common.{◌≡◌, ℕ, ◌<◌, true, List, [], ◌∷◌, map, refl, sym, ◌∙◌, ap, arith}
use Rattle.std.specs.List.{list_all}
use Rattle.std.specs.Char.{to_ascii_uppercase, to_ascii_lowercase}
use Rattle.std.specs.Str.{IsAscii, IsUtf8, chars}
use Rattle.std.proofs.lemmas.Bool.{and_parts}
use Rattle.std.proofs.lemmas.Bool.Decides.{nat_tests}
use Rattle.std.proofs.lemmas.Str.{chars-IsAscii, encodes-chars, encodes-IsAscii}
use Rattle.std.proofs.lemmas.Str.Ascii.{IsAscii-nil, IsAscii-cons, lowercase-uppercase}
use Rattle.sql_tree.specs.Reading.{is_capital}

-- a byte with the lower case of a capital is ASCII, and its upper case is the capital
capital_of : (b c : ℕ) → is_capital c ≡ true → to_ascii_lowercase b ≡ to_ascii_lowercase c → (b < 128) × (c ≡ to_ascii_uppercase b)
capital_of b c h e = (grind (arith, nat_tests), grind (arith, nat_tests))

ascii_below : (c d : ℕ) → is_capital d ≡ true → d ≡ to_ascii_uppercase c → c < 128
ascii_below c d h e = grind (arith, nat_tests)

lowered : (bs cs : List ℕ) → list_all is_capital cs ≡ true → map to_ascii_lowercase bs ≡ map to_ascii_lowercase cs → IsAscii bs × (cs ≡ map to_ascii_uppercase bs)
lowered [] [] h e = (IsAscii-nil, refl)
lowered [] (c ∷ cs) h e = absurd (cc)
lowered (b ∷ bs) [] h e = absurd (cc)
lowered (b ∷ bs) (c ∷ cs) h e =
    let p = and_parts (is_capital c) (list_all is_capital cs) h in
    let first : to_ascii_lowercase b ≡ to_ascii_lowercase c = cc in
    let more : map to_ascii_lowercase bs ≡ map to_ascii_lowercase cs = cc in
    let q = capital_of b c p.0 first in
    let r = lowered bs cs p.1 more in
    (IsAscii-cons b bs q.0 r.0, cc)

raised : (cs ds : List ℕ) → list_all is_capital ds ≡ true → ds ≡ map to_ascii_uppercase cs → IsAscii cs
raised [] ds h e = IsAscii-nil
raised (c ∷ cs) [] h e = absurd (cc)
raised (c ∷ cs) (d ∷ ds) h e =
    let p = and_parts (is_capital d) (list_all is_capital ds) h in
    let first : d ≡ to_ascii_uppercase c = cc in
    let more : ds ≡ map to_ascii_uppercase cs = cc in
    IsAscii-cons c cs (ascii_below c d p.0 first) (raised cs ds p.1 more)

lower-upper : (cs : List ℕ) → map to_ascii_lowercase (map to_ascii_uppercase cs) ≡ map to_ascii_lowercase cs
lower-upper [] = refl
lower-upper (c ∷ cs) = rw (lowercase-uppercase c, lower-upper cs) refl

pub reads_from_lower : (bs ds : List ℕ) → list_all is_capital ds ≡ true → map to_ascii_lowercase bs ≡ map to_ascii_lowercase ds → ds ≡ map to_ascii_uppercase (chars bs)
reads_from_lower bs ds h e =
    let p = lowered bs ds h e in
    rw (chars-IsAscii bs p.0) p.1

pub lower_from_reads : (bs ds : List ℕ) → IsUtf8 bs → list_all is_capital ds ≡ true → ds ≡ map to_ascii_uppercase (chars bs) → map to_ascii_lowercase bs ≡ map to_ascii_lowercase ds
lower_from_reads bs ds text h e =
    let ascii = raised (chars bs) ds h e in
    let same : bs ≡ chars bs = sym (encodes-chars bs text) ∙ encodes-IsAscii (chars bs) ascii in
    ap (map to_ascii_lowercase) same ∙ sym (lower-upper (chars bs)) ∙ ap (map to_ascii_lowercase) (sym e)
