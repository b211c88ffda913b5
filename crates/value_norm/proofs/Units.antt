-- Texts as 16-bit units, and units as bytes.
use Rattle.std.proofs.Common.{Bool, true, false, ◌≡◌, ℕ, ◌+◌, ◌-◌, ◌*◌, ◌/◌, ◌%◌, ◌<◌, ◌≤◌, ◌∙◌, List, [], ◌∷◌, ◌++◌, Option, Some, map, length, cond, ap₂, nat_lt, refl, sym, ap, ⊎_elim, arith, not}
use Rattle.std.proofs.Math.Utf8.{scalar, scalars, scalar_cases}
use Rattle.std.proofs.lemmas.Bool.{and_parts, cases_lt, false≢true}
use Rattle.std.proofs.lemmas.Str.{encodes-chars, encodes_same, scalars-chars, IsUtf8-string_bytes, utf16_chars-nil, utf16_chars_lone, utf16_chars_pair}
use Rattle.std.proofs.str.Utf16.{IsPair, one_unit, two_units, lone_unit_char_low, lone_unit_char_high}
use Rattle.std.proofs.lemmas.List.{append-nil, length-append}
use Rattle.std.specs.Char.Escape.{encode_utf16}
use Rattle.std.specs.Char.Utf16.{utf16_chars, surrogate_pair_char, has_unpaired_surrogate}
use Rattle.std.specs.List.{flat_map, list_any, All}
use Rattle.std.proofs.lemmas.List.Elements.{All-nil, All-cons, All-head, All-tail, All-append}
use Rattle.ae_base.specs.Values.{units}
use Rattle.std.specs.Str.{chars}
use Rattle.std.specs.String.{string_bytes, IsUtf16Of}
use Rattle.std.specs.Prelude.{is_some, String}
use Rattle.value_norm.specs.Norm.{unit_bytes, utf16le}

-- the first character of units that begin with its own
utf16_chars-low : (c : ℕ) (units : List ℕ) → c < 0xD800 → utf16_chars (encode_utf16 c ++ units) ≡ Some c ∷ utf16_chars units
utf16_chars-low c units below =
    ap (λ first. utf16_chars (first ++ units)) (one_unit c (omega arith))
    ∙ utf16_chars_lone c units (λ pair. absurd (omega (arith, pair.0)))
    ∙ ap (λ first. first ∷ utf16_chars units) (lone_unit_char_low c below)

utf16_chars-high : (c : ℕ) (units : List ℕ) → 0xE000 ≤ c → c < 0x1_0000 → utf16_chars (encode_utf16 c ++ units) ≡ Some c ∷ utf16_chars units
utf16_chars-high c units from below =
    ap (λ first. utf16_chars (first ++ units)) (one_unit c below)
    ∙ utf16_chars_lone c units (λ pair. absurd (omega (arith, pair.1)))
    ∙ ap (λ first. first ∷ utf16_chars units) (lone_unit_char_high c from)

utf16_chars-two : (c : ℕ) (units : List ℕ) → 0x1_0000 ≤ c → c < 0x11_0000 → utf16_chars (encode_utf16 c ++ units) ≡ Some c ∷ utf16_chars units
utf16_chars-two c units from below =
    let high : ℕ = 0xD800 + (c - 0x1_0000) / 0x400 in
    let low : ℕ = 0xDC00 + (c - 0x1_0000) % 0x400 in
    let made : surrogate_pair_char high low ≡ c = omega arith in
    let pair : IsPair high low = (omega arith, omega arith, omega arith, omega arith) in
    ap (λ first. utf16_chars (first ++ units)) (two_units c from)
    ∙ utf16_chars_pair high low units pair
    ∙ ap (λ first. Some first ∷ utf16_chars units) made

utf16_chars-encode : (c : ℕ) (units : List ℕ) → scalar c ≡ true → utf16_chars (encode_utf16 c ++ units) ≡ Some c ∷ utf16_chars units
utf16_chars-encode c units is =
    ⊎_elim (λ below. utf16_chars-low c units below)
    (λ h. ⊎_elim (λ below. utf16_chars-high c units h.0 below) (λ from. utf16_chars-two c units from h.1) (cases_lt c 0x1_0000))
    (scalar_cases c is)

-- the units of a text spell its characters
pub utf16_chars-units : (cs : List ℕ) → scalars cs ≡ true → utf16_chars (flat_map encode_utf16 cs) ≡ map Some cs
utf16_chars-units [] is = utf16_chars-nil
utf16_chars-units (c ∷ cs) is =
    let parts = and_parts (scalar c) (scalars cs) is in
    utf16_chars-encode c (flat_map encode_utf16 cs) parts.0 ∙ ap (λ rest. Some c ∷ rest) (utf16_chars-units cs parts.1)

map_some_paired : (cs : List ℕ) → list_any (λ o. not (is_some o)) (map Some cs) ≡ false
map_some_paired [] = refl
map_some_paired (c ∷ cs) = map_some_paired cs

-- no unit of a text is a surrogate without its partner
pub units_paired : (cs : List ℕ) → scalars cs ≡ true → has_unpaired_surrogate (flat_map encode_utf16 cs) ≡ false
units_paired cs is = ap (list_any (λ o. not (is_some o))) (utf16_chars-units cs is) ∙ map_some_paired cs

map_some_injective : (cs ds : List ℕ) → map {B = Option ℕ} Some cs ≡ map Some ds → cs ≡ ds
map_some_injective [] [] same = refl
map_some_injective [] (d ∷ ds) same = cc
map_some_injective (c ∷ cs) [] same = cc
map_some_injective (c ∷ cs) (d ∷ ds) same =
    let first : c ≡ d = cc in
    let rest : map {B = Option ℕ} Some cs ≡ map Some ds = cc in
    let tail = map_some_injective cs ds rest in
    cc

-- the units tell the texts apart
pub units_injective : (cs ds : List ℕ) → scalars cs ≡ true → scalars ds ≡ true → flat_map encode_utf16 cs ≡ flat_map encode_utf16 ds → cs ≡ ds
units_injective cs ds left right same =
    map_some_injective cs ds (sym (utf16_chars-units cs left) ∙ ap utf16_chars same ∙ utf16_chars-units ds right)

-- the bytes tell the units apart
pub unit_bytes_injective : (us vs : List ℕ) → flat_map unit_bytes us ≡ flat_map unit_bytes vs → us ≡ vs
unit_bytes_injective [] [] same = refl
unit_bytes_injective [] (v ∷ vs) same = cc
unit_bytes_injective (u ∷ us) [] same = cc
unit_bytes_injective (u ∷ us) (v ∷ vs) same =
    let low : u % 256 ≡ v % 256 = cc in
    let high : u / 256 ≡ v / 256 = cc in
    let rest : flat_map unit_bytes us ≡ flat_map unit_bytes vs = cc in
    let first : u ≡ v = omega arith in
    let tail = unit_bytes_injective us vs rest in
    cc

pub utf16le_injective : (cs ds : List ℕ) → scalars cs ≡ true → scalars ds ≡ true → utf16le cs ≡ utf16le ds → cs ≡ ds
utf16le_injective cs ds left right same =
    units_injective cs ds left right (unit_bytes_injective (flat_map encode_utf16 cs) (flat_map encode_utf16 ds) same)

unit_bytes-length : (us : List ℕ) → length (flat_map unit_bytes us) % 2 ≡ 0
unit_bytes-length [] = refl
unit_bytes-length (u ∷ us) = omega (arith, unit_bytes-length us)

-- where an even number of bytes is units and less than two bytes more, it is those units
pub whole_units : (bytes rest us : List ℕ) → bytes ≡ flat_map unit_bytes us ++ rest
    → length rest < 2 → length bytes % 2 ≡ 0 → flat_map unit_bytes us ≡ bytes
whole_units bytes [] us is short even = simp append-nil at (sym is)
whole_units bytes (r ∷ []) us is short even =
    absurd (omega (arith, simp length-append at (ap length is), unit_bytes-length us))
whole_units bytes (r ∷ s ∷ rest) us is short even = absurd (omega arith)

-- a string of these units is a text of their bytes
pub text_spelled : {Z : Type 0} (s : String Z) (units bytes text : List ℕ) → IsUtf16Of units (string_bytes s)
    → flat_map unit_bytes units ≡ bytes → text ≡ chars (string_bytes s) → utf16le text ≡ bytes
text_spelled s units bytes text (cs, spelled, encoded) is shown =
    let same : chars (string_bytes s) ≡ cs =
    encodes_same (chars (string_bytes s)) cs (encodes-chars (string_bytes s) (IsUtf8-string_bytes s) ∙ encoded) in
    ap utf16le (shown ∙ same) ∙ ap (flat_map unit_bytes) (sym spelled) ∙ is

pub text_scalars : {Z : Type 0} (s : String Z) (text : List ℕ) → text ≡ chars (string_bytes s) → scalars text ≡ true
text_scalars s text shown = ap scalars shown ∙ scalars-chars (string_bytes s) (IsUtf8-string_bytes s)

-- no text has an odd number of bytes
pub odd_spells_none : (bytes : List ℕ) → ¬ (length bytes % 2 ≡ 0) → (text : List ℕ) → scalars text ≡ true → ¬ (utf16le text ≡ bytes)
odd_spells_none bytes odd text is spelled = odd (sym (ap (λ b. length b % 2) spelled) ∙ unit_bytes-length (flat_map encode_utf16 text))

-- no text has units with a surrogate that lacks its partner
pub unpaired_spells_none : (units bytes : List ℕ) → flat_map unit_bytes units ≡ bytes → has_unpaired_surrogate units ≡ true
    → (text : List ℕ) → scalars text ≡ true → ¬ (utf16le text ≡ bytes)
unpaired_spells_none units bytes is unpaired text scalar_values spelled =
    let same : flat_map encode_utf16 text ≡ units = unit_bytes_injective (flat_map encode_utf16 text) units (spelled ∙ sym is) in
    let paired = units_paired text scalar_values in
    let both : has_unpaired_surrogate units ≡ false = ap has_unpaired_surrogate (sym same) ∙ paired in
    false≢true (sym both ∙ unpaired)

unit_bytes-bytes : (units : List ℕ) → All (λ unit. unit < 0x1_0000) units → All (λ byte. byte < 256) (flat_map unit_bytes units)
unit_bytes-bytes [] below = All-nil (λ byte. byte < 256)
unit_bytes-bytes (u ∷ us) below =
    let first : u < 0x1_0000 = All-head (λ unit. unit < 0x1_0000) u us below in
    All-cons (λ byte. byte < 256) (u % 256) (u / 256 ∷ flat_map unit_bytes us) (omega arith)
    (All-cons (λ byte. byte < 256) (u / 256) (flat_map unit_bytes us) (omega arith) (unit_bytes-bytes us (All-tail (λ unit. unit < 0x1_0000) u us below)))

encode_utf16-units : (c : ℕ) → scalar c ≡ true → All (λ unit. unit < 0x1_0000) (encode_utf16 c)
encode_utf16-units c is =
    let below : c < 0x11_0000 = ⊎_elim (λ h. omega arith) (λ h. h.1) (scalar_cases c is) in
    ⊎_elim
    (λ low. rw (one_unit c low) (All-cons (λ unit. unit < 0x1_0000) c [] low (All-nil (λ unit. unit < 0x1_0000))))
    (λ from. rw (two_units c from) (All-cons (λ unit. unit < 0x1_0000) (0xD800 + (c - 0x1_0000) / 0x400) ((0xDC00 + (c - 0x1_0000) % 0x400) ∷ []) (omega arith)
    (All-cons (λ unit. unit < 0x1_0000) (0xDC00 + (c - 0x1_0000) % 0x400) [] (omega arith) (All-nil (λ unit. unit < 0x1_0000)))))
    (cases_lt c 0x1_0000)

text_units : (cs : List ℕ) → scalars cs ≡ true → All (λ unit. unit < 0x1_0000) (flat_map encode_utf16 cs)
text_units [] is = All-nil (λ unit. unit < 0x1_0000)
text_units (c ∷ cs) is =
    let parts = and_parts (scalar c) (scalars cs) is in
    All-append (λ unit. unit < 0x1_0000) (encode_utf16 c) (flat_map encode_utf16 cs) (encode_utf16-units c parts.0) (text_units cs parts.1)

pub utf16le-bytes : (cs : List ℕ) → scalars cs ≡ true → All (λ byte. byte < 256) (utf16le cs)
utf16le-bytes cs is = unit_bytes-bytes (flat_map encode_utf16 cs) (text_units cs is)

length-unit_bytes : (us : List ℕ) → length (flat_map unit_bytes us) ≡ 2 * length us
length-unit_bytes [] = refl
length-unit_bytes (u ∷ us) = omega (arith, length-unit_bytes us)

length-chosen : (low : Bool) (c high second : ℕ) → length (cond low (c ∷ []) (high ∷ second ∷ [])) ≡ cond low 1 2
length-chosen true c high second = refl
length-chosen false c high second = refl

length-units : (cs : List ℕ) → length (flat_map encode_utf16 cs) ≡ units cs
length-units [] = refl
length-units (c ∷ cs) =
    length-append (encode_utf16 c) (flat_map encode_utf16 cs)
    ∙ ap₂ (λ m n. m + n) (length-chosen (nat_lt c 65536) c (0xD800 + (c - 0x1_0000) / 0x400) (0xDC00 + (c - 0x1_0000) % 0x400)) (length-units cs)

pub length-utf16le : (cs : List ℕ) → length (utf16le cs) ≡ 2 * units cs
length-utf16le cs = length-unit_bytes (flat_map encode_utf16 cs) ∙ ap (λ n. 2 * n) (length-units cs)
