-- How far what stands in quotes is read.
use Rattle.std.proofs.Common.{◌≡◌, ◌==◌, ℕ, ◌+◌, ◌≤◌, Bool, true, false, List, [], ◌∷◌, ◌++◌, length, drop, Option, Some, None, refl, sym, ◌∙◌, ap, subst, arith, append_assoc, add_assoc}
use Rattle.std.specs.Option.{option_map}
use Rattle.std.specs.Str.{IsUtf8, is_utf8}
use Rattle.std.proofs.lemmas.List.{drop-drop, append-nil}
use Rattle.std.proofs.lemmas.Str.{IsUtf8-from_is_utf8}
use Rattle.sql_tree.specs.Tokens.{quoted, with_byte}
use Rattle.sql_tree.specs.Reading.{quoted_byte}

abbrev pub behind : List ℕ → ℕ → Option (List ℕ × ℕ) → Option (List ℕ × ℕ)
behind text at read = option_map (λ r. (text ++ r.0, at + r.1)) read

-- so many bytes are read, which spell the text
pub record IsReadTo (quote : ℕ) (bytes text : List ℕ) (at : ℕ) : Type 0 where
  pub ahead : quoted quote bytes ≡ behind text at (quoted quote (drop at bytes))
  pub within : at ≤ length bytes

behind-push : (text : List ℕ) (at b len : ℕ) (read : Option (List ℕ × ℕ)) → behind text at (with_byte b len read) ≡ behind (text ++ b ∷ []) (at + len) read
behind-push text at b len None = refl
behind-push text at b len (Some r) =
    ap (λ (t : List ℕ). Some (t, at + (len + r.1))) (sym (append_assoc text (b ∷ []) r.0)) ∙ ap (λ n. Some ((text ++ b ∷ []) ++ r.0, n)) (sym (add_assoc at len r.1))

-- the byte that is read first, by the two tests
abbrev IsSpelled : ℕ → List ℕ → ℕ × ℕ → Type 0
IsSpelled quote bytes read = quoted quote bytes ≡ with_byte read.0 read.1 (quoted quote (drop read.1 bytes))

last_byte : (quote x : ℕ) (read : ℕ × ℕ) (same : Bool) → (x == quote) ≡ same → quoted_byte quote (x ∷ []) ≡ Some read → IsSpelled quote (x ∷ []) read
last_byte quote x read true e h = let none : None ≡ Some read = rw e at h in absurd cc
last_byte quote x read false e h =
    let one : Some (x, 1) ≡ Some read = rw e at h in
    let pair : (x, 1) ≡ read = cc in
    subst (IsSpelled quote (x ∷ [])) pair (rw e refl)

more_bytes : (quote x y : ℕ) (bytes : List ℕ) (read : ℕ × ℕ) (same twice : Bool) → (x == quote) ≡ same → (y == quote) ≡ twice → quoted_byte quote (x ∷ y ∷ bytes) ≡ Some read
    → IsSpelled quote (x ∷ y ∷ bytes) read
more_bytes quote x y bytes read false twice e f h =
    let one : Some (x, 1) ≡ Some read = rw e at h in
    let pair : (x, 1) ≡ read = cc in
    subst (IsSpelled quote (x ∷ y ∷ bytes)) pair (rw e refl)
more_bytes quote x y bytes read true true e f h =
    let one : Some (quote, 2) ≡ Some read = rw (e, f) at h in
    let pair : (quote, 2) ≡ read = cc in
    subst (IsSpelled quote (x ∷ y ∷ bytes)) pair (rw (e, f) refl)
more_bytes quote x y bytes read true false e f h = let none : None ≡ Some read = rw (e, f) at h in absurd cc

spelled : (quote : ℕ) (bytes : List ℕ) (read : ℕ × ℕ) → quoted_byte quote bytes ≡ Some read → IsSpelled quote bytes read
spelled quote [] read h = absurd cc
spelled quote (x ∷ []) read h = last_byte quote x read (x == quote) refl h
spelled quote (x ∷ y ∷ bytes) read h = more_bytes quote x y bytes read (x == quote) (y == quote) refl refl h

pub byte_read : (quote : ℕ) (bytes text : List ℕ) (at : ℕ) (read : ℕ × ℕ) → IsReadTo quote bytes text at → quoted_byte quote (drop at bytes) ≡ Some read → at + read.1 ≤ length bytes
    → IsReadTo quote bytes (text ++ read.0 ∷ []) (at + read.1)
byte_read quote bytes text at read r h within = record {
  ahead = r.ahead ∙ ap (behind text at) (spelled quote (drop at bytes) read h ∙ ap (λ rest. with_byte read.0 read.1 (quoted quote rest)) (drop-drop read.1 at bytes))
      ∙ behind-push text at read.0 read.1 (quoted quote (drop (at + read.1) bytes));
  within = within;
}

abbrev byte_found : ℕ → ℕ → Option (ℕ × ℕ)
byte_found b len = Some (b, len)

closed_last : (quote x : ℕ) (same : Bool) → (x == quote) ≡ same → quoted_byte quote (x ∷ []) ≡ None → quoted quote (x ∷ []) ≡ Some ([], 1)
closed_last quote x true e h = rw e refl
closed_last quote x false e h = let none : byte_found x 1 ≡ None = rw e at h in absurd cc

closed_before : (quote x y : ℕ) (bytes : List ℕ) (same twice : Bool) → (x == quote) ≡ same → (y == quote) ≡ twice → quoted_byte quote (x ∷ y ∷ bytes) ≡ None
    → quoted quote (x ∷ y ∷ bytes) ≡ Some ([], 1)
closed_before quote x y bytes false twice e f h = let none : byte_found x 1 ≡ None = rw e at h in absurd cc
closed_before quote x y bytes true true e f h = let none : byte_found quote 2 ≡ None = rw (e, f) at h in absurd cc
closed_before quote x y bytes true false e f h = rw (e, f) refl

closed : (quote : ℕ) (bytes : List ℕ) → quoted_byte quote bytes ≡ None → 1 ≤ length bytes → quoted quote bytes ≡ Some ([], 1)
closed quote [] h some = absurd (omega arith)
closed quote (x ∷ []) h some = closed_last quote x (x == quote) refl h
closed quote (x ∷ y ∷ bytes) h some = closed_before quote x y bytes (x == quote) (y == quote) refl refl h

pub all_read : (quote : ℕ) (bytes text : List ℕ) (at : ℕ) → IsReadTo quote bytes text at → quoted_byte quote (drop at bytes) ≡ None → 1 ≤ length (drop at bytes)
    → quoted quote bytes ≡ Some (text, at + 1)
all_read quote bytes text at r h some =
    r.ahead ∙ ap (behind text at) (closed quote (drop at bytes) h some) ∙ ap (λ (t : List ℕ). Some (t, at + 1)) (append-nil text)

pub no_utf8 : (bytes : List ℕ) (test : Bool) → is_utf8 bytes ≡ test → (IsUtf8 bytes → false ≡ true) → is_utf8 bytes ≡ false
no_utf8 bytes true e h = absurd (let wrong : false ≡ true = h (IsUtf8-from_is_utf8 bytes e) in cc)
no_utf8 bytes false e h = e
