-- Parts that are read one after another, as a loop does.
use Rattle.std.proofs.Common.{◌≡◌, ◌<◌, ℕ, zero, suc, List, [], ◌∷◌, ◌++◌, length, Some, None, refl, sym, ap, subst, arith}
use Rattle.wire_decoding.specs.Reading.{Reader, parts_at}

-- the parts stand at the start of some bytes, one after another, before the rest
abbrev pub AreRead : {P : Type 0} → Reader P → List P → List ℕ → List ℕ → Type 0
AreRead part [] bytes rest = bytes ≡ rest
AreRead part (p ∷ ps) bytes rest = (after : List ℕ) × (part bytes ≡ Some (p, after)) × AreRead part ps after rest

pub AreRead-push : {P : Type 0} (part : Reader P) (ps : List P) (p : P) (bytes rest after : List ℕ)
    → AreRead part ps bytes rest → part rest ≡ Some (p, after) → AreRead part (ps ++ p ∷ []) bytes after
AreRead-push part [] p bytes rest after h s = (after, subst (λ (b : List ℕ). part b ≡ Some (p, after)) (sym h) s, refl)
AreRead-push part (first ∷ ps) p bytes rest after h s = (h.0, h.1, AreRead-push part ps p h.0 rest after h.2 s)

pub parts_read : {P : Type 0} (part : Reader P) (ps : List P) (bytes rest : List ℕ) → AreRead part ps bytes rest → parts_at part (length ps) bytes ≡ Some (ps, rest)
unfolding parts_at
parts_read part [] bytes rest h = ap (λ (b : List ℕ). Some ([], b)) h
parts_read part (x ∷ ps) bytes rest h = rw (h.1, parts_read part ps h.0 rest h.2) refl

pub parts_end : {P : Type 0} (part : Reader P) (ps : List P) (bytes rest : List ℕ) (count : ℕ) → AreRead part ps bytes rest → length ps < count → part rest ≡ None
    → parts_at part count bytes ≡ None
unfolding parts_at
parts_end part [] bytes rest zero h short none = absurd (omega arith)
parts_end part [] bytes rest (suc count) h short none = rw (h, none) refl
parts_end part (x ∷ ps) bytes rest zero h short none = absurd (omega arith)
parts_end part (x ∷ ps) bytes rest (suc count) h short none =
    let shorter : length ps < count = omega arith in
    rw (h.1, parts_end part ps h.0 rest count h.2 shorter none) refl
