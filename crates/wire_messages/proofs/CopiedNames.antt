-- Copies that have the names of what is copied.
use Rattle.std.proofs.Common.{◌≡◌, ◌≤◌, ℕ, List, [], ◌∷◌, length, map, refl, IsTrue}
use Rattle.std.proofs.lemmas.List.{length-map}
use Rattle.ae_base.specs.Names.{all_differ}

names_kept : {P T : Type 0} (same : P → T) (called : P → List ℕ) (named : T → List ℕ) → ((p : P) → named (same p) ≡ called p) → (ps : List P)
    → map named (map same ps) ≡ map called ps
names_kept same called named kept [] = refl
names_kept same called named kept (p ∷ ps) =
    let e = kept p in
    let f = names_kept same called named kept ps in
    rw (e, f) refl

-- as many, and their names differ
pub copies_differ : {P T : Type 0} (same : P → T) (called : P → List ℕ) (named : T → List ℕ) → ((p : P) → named (same p) ≡ called p) → (ps : List P) (copies : List T)
    → copies ≡ map same ps → length ps ≤ 128 → IsTrue (all_differ (map called ps)) → (length copies ≤ 128) × IsTrue (all_differ (map named copies))
copies_differ same called named kept ps copies e few differ =
    let n = length-map ps same in
    let k = names_kept same called named kept ps in
    rw (e, n, k) (few, differ)
