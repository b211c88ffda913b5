-- one step of wrapping and one of unwrapping undo each other
use Rattle.std.proofs.Common.{◌≡◌, ◌≢◌, ℕ, ◌<◌, ◌≤◌, List, [], ◌++◌, length, set, take, drop, arith, ◌∙◌, sym, ap}
use Rattle.std.proofs.lemmas.List.{get_or-set_same, get_or-set_other, set-set, set_comm, set-get_or, length-set, take_at, drop_at, take-append-drop, length-take-le}
use Rattle.aes_block.specs.Aes.{encryption, decryption}
use Rattle.aes_block.specs.Bytes.{bytes_xor}
use Rattle.aes_block.proofs.Interface.{xored-xored}
use Rattle.key_wrap.specs.Wrap.{step_number, register, wrap_step, unwrap_step}

-- both registers of a step set and set back
set_back : (s : List (List ℕ)) (i : ℕ) (x y a r : List ℕ) → 1 ≤ i → a ≡ register s 0 → r ≡ register s i → set (set (set (set s 0 x) i y) 0 a) i r ≡ s
set_back s i x y a r there is_a is_r =
    let apart : i ≢ 0 = omega arith in
    ap (λ (z : List (List ℕ)). set z i r) (set_comm (set s 0 x) i 0 y a apart ∙ ap (λ (z : List (List ℕ)). set z i y) (set-set s 0 x a))
    ∙ set-set (set s 0 a) i y r
    ∙ ap (λ (z : List ℕ). set (set s 0 z) i r) is_a ∙ ap (λ (z : List (List ℕ)). set z i r) (set-get_or s 0 [])
    ∙ ap (λ (z : List ℕ). set s i z) is_r ∙ set-get_or s i []

-- the registers that a step has set
register_first : (s : List (List ℕ)) (i : ℕ) (x y : List ℕ) → 1 ≤ i → i < length s → register (set (set s 0 x) i y) 0 ≡ x
register_first s i x y there lt =
    let apart : 0 ≢ i = omega arith in
    get_or-set_other (set s 0 x) i 0 y [] apart ∙ get_or-set_same s 0 x [] (omega arith)

register_other : (s : List (List ℕ)) (i : ℕ) (x y : List ℕ) → i < length s → register (set (set s 0 x) i y) i ≡ y
register_other s i x y lt = get_or-set_same (set s 0 x) i y [] (omega (arith, length-set s 0 x))

-- wrapping what a step of unwrapping has set, by the values that the step computes
pub wrap_step-undoes : (kek : List ℕ) (j i : ℕ) (s : List (List ℕ)) (t check block b high low : List ℕ) → 1 ≤ i → i < length s
    → t ≡ step_number j i → bytes_xor check t ≡ register s 0 → length check ≡ 8 → block ≡ check ++ register s i → encryption kek b ≡ block → high ≡ take 8 b → low ≡ drop 8 b
    → wrap_step kek j i (set (set s 0 high) i low) ≡ s
unfolding wrap_step
wrap_step-undoes kek j i s t check block b high low there lt is_t again long is_block undone is_high is_low =
    let first = register_first s i high low there lt in
    let other = register_other s i high low lt in
    let whole : high ++ low ≡ b = ap (λ (h : List ℕ). h ++ low) is_high ∙ ap (λ (l : List ℕ). take 8 b ++ l) is_low ∙ take-append-drop 8 b in
    let sealed : encryption kek (high ++ low) ≡ check ++ register s i = ap (λ (x : List ℕ). encryption kek x) whole ∙ undone ∙ is_block in
    let back : register s 0 ≡ bytes_xor (take 8 (check ++ register s i)) (step_number j i) =
    sym again ∙ ap (λ (n : List ℕ). bytes_xor check n) is_t ∙ ap (λ (h : List ℕ). bytes_xor h (step_number j i)) (sym (take_at check (register s i) 8 long)) in
    let rest : drop 8 (check ++ register s i) ≡ register s i = drop_at check (register s i) 8 long in
    rw (first, other, sealed) (set_back s i high low _ _ there (sym back) rest)

pub unwrap_step-wrap_step : (kek : List ℕ) (j i : ℕ) (s : List (List ℕ)) → 1 ≤ i → i < length s → length (register s 0) ≡ 8
    → decryption kek (encryption kek (register s 0 ++ register s i)) ≡ register s 0 ++ register s i → length (encryption kek (register s 0 ++ register s i)) ≡ 16
    → unwrap_step kek j i (wrap_step kek j i s) ≡ s
unfolding wrap_step unwrap_step
unwrap_step-wrap_step kek j i s there lt long undone block_long =
    let t = step_number j i in
    let e = encryption kek (register s 0 ++ register s i) in
    let half : length (take 8 e) ≡ 8 = length-take-le 8 e (omega arith) in
    let first = register_first s i (bytes_xor (take 8 e) t) (drop 8 e) there lt in
    let other = register_other s i (bytes_xor (take 8 e) t) (drop 8 e) lt in
    let back = xored-xored (take 8 e) t half in
    let again : decryption kek (take 8 e ++ drop 8 e) ≡ register s 0 ++ register s i = ap (λ (b : List ℕ). decryption kek b) (take-append-drop 8 e) ∙ undone in
    let high : take 8 (register s 0 ++ register s i) ≡ register s 0 = take_at (register s 0) (register s i) 8 long in
    let low : drop 8 (register s 0 ++ register s i) ≡ register s i = drop_at (register s 0) (register s i) 8 long in
    rw (first, other, back, again) (set_back s i (bytes_xor (take 8 e) t) (drop 8 e) _ _ there high low)
