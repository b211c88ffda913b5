-- steps and rounds over well-formed registers, under a cipher whose two ways undo each other
use Rattle.std.proofs.Common.{◌≡◌, ℕ, zero, suc, ◌+◌, ◌*◌, ◌<◌, ◌≤◌, List, [], ◌++◌, length, set, take, drop, arith, ◌∙◌, sym, ap, refl}
use Rattle.std.proofs.lemmas.List.{length-append, length-drop, length-take-le, length-set}
use Rattle.std.proofs.lemmas.List.Elements.{All-cons, All-take, All-drop, All-append, All-set, All-get_or}
use Rattle.std.specs.List.{All}
use Rattle.std.specs.Int.{byte_at, bytes_high_first}
use Rattle.aes_block.specs.Aes.{encryption, decryption, IsBlock}
use Rattle.aes_block.specs.Bytes.{AreBytes, bytes_xor}
use Rattle.aes_block.proofs.Interface.{length-xored, AreBytes-xored, xored-xored}
use Rattle.key_wrap.specs.Wrap.{step_number, register, wrap_step, wrap_steps, wrap_rounds, unwrap_step, unwrap_steps, unwrap_rounds}
use Rattle.key_wrap.proofs.Steps.{wrap_step-undoes, unwrap_step-wrap_step}

-- 64 bits
abbrev pub IsHalf : List ℕ → Type 0
IsHalf half = (length half ≡ 8) × AreBytes half

-- the five registers
pub record AreRegisters (s : List (List ℕ)) : Type 0 where
  pub five : length s ≡ 5
  pub halves : All IsHalf s

-- what is known of the block cipher under a key
pub record IsCipher (kek : List ℕ) : Type 0 where
  pub decrypts : (block : List ℕ) → IsBlock block → decryption kek (encryption kek block) ≡ block
  pub encrypts : (block : List ℕ) → IsBlock block → encryption kek (decryption kek block) ≡ block
  pub ciphertext : (block : List ℕ) → IsBlock block → IsBlock (encryption kek block)
  pub plaintext : (block : List ℕ) → IsBlock block → IsBlock (decryption kek block)

byte_at-lt : (k n : ℕ) → byte_at k n < 256
byte_at-lt zero n = omega arith
byte_at-lt (suc k) n = omega arith

AreBytes-high_first : (k n : ℕ) → AreBytes (bytes_high_first k n)
AreBytes-high_first zero n = λ i d lt. absurd (omega arith)
AreBytes-high_first (suc k) n = All-cons (λ (byte : ℕ). byte < 256) (byte_at k n) (bytes_high_first k n) (byte_at-lt k n) (AreBytes-high_first k n)

IsHalf-step_number : (j i : ℕ) → IsHalf (step_number j i)
IsHalf-step_number j i = (refl, AreBytes-high_first 8 (4 * j + i))

IsHalf-xored : (xs ys : List ℕ) → IsHalf xs → IsHalf ys → IsHalf (bytes_xor xs ys)
IsHalf-xored xs ys x y =
    let same = x.0 ∙ sym y.0 in
    (length-xored xs ys same ∙ x.0, AreBytes-xored xs ys same x.1 y.1)

IsBlock-halves : (high low : List ℕ) → IsHalf high → IsHalf low → IsBlock (high ++ low)
IsBlock-halves high low h l =
    (omega (arith, length-append high low, h.0, l.0), All-append (λ (byte : ℕ). byte < 256) high low h.1 l.1)

IsHalf-take : (block : List ℕ) → IsBlock block → IsHalf (take 8 block)
IsHalf-take block b = (length-take-le 8 block (omega (arith, b.0)), All-take (λ (byte : ℕ). byte < 256) 8 block b.1)

IsHalf-drop : (block : List ℕ) → IsBlock block → IsHalf (drop 8 block)
IsHalf-drop block b = (omega (arith, length-drop 8 block, b.0), All-drop (λ (byte : ℕ). byte < 256) 8 block b.1)

pub half_at : (s : List (List ℕ)) (i : ℕ) → AreRegisters s → i < 5 → IsHalf (register s i)
half_at s i r lt =
    let five = r.five in
    All-get_or IsHalf s i [] (omega arith) r.halves

AreRegisters-set : (s : List (List ℕ)) (i : ℕ) (high low : List ℕ) → AreRegisters s → IsHalf high → IsHalf low → AreRegisters (set (set s 0 high) i low)
AreRegisters-set s i high low r h l = record {
  five = length-set (set s 0 high) i low ∙ length-set s 0 high ∙ r.five;
  halves = All-set IsHalf (set s 0 high) i low l (All-set IsHalf s 0 high h r.halves);
}

wrap_step-AreRegisters : (kek : List ℕ) (j i : ℕ) (s : List (List ℕ)) → IsCipher kek → AreRegisters s → i < 5 → AreRegisters (wrap_step kek j i s)
unfolding wrap_step
wrap_step-AreRegisters kek j i s cipher r lt =
    let b = cipher.ciphertext (register s 0 ++ register s i) (IsBlock-halves (register s 0) (register s i) (half_at s 0 r (omega arith)) (half_at s i r lt)) in
    let e = encryption kek (register s 0 ++ register s i) in
    AreRegisters-set s i (bytes_xor (take 8 e) (step_number j i)) (drop 8 e) r (IsHalf-xored (take 8 e) (step_number j i) (IsHalf-take e b) (IsHalf-step_number j i)) (IsHalf-drop e b)

unwrap_step-AreRegisters : (kek : List ℕ) (j i : ℕ) (s : List (List ℕ)) → IsCipher kek → AreRegisters s → i < 5 → AreRegisters (unwrap_step kek j i s)
unfolding unwrap_step
unwrap_step-AreRegisters kek j i s cipher r lt =
    let check = bytes_xor (register s 0) (step_number j i) in
    let c = IsHalf-xored (register s 0) (step_number j i) (half_at s 0 r (omega arith)) (IsHalf-step_number j i) in
    let b = cipher.plaintext (check ++ register s i) (IsBlock-halves check (register s i) c (half_at s i r lt)) in
    let d = decryption kek (check ++ register s i) in
    AreRegisters-set s i (take 8 d) (drop 8 d) r (IsHalf-take d b) (IsHalf-drop d b)

step_unwrapped : (kek : List ℕ) (j i : ℕ) (s : List (List ℕ)) → IsCipher kek → AreRegisters s → 1 ≤ i → i < 5 → unwrap_step kek j i (wrap_step kek j i s) ≡ s
step_unwrapped kek j i s cipher r there lt =
    let first = half_at s 0 r (omega arith) in
    let block = IsBlock-halves (register s 0) (register s i) first (half_at s i r lt) in
    let five = r.five in
    unwrap_step-wrap_step kek j i s there (omega arith) first.0 (cipher.decrypts (register s 0 ++ register s i) block) (cipher.ciphertext (register s 0 ++ register s i) block).0

step_wrapped : (kek : List ℕ) (j i : ℕ) (s : List (List ℕ)) → IsCipher kek → AreRegisters s → 1 ≤ i → i < 5 → wrap_step kek j i (unwrap_step kek j i s) ≡ s
unfolding unwrap_step
step_wrapped kek j i s cipher r there lt =
    let t = step_number j i in
    let first = half_at s 0 r (omega arith) in
    let check = bytes_xor (register s 0) t in
    let c = IsHalf-xored (register s 0) t first (IsHalf-step_number j i) in
    let block = IsBlock-halves check (register s i) c (half_at s i r lt) in
    let five = r.five in
    wrap_step-undoes kek j i s t check (check ++ register s i) (decryption kek (check ++ register s i)) _ _ there (omega arith) refl
    (xored-xored (register s 0) t first.0) c.0 refl (cipher.encrypts (check ++ register s i) block) refl refl

wrap_steps-AreRegisters : (kek : List ℕ) (j n : ℕ) (s : List (List ℕ)) → IsCipher kek → AreRegisters s → n < 5 → AreRegisters (wrap_steps kek j n s)
wrap_steps-AreRegisters kek j zero s cipher r lt = r
wrap_steps-AreRegisters kek j (suc n) s cipher r lt =
    wrap_step-AreRegisters kek j (suc n) (wrap_steps kek j n s) cipher (wrap_steps-AreRegisters kek j n s cipher r (omega arith)) lt

unwrap_steps-AreRegisters : (kek : List ℕ) (j n : ℕ) (s : List (List ℕ)) → IsCipher kek → AreRegisters s → n < 5 → AreRegisters (unwrap_steps kek j n s)
unwrap_steps-AreRegisters kek j zero s cipher r lt = r
unwrap_steps-AreRegisters kek j (suc n) s cipher r lt =
    unwrap_steps-AreRegisters kek j n (unwrap_step kek j (suc n) s) cipher (unwrap_step-AreRegisters kek j (suc n) s cipher r lt) (omega arith)

steps_unwrapped : (kek : List ℕ) (j n : ℕ) (s : List (List ℕ)) → IsCipher kek → AreRegisters s → n < 5 → unwrap_steps kek j n (wrap_steps kek j n s) ≡ s
steps_unwrapped kek j zero s cipher r lt = refl
steps_unwrapped kek j (suc n) s cipher r lt =
    ap (λ (x : List (List ℕ)). unwrap_steps kek j n x)
    (step_unwrapped kek j (suc n) (wrap_steps kek j n s) cipher (wrap_steps-AreRegisters kek j n s cipher r (omega arith)) (omega arith) lt)
    ∙ steps_unwrapped kek j n s cipher r (omega arith)

steps_wrapped : (kek : List ℕ) (j n : ℕ) (s : List (List ℕ)) → IsCipher kek → AreRegisters s → n < 5 → wrap_steps kek j n (unwrap_steps kek j n s) ≡ s
steps_wrapped kek j zero s cipher r lt = refl
steps_wrapped kek j (suc n) s cipher r lt =
    ap (λ (x : List (List ℕ)). wrap_step kek j (suc n) x)
    (steps_wrapped kek j n (unwrap_step kek j (suc n) s) cipher (unwrap_step-AreRegisters kek j (suc n) s cipher r lt) (omega arith))
    ∙ step_wrapped kek j (suc n) s cipher r (omega arith) lt

pub wrap_rounds-AreRegisters : (kek : List ℕ) (n : ℕ) (s : List (List ℕ)) → IsCipher kek → AreRegisters s → AreRegisters (wrap_rounds kek n s)
wrap_rounds-AreRegisters kek zero s cipher r = r
wrap_rounds-AreRegisters kek (suc j) s cipher r =
    wrap_steps-AreRegisters kek j 4 (wrap_rounds kek j s) cipher (wrap_rounds-AreRegisters kek j s cipher r) (omega arith)

pub unwrap_rounds-AreRegisters : (kek : List ℕ) (n : ℕ) (s : List (List ℕ)) → IsCipher kek → AreRegisters s → AreRegisters (unwrap_rounds kek n s)
unwrap_rounds-AreRegisters kek zero s cipher r = r
unwrap_rounds-AreRegisters kek (suc j) s cipher r =
    unwrap_rounds-AreRegisters kek j (unwrap_steps kek j 4 s) cipher (unwrap_steps-AreRegisters kek j 4 s cipher r (omega arith))

pub rounds_unwrapped : (kek : List ℕ) (n : ℕ) (s : List (List ℕ)) → IsCipher kek → AreRegisters s → unwrap_rounds kek n (wrap_rounds kek n s) ≡ s
rounds_unwrapped kek zero s cipher r = refl
rounds_unwrapped kek (suc j) s cipher r =
    ap (λ (x : List (List ℕ)). unwrap_rounds kek j x) (steps_unwrapped kek j 4 (wrap_rounds kek j s) cipher (wrap_rounds-AreRegisters kek j s cipher r) (omega arith))
    ∙ rounds_unwrapped kek j s cipher r

pub rounds_wrapped : (kek : List ℕ) (n : ℕ) (s : List (List ℕ)) → IsCipher kek → AreRegisters s → wrap_rounds kek n (unwrap_rounds kek n s) ≡ s
rounds_wrapped kek zero s cipher r = refl
rounds_wrapped kek (suc j) s cipher r =
    ap (λ (x : List (List ℕ)). wrap_steps kek j 4 x)
    (rounds_wrapped kek j (unwrap_steps kek j 4 s) cipher (unwrap_steps-AreRegisters kek j 4 s cipher r (omega arith)))
    ∙ steps_wrapped kek j 4 s cipher r (omega arith)
