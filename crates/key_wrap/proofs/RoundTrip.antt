-- unwrapping what was wrapped, and the other way round
use Rattle.std.proofs.Common.{◌≡◌, ℕ, zero, suc, ◌*◌, ◌<◌, ◌≤◌, true, ◌&&◌, ◌==◌, Some, List, [], ◌∷◌, length, take, drop, arith, ◌∙◌, sym, ap, subst, refl}
use Rattle.std.proofs.lemmas.Bool.Decides.{nat_tests}
use Rattle.std.proofs.lemmas.List.{length-append, length-drop, length-take-le}
use Rattle.std.proofs.lemmas.List.Elements.{All-cons, All-take, All-drop, All-append, All-replicate, recursion_from_All}
use Rattle.std.proofs.lemmas.Slice.Eq.{bytes_eq-Decides}
use Rattle.std.specs.List.{All, AllByRecursion, concat}
use Rattle.std.specs.Simd.{first_chunks}
use Rattle.std.specs.Str.{bytes_eq}
use Rattle.std.proofs.lemmas.Option.{cond_some}
use Rattle.std.proofs.lemmas.Bool.{and_parts}
use Rattle.aes_block.specs.Aes.{IsKey}
use Rattle.aes_block.specs.Bytes.{AreBytes}
use Rattle.key_wrap.specs.Wrap.{initial_value, register, wrap_rounds, wrapping_of, unwrap_rounds, unwrapped_registers, unwrapping_of}
use Rattle.key_wrap.proofs.Rounds.{concat-first_chunks, first_chunks-concat, unwrapped-some, wrapped-again}
use Rattle.key_wrap.proofs.Registers.{IsHalf, AreRegisters, IsCipher, wrap_rounds-AreRegisters, unwrap_rounds-AreRegisters, rounds_unwrapped, rounds_wrapped}

all_halves : (k : ℕ) (xs : List ℕ) → k * 8 ≤ length xs → AreBytes xs → All IsHalf (first_chunks 8 k xs)
all_halves zero xs le bytes = λ i d lt. absurd (omega arith)
all_halves (suc k) xs le bytes =
    All-cons IsHalf (take 8 xs) (first_chunks 8 k (drop 8 xs)) (length-take-le 8 xs (omega arith), All-take (λ (byte : ℕ). byte < 256) 8 xs bytes)
    (all_halves k (drop 8 xs) (omega (arith, length-drop 8 xs)) (All-drop (λ (byte : ℕ). byte < 256) 8 xs bytes))

key-AreRegisters : (key : List ℕ) → IsKey key → AreRegisters (initial_value ∷ first_chunks 8 4 key)
key-AreRegisters key k = record {
  five = refl;
  halves = All-cons IsHalf initial_value (first_chunks 8 4 key) (refl, All-replicate (λ (byte : ℕ). byte < 256) 8 166 (omega arith)) (all_halves 4 key (omega (arith, k.0)) k.1);
}

bytes-AreRegisters : (bytes : List ℕ) → length bytes ≡ 40 → AreBytes bytes → AreRegisters (first_chunks 8 5 bytes)
bytes-AreRegisters bytes long all = record { five = refl; halves = all_halves 5 bytes (omega arith) all }

long_halves : (s : List (List ℕ)) → AllByRecursion IsHalf s → AllByRecursion (λ half. length half ≡ 8) s
long_halves [] all = tt
long_halves (half ∷ s) all = (all.0.0, long_halves s all.1)

length-concat : (s : List (List ℕ)) → AllByRecursion IsHalf s → length (concat s) ≡ length s * 8
length-concat [] all = refl
length-concat (half ∷ s) all = omega (arith, length-append half (concat s), length-concat s all.1, all.0.0)

AreBytes-concat : (s : List (List ℕ)) → AllByRecursion IsHalf s → AreBytes (concat s)
AreBytes-concat [] all = λ i d lt. absurd (omega arith)
AreBytes-concat (half ∷ s) all = All-append (λ (byte : ℕ). byte < 256) half (concat s) all.0.1 (AreBytes-concat s all.1)

-- what is known of a wrapped key
pub record IsWrapped (kek key : List ℕ) : Type 0 where
  pub unwraps : unwrapping_of kek (wrapping_of kek key) ≡ Some key
  pub len : length (wrapping_of kek key) ≡ 40
  pub are_bytes : AreBytes (wrapping_of kek key)

pub wrapped-IsWrapped : (kek key : List ℕ) → IsCipher kek → IsKey key → IsWrapped kek key
unfolding wrapping_of unwrapped_registers
wrapped-IsWrapped kek key cipher k =
    let start = initial_value ∷ first_chunks 8 4 key in
    let r = key-AreRegisters key k in
    let ends = wrap_rounds-AreRegisters kek 6 start cipher r in
    let registers = wrap_rounds kek 6 start in
    let all = recursion_from_All IsHalf registers ends.halves in
    let five = ends.five in
    let len : length (concat registers) ≡ 40 = length-concat registers all ∙ ap (λ (n : ℕ). n * 8) five in
    let cut : first_chunks 8 5 (concat registers) ≡ registers =
    ap (λ (n : ℕ). first_chunks 8 n (concat registers)) (sym five) ∙ first_chunks-concat 8 registers (long_halves registers all) in
    let back : unwrapped_registers kek (concat registers) ≡ start = ap (λ (s : List (List ℕ)). unwrap_rounds kek 6 s) cut ∙ rounds_unwrapped kek 6 start cipher r in
    let test : bytes_eq (register (unwrapped_registers kek (concat registers)) 0) initial_value ≡ true =
    ap (λ (s : List (List ℕ)). bytes_eq (register s 0) initial_value) back in
    record {
      unwraps = unwrapped-some kek (concat registers) len test ∙ ap (λ (s : List (List ℕ)). Some (concat (drop 1 s))) back
          ∙ ap (λ (bytes : List ℕ). Some bytes) (concat-first_chunks 8 4 key k.0);
      len = len;
      are_bytes = AreBytes-concat registers all;
    }

-- what is known of bytes that unwrap to a key
record IsUnwrapped (kek bytes key : List ℕ) : Type 0 where
  long : length bytes ≡ 40
  first : register (unwrapped_registers kek bytes) 0 ≡ initial_value
  rest : concat (drop 1 (unwrapped_registers kek bytes)) ≡ key

unwrapped-IsUnwrapped : (kek bytes key : List ℕ) → unwrapping_of kek bytes ≡ Some key → IsUnwrapped kek bytes key
unfolding unwrapping_of
unwrapped-IsUnwrapped kek bytes key e =
    let registers = unwrapped_registers kek bytes in
    let parts = cond_some (length bytes == 40 && bytes_eq (register registers 0) initial_value) (concat (drop 1 registers)) key e in
    let tests = and_parts (length bytes == 40) (bytes_eq (register registers 0) initial_value) parts.0 in
    let long : length bytes == 40 ≡ true = tests.0 in
    record { long = grind (arith, nat_tests); first = (bytes_eq-Decides (register registers 0) initial_value).0 tests.1; rest = parts.1 }

-- what is known of that key
pub record IsWrappedAgain (kek bytes key : List ℕ) : Type 0 where
  pub wraps : wrapping_of kek key ≡ bytes
  pub is_key : IsKey key

pub unwrapped-IsWrappedAgain : (kek bytes key : List ℕ) → IsCipher kek → AreBytes bytes → unwrapping_of kek bytes ≡ Some key → IsWrappedAgain kek bytes key
unfolding unwrapped_registers
unwrapped-IsWrappedAgain kek bytes key cipher all e =
    let u = unwrapped-IsUnwrapped kek bytes key e in
    let start = first_chunks 8 5 bytes in
    let r = bytes-AreRegisters bytes u.long all in
    let registers = unwrap_rounds kek 6 start in
    let ends = unwrap_rounds-AreRegisters kek 6 start cipher r in
    let five = ends.five in
    let four : length (drop 1 registers) ≡ 4 = omega (arith, length-drop 1 registers) in
    let halves = recursion_from_All IsHalf (drop 1 registers) (All-drop IsHalf 1 registers ends.halves) in
    let cut : first_chunks 8 4 key ≡ drop 1 registers =
    ap (λ (xs : List ℕ). first_chunks 8 4 xs) (sym u.rest) ∙ ap (λ (n : ℕ). first_chunks 8 n (concat (drop 1 registers))) (sym four)
    ∙ first_chunks-concat 8 (drop 1 registers) (long_halves (drop 1 registers) halves) in
    record {
      wraps = wrapped-again kek key bytes registers five u.first cut (rounds_wrapped kek 6 start cipher r) u.long;
      is_key = subst (λ (xs : List ℕ). IsKey xs) u.rest (length-concat (drop 1 registers) halves ∙ ap (λ (n : ℕ). n * 8) four, AreBytes-concat (drop 1 registers) halves);
    }
