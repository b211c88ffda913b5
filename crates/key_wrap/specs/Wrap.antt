-- RFC 3394 section 2.2, by indices: a key of four blocks of 64 bits, wrapped under a key of AES-256
use Rattle.std.specs.Prelude.{ℕ, zero, suc, ◌+◌, ◌*◌, ◌&&◌, ◌==◌, if◌then◌else◌, List, [], ◌∷◌, ◌++◌, length, take, drop, replicate, slice_index_or, slice_set, Option, Some, None}
use Rattle.std.specs.List.{concat}
use Rattle.std.specs.Int.{w64, to_be_bytes}
use Rattle.std.specs.Simd.{first_chunks}
use Rattle.std.specs.Str.{bytes_eq}
use Rattle.aes_block.specs.Aes.{encryption, decryption}
use Rattle.aes_block.specs.Bytes.{bytes_xor}

-- section 2.2.3.1: the initial value of the register A
abbrev pub initial_value : List ℕ
initial_value = replicate 8 0xA6

-- t = 4 j + i, as 64 bits, the highest byte first
abbrev pub step_number : ℕ → ℕ → List ℕ
step_number j i = to_be_bytes w64 (4 * j + i)

-- the register A, or R[i] for i from 1 to 4, of the five that are kept as one list
abbrev pub register : List (List ℕ) → ℕ → List ℕ
register registers i = slice_index_or registers i []

-- section 2.2.1: B = AES(K, A | R[i]), then A = MSB(64, B) ^ t and R[i] = LSB(64, B)
unfoldable pub wrap_step : List ℕ → ℕ → ℕ → List (List ℕ) → List (List ℕ)
wrap_step kek j i registers =
    let b = encryption kek (register registers 0 ++ register registers i) in
    slice_set (slice_set registers 0 (bytes_xor (take 8 b) (step_number j i))) i (drop 8 b)

-- section 2.2.1: the registers after steps 1 to i of round j
abbrev pub wrap_steps : List ℕ → ℕ → ℕ → List (List ℕ) → List (List ℕ)
wrap_steps kek j zero registers = registers
wrap_steps kek j (suc i) registers = wrap_step kek j (suc i) (wrap_steps kek j i registers)

-- section 2.2.1: the registers after so many rounds of four steps, numbered from 0
abbrev pub wrap_rounds : List ℕ → ℕ → List (List ℕ) → List (List ℕ)
wrap_rounds kek zero registers = registers
wrap_rounds kek (suc j) registers = wrap_steps kek j 4 (wrap_rounds kek j registers)

-- section 2.2.1: a key wrapped under a key encryption key, which is the registers after six rounds, A first
unfoldable pub wrapping_of : List ℕ → List ℕ → List ℕ
wrapping_of kek key = concat (wrap_rounds kek 6 (initial_value ∷ first_chunks 8 4 key))

-- section 2.2.2: B = AES-1(K, (A ^ t) | R[i]), then A = MSB(64, B) and R[i] = LSB(64, B)
unfoldable pub unwrap_step : List ℕ → ℕ → ℕ → List (List ℕ) → List (List ℕ)
unwrap_step kek j i registers =
    let b = decryption kek (bytes_xor (register registers 0) (step_number j i) ++ register registers i) in
    slice_set (slice_set registers 0 (take 8 b)) i (drop 8 b)

-- section 2.2.2: the registers after steps i to 1 of round j
abbrev pub unwrap_steps : List ℕ → ℕ → ℕ → List (List ℕ) → List (List ℕ)
unwrap_steps kek j zero registers = registers
unwrap_steps kek j (suc i) registers = unwrap_steps kek j i (unwrap_step kek j (suc i) registers)

-- section 2.2.2: the registers after so many rounds of four steps, down to number 0
abbrev pub unwrap_rounds : List ℕ → ℕ → List (List ℕ) → List (List ℕ)
unwrap_rounds kek zero registers = registers
unwrap_rounds kek (suc j) registers = unwrap_rounds kek j (unwrap_steps kek j 4 registers)

-- section 2.2.2: the registers after all six
unfoldable pub unwrapped_registers : List ℕ → List ℕ → List (List ℕ)
unwrapped_registers kek bytes = unwrap_rounds kek 6 (first_chunks 8 5 bytes)

-- section 2.2.2: the key, where 40 bytes are given and A is the initial value in the end
unfoldable pub unwrapping_of : List ℕ → List ℕ → Option (List ℕ)
unwrapping_of kek bytes =
    let registers = unwrapped_registers kek bytes in
    if length bytes == 40 && bytes_eq (register registers 0) initial_value
    then Some (concat (drop 1 registers))
    else None
