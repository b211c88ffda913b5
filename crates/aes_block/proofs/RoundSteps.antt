-- One round more of the cipher and of the equivalent inverse cipher.
use Rattle.std.proofs.Common.{◌≡◌, ℕ, suc, ◌+◌, ◌-◌, List, refl, add-one, arith}
use Rattle.aes_block.specs.Aes.{add_round_key, mix_columns, rounds, shift_rows, sub_bytes}
use Rattle.aes_block.specs.Equivalent.{equivalent_round, equivalent_rounds}

pub rounds-first : (words : List (List ℕ)) (block : List ℕ) → rounds words block 0 ≡ add_round_key words 0 block
unfolding rounds
rounds-first words block = refl

pub rounds-more : (words : List (List ℕ)) (block state : List ℕ) (n k : ℕ) → n + 1 ≡ k → state ≡ rounds words block n
    → add_round_key words k (mix_columns (shift_rows (sub_bytes state))) ≡ rounds words block k
unfolding rounds
rounds-more words block state n k up is =
    let above : k ≡ suc n = omega (arith, up) in
    rw (is, above, add-one) refl

pub equivalent_rounds-first : (words : List (List ℕ)) (block : List ℕ) → equivalent_rounds words block 0 ≡ add_round_key words 14 block
unfolding equivalent_rounds
equivalent_rounds-first words block = refl

pub equivalent_rounds-more : (words : List (List ℕ)) (block state : List ℕ) (n k round : ℕ) → n + 1 ≡ k → 13 - n ≡ round
    → state ≡ equivalent_rounds words block n
    → equivalent_round words round state ≡ equivalent_rounds words block k
unfolding equivalent_rounds
equivalent_rounds-more words block state n k round up down is =
    let above : k ≡ suc n = omega (arith, up) in
    rw (is, above, ← down) refl
