-- Rows and columns that are numbers below 4.
use Rattle.std.proofs.Common.{ℕ, zero, suc, ◌<◌, arith}

-- what holds at each of four rows and four columns
pub at_cells : (P : ℕ → ℕ → Type 0)
    → P 0 0 → P 0 1 → P 0 2 → P 0 3 → P 1 0 → P 1 1 → P 1 2 → P 1 3
    → P 2 0 → P 2 1 → P 2 2 → P 2 3 → P 3 0 → P 3 1 → P 3 2 → P 3 3
    → (r c : ℕ) → r < 4 → c < 4 → P r c
at_cells P a b c d e f g h i j k l m n o p zero zero _ _ = a
at_cells P a b c d e f g h i j k l m n o p zero (suc zero) _ _ = b
at_cells P a b c d e f g h i j k l m n o p zero (suc (suc zero)) _ _ = c
at_cells P a b c d e f g h i j k l m n o p zero (suc (suc (suc zero))) _ _ = d
at_cells P a b c d e f g h i j k l m n o p (suc zero) zero _ _ = e
at_cells P a b c d e f g h i j k l m n o p (suc zero) (suc zero) _ _ = f
at_cells P a b c d e f g h i j k l m n o p (suc zero) (suc (suc zero)) _ _ = g
at_cells P a b c d e f g h i j k l m n o p (suc zero) (suc (suc (suc zero))) _ _ = h
at_cells P a b c d e f g h i j k l m n o p (suc (suc zero)) zero _ _ = i
at_cells P a b c d e f g h i j k l m n o p (suc (suc zero)) (suc zero) _ _ = j
at_cells P a b c d e f g h i j k l m n o p (suc (suc zero)) (suc (suc zero)) _ _ = k
at_cells P a b c d e f g h i j k l m n o p (suc (suc zero)) (suc (suc (suc zero))) _ _ = l
at_cells P a b c d e f g h i j k l m n o p (suc (suc (suc zero))) zero _ _ = m
at_cells P a b c d e f g h i j k l m n o p (suc (suc (suc zero))) (suc zero) _ _ = n
at_cells P a b c d e f g h i j k l m n o p (suc (suc (suc zero))) (suc (suc zero)) _ _ = o
at_cells P a b c d e f g h i j k l m n o p (suc (suc (suc zero))) (suc (suc (suc zero))) _ _ = p
at_cells P a b c d e f g h i j k l m n o p zero (suc (suc (suc (suc y)))) _ low = absurd (omega arith)
at_cells P a b c d e f g h i j k l m n o p (suc zero) (suc (suc (suc (suc y)))) _ low = absurd (omega arith)
at_cells P a b c d e f g h i j k l m n o p (suc (suc zero)) (suc (suc (suc (suc y)))) _ low = absurd (omega arith)
at_cells P a b c d e f g h i j k l m n o p (suc (suc (suc zero))) (suc (suc (suc (suc y)))) _ low = absurd (omega arith)
at_cells P a b c d e f g h i j k l m n o p (suc (suc (suc (suc x)))) y low _ = absurd (omega arith)

-- what holds at each number below 8
pub at_eight : (P : ℕ → Type 0) → P 0 → P 1 → P 2 → P 3 → P 4 → P 5 → P 6 → P 7 → (k : ℕ) → k < 8 → P k
at_eight P a b c d e f g h zero _ = a
at_eight P a b c d e f g h (suc zero) _ = b
at_eight P a b c d e f g h (suc (suc zero)) _ = c
at_eight P a b c d e f g h (suc (suc (suc zero))) _ = d
at_eight P a b c d e f g h (suc (suc (suc (suc zero)))) _ = e
at_eight P a b c d e f g h (suc (suc (suc (suc (suc zero))))) _ = f
at_eight P a b c d e f g h (suc (suc (suc (suc (suc (suc zero)))))) _ = g
at_eight P a b c d e f g h (suc (suc (suc (suc (suc (suc (suc zero))))))) _ = h
at_eight P a b c d e f g h (suc (suc (suc (suc (suc (suc (suc (suc k)))))))) low = absurd (omega arith)

-- and below 4
pub at_four : (P : ℕ → Type 0) → P 0 → P 1 → P 2 → P 3 → (k : ℕ) → k < 4 → P k
at_four P a b c d zero _ = a
at_four P a b c d (suc zero) _ = b
at_four P a b c d (suc (suc zero)) _ = c
at_four P a b c d (suc (suc (suc zero))) _ = d
at_four P a b c d (suc (suc (suc (suc k)))) low = absurd (omega arith)
