-- States and key words in columns of 32 bits, of which row 0 is the lowest byte.
use Rattle.std.specs.Prelude.{ℕ, List, [], ◌∷◌, map, slice_index}
use Rattle.std.specs.Int.{w32, to_le_bytes}
use Rattle.aes_block.specs.Aes.{from_columns}

-- the column's bytes as a word
unfoldable pub word_of : ℕ → List ℕ
word_of column = to_le_bytes w32 column

-- each column as a word
abbrev pub words_of : List ℕ → List (List ℕ)
words_of columns = map word_of columns

-- the state of four columns
unfoldable pub state_of : List ℕ → List ℕ
state_of columns = from_columns (λ c. word_of (slice_index columns c))

-- row 0 of a, row 1 of b, row 2 of c and row 3 of d
abbrev pub diagonal : ℕ → ℕ → ℕ → ℕ → List ℕ
diagonal a b c d = slice_index (word_of a) 0 ∷ slice_index (word_of b) 1 ∷ slice_index (word_of c) 2 ∷ slice_index (word_of d) 3 ∷ []
