-- The kinds of replies, tested.
use Rattle.std.specs.Prelude.{ℕ, List, [], ◌∷◌, length, Bool, true, false, ◌&&◌, ◌==◌}
use Rattle.wire_messages.specs.declared.replies.Done.{Done}
use Rattle.wire_messages.specs.declared.replies.Done.TheVariants.{Defined, Changed, Answered}
use Rattle.wire_messages.specs.declared.replies.Reply.{Reply}
use Rattle.wire_messages.specs.declared.replies.Reply.TheVariants.{Described, Columns, Row, Ended, Refused}
use Rattle.wire_messages.specs.declared.requests.Request.{Request}
use Rattle.wire_messages.specs.declared.requests.Request.TheVariants.{Describe, Execute}

abbrev pub is_alone : {A : Type 0} → List A → Bool
is_alone [] = true
is_alone (x ∷ xs) = false

abbrev pub describes : List Reply → Bool
describes [] = false
describes (Described description ∷ rest) = is_alone rest
describes (Columns header ∷ rest) = false
describes (Row atoms ∷ rest) = false
describes (Ended what ∷ rest) = false
describes (Refused f ∷ rest) = is_alone rest

-- a row of so many atoms
abbrev pub is_row : ℕ → Reply → Bool
is_row width (Row atoms) = length atoms == width
is_row width other = false

abbrev pub is_answered : Done → Bool
is_answered Defined = false
is_answered (Changed count) = false
is_answered (Answered count) = true

-- the end of rows
abbrev pub is_end : Reply → Bool
is_end (Ended what) = is_answered what
is_end other = false

-- rows of so many atoms, and then their end
abbrev pub are_rows : ℕ → List Reply → Bool
are_rows width [] = false
are_rows width (end ∷ []) = is_end end
are_rows width (row ∷ next ∷ rest) = is_row width row && are_rows width (next ∷ rest)

-- the end of a definition or of a change
abbrev pub is_effect : Done → Bool
is_effect Defined = true
is_effect (Changed count) = true
is_effect (Answered count) = false

abbrev pub executes : List Reply → Bool
executes [] = false
executes (Described description ∷ rest) = false
executes (Columns header ∷ rest) = are_rows (length header.columns) rest
executes (Row atoms ∷ rest) = false
executes (Ended what ∷ rest) = is_effect what && is_alone rest
executes (Refused f ∷ rest) = is_alone rest

abbrev pub suits : Request → List Reply → Bool
suits (Describe session text declarations) replies = describes replies
suits (Execute session version text params) replies = executes replies
