-- Rows of an answer that share a frame.
use Rattle.std.specs.Prelude.{◌≡◌, ◌+◌, ◌≤◌, ℕ, List, [], ◌∷◌, length, map, flat_map, take, drop, Option, Some, None, nat_lt, nat_le, ◌==◌, ◌&&◌, if◌then◌else◌}
use Rattle.ae_base.specs.Limits.{most_frame_bytes, most_frame_rows}
use Rattle.wire_messages.specs.Conditions.{IsReply}
use Rattle.wire_messages.specs.declared.replies.Reply.{Reply}
use Rattle.wire_messages.specs.declared.replies.Reply.TheVariants.{Described, Columns, Row, Ended, Refused}
use Rattle.wire_payloads.specs.Payloads.{Atoms, IsBatch, width}
use Rattle.wire_payloads.specs.declared.payloads.Payload.TheVariants.{Rows}
use Rattle.wire_encoding.specs.Spelling.{atom}
use Rattle.wire_encoding.specs.Packing.{gathered, most_body_bytes, rows_body}

-- the row that a reply is, if it is one
abbrev pub row_of : Reply → List Atoms
row_of (Described d) = []
row_of (Columns h) = []
row_of (Row row) = row ∷ []
row_of (Ended done) = []
row_of (Refused fault) = []

abbrev pub rows_of : List Reply → List Atoms
rows_of replies = flat_map row_of replies

abbrev pub IsRow : Atoms → Type 0
IsRow row = IsReply (Row row)

-- The body's size with a reply's row too, where a frame takes it that has so many rows, of so many atoms each, in a body of so many bytes.
abbrev pub size_with : ℕ → ℕ → ℕ → Reply → Option ℕ
size_with rows columns size (Described d) = None
size_with rows columns size (Columns h) = None
size_with rows columns size (Row row) =
    let larger = size + length (flat_map atom row) in
    if nat_lt rows most_frame_rows && (length row == columns) && nat_le larger most_frame_bytes then Some larger else None
size_with rows columns size (Ended done) = None
size_with rows columns size (Refused fault) = None

-- these replies are rows that share a frame, each of so many atoms
pub record Share (replies : List Reply) (columns : ℕ) : Type 0 where
  pub rows : map Row (rows_of replies) ≡ replies
  pub batch : IsBatch (rows_of replies)
  pub wide : width (rows_of replies) ≡ columns
  pub short : length (rows_body (rows_of replies)) ≤ most_body_bytes

-- the frame of a first row takes so many of the replies that follow it, and no more
pub record Follow (first : Atoms) (replies : List Reply) (count : ℕ) : Type 0 where
  pub share : Share (Row first ∷ take count replies) (length first)
  pub frame : gathered (first ∷ []) replies ≡ Rows (first ∷ rows_of (take count replies)) ∷ gathered [] (drop count replies)
  pub within : count ≤ length replies
