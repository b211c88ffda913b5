-- The limits of what is read and kept.
use Rattle.std.specs.Prelude.{ℕ}

-- the most bytes of a script, and of the input of wrap
abbrev pub most_script_bytes : ℕ
most_script_bytes = 16777216

-- the most bytes of a stream of requests, and of one of replies
abbrev pub most_stream_bytes : ℕ
most_stream_bytes = 1073741824

-- the most bytes of a statement
abbrev pub most_statement_bytes : ℕ
most_statement_bytes = 65536

-- the most encryption rules of a statement
abbrev pub most_rules : ℕ
most_rules = 8192

-- the most rows of a table
abbrev pub most_table_rows : ℕ
most_table_rows = 1000000

-- the most rows of an answer
abbrev pub most_answer_rows : ℕ
most_answer_rows = 1000000

-- the most rows of a frame
abbrev pub most_frame_rows : ℕ
most_frame_rows = 4096

-- the most bytes of the body of a frame of several rows
abbrev pub most_frame_bytes : ℕ
most_frame_bytes = 1048576
