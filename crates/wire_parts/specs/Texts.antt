-- Texts of messages.
use Rattle.std.specs.Prelude.{ℕ, ◌≤◌, List, length, encode_utf8_all}
use Rattle.ae_base.specs.Limits.{most_statement_bytes}

-- a statement's text has at most 65,536 bytes
abbrev pub IsStatementText : List ℕ → Type 0
IsStatementText characters = length (encode_utf8_all characters) ≤ most_statement_bytes
