-- Readers that pass tokens.
use Rattle.std.specs.Prelude.{◌≡◌, ◌<◌, List, length, Some}
use Rattle.sql_tree.specs.declared.lexemes.Token.{Token}
use Rattle.sql_grammar.specs.Readers.{Reading}

-- fewer tokens are left than there were
pub record Shortens {A : Type 0} (read : Reading A) : Type 0 where
  pub shorter : (tokens : List Token) (x : A) (rest : List Token) → read tokens ≡ Some (x, rest) → length rest < length tokens
