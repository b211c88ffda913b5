-- What a text parses to: the statement that its tokens spell, or its first fault.
use Rattle.std.specs.Prelude.{
  ℕ,
  ◌+◌,
  ◌-◌,
  List,
  [],
  ◌∷◌,
  length,
  count_by,
  is_some,
  Option,
  Some,
  None,
  Result,
  Ok,
  Err,
  Bool,
  false,
  ◌||◌,
  not,
  nat_lt,
  nat_le,
  ◌&&◌,
  suc,
  if◌then◌else◌,
  encode_utf8_all,
}
use Rattle.std.specs.List.{list_all, list_any}
use Rattle.ae_base.specs.OneOrTwo.{each_of}
use Rattle.ae_base.specs.Options.{◌>>=◌}
use Rattle.ae_base.specs.Values.{is_within}
use Rattle.ae_base.specs.declared.values.Datum.TheVariants as datum
use Rattle.ae_base.specs.declared.types.Ty.TheVariants as ty
use Rattle.ae_base.specs.declared.faults.SqlFault.{SqlFault}
use Rattle.ae_base.specs.declared.faults.SqlFault.TheVariants as fault
use Rattle.sql_tree.specs.declared.lexemes.Symbol.TheVariants as symbol
use Rattle.sql_tree.specs.declared.lexemes.Lexeme.{Lexeme}
use Rattle.sql_tree.specs.declared.lexemes.Lexeme.TheVariants as lexeme
use Rattle.sql_tree.specs.declared.lexemes.Token.{Token}
use Rattle.sql_tree.specs.Tokens.{tokens_of, first_wide}
use Rattle.sql_tree.specs.declared.statements.ColumnSpec.{ColumnSpec}
use Rattle.sql_tree.specs.declared.statements.Definition.{Definition}
use Rattle.sql_tree.specs.declared.statements.Definition.TheVariants as definition
use Rattle.sql_tree.specs.declared.statements.UniqueSpec.{UniqueSpec}
use Rattle.sql_tree.specs.declared.statements.WrittenValue.{WrittenValue}
use Rattle.sql_tree.specs.Statements.{Items, Statement}
use Rattle.sql_tree.specs.Statements as tree
use Rattle.sql_grammar.specs.Readers.{is_symbol}
use Rattle.sql_grammar.specs.Parse.{statement}
use Rattle.ae_base.specs.Limits.{most_statement_bytes}

-- all the tokens are read
abbrev pub whole : Statement × List Token → Option Statement
whole (read, []) = Some read
whole (read, t ∷ ts) = None

-- the statement that the tokens spell
unfoldable pub tree_of : List Token → Option Statement
tree_of tokens = statement tokens >>= whole

-- more than 64 parentheses are open at once; one that closes nothing counts for nothing
abbrev pub opens_too_deep : ℕ → List Token → Bool
opens_too_deep depth [] = false
opens_too_deep depth (t ∷ ts) =
    if is_symbol symbol.Open t.lexeme then nat_lt 63 depth || opens_too_deep (depth + 1) ts
    else if is_symbol symbol.Close t.lexeme then opens_too_deep (depth - 1) ts
    else opens_too_deep depth ts

-- a text has at most 4,000 UTF-16 units, a binary 8,000 bytes
abbrev pub is_long : Lexeme → Bool
is_long (lexeme.Text characters) = not (is_within (datum.Text characters) (ty.NVarChar 4000))
is_long (lexeme.Binary bytes) = not (is_within (datum.Bin bytes) (ty.VarBinary 8000))
is_long other = false

abbrev pub has_long : List Token → Bool
has_long tokens = list_any (λ t. is_long t.lexeme) tokens

abbrev pub items_of : Items → ℕ
items_of (tree.Star at) = 1
items_of (tree.Listed items) = length items

-- the path of a master key and a wrapped column key have 1 to 1,024 bytes
abbrev pub is_key_length : ℕ → Bool
is_key_length bytes = nat_lt 0 bytes && nat_le bytes 1024

abbrev pub has_key_length : WrittenValue → Bool
has_key_length value = is_key_length (length value.wrapped)

-- a column with the word UNIQUE is a unique key, as a list UNIQUE is
abbrev pub unique_keys : List ColumnSpec → List UniqueSpec → ℕ
unique_keys columns uniques = count_by (λ column. is_some column.unique) columns + length uniques

-- 64 columns of a table, 8 unique keys, 16 columns of a key
abbrev pub defines_too_much : Definition → Bool
defines_too_much (definition.CreateMaster word path) = not (is_key_length (length (encode_utf8_all path)))
defines_too_much (definition.CreateKey word values) = not (list_all has_key_length (each_of values))
defines_too_much (definition.AddValue key value) = not (has_key_length value)
defines_too_much (definition.CreateTable table columns uniques) =
    nat_lt 64 (length columns) || nat_lt 8 (unique_keys columns uniques) || list_any (λ unique. nat_lt 16 (length unique.columns)) uniques
defines_too_much other = false

-- 1,000 rows, 512 items and 8 tables
abbrev pub passes_a_limit : Statement → Bool
passes_a_limit (tree.Definition d) = defines_too_much d
passes_a_limit (tree.Insert table columns rows) = nat_lt 1000 (length rows)
passes_a_limit (tree.Select query) = nat_lt 512 (items_of query.items) || nat_lt 8 (suc (length query.joins))
passes_a_limit other = false

abbrev pub parsed_tree : List Token → Option Statement → Result Statement SqlFault
parsed_tree tokens None = Err fault.Syntax
parsed_tree tokens (Some statement) = if has_long tokens || passes_a_limit statement then Err fault.TooLong else Ok statement

abbrev pub parsed_narrow : List Token → Option ℕ → Result Statement SqlFault
parsed_narrow tokens (Some at) = Err (fault.NumberTooWide at)
parsed_narrow tokens None = if opens_too_deep 0 tokens then Err fault.TooDeep else parsed_tree tokens (tree_of tokens)

abbrev pub parsed_tokens : Option (List Token) → Result Statement SqlFault
parsed_tokens None = Err fault.Syntax
parsed_tokens (Some tokens) = parsed_narrow tokens (first_wide 9223372036854775807 tokens)

-- the statement of a text in UTF-8, or the first of: a text over 65,536 bytes; no token list; a number too wide;
-- too many open parentheses; no tree; a limit passed
unfoldable pub statement_in : List ℕ → Result Statement SqlFault
statement_in text = if nat_lt most_statement_bytes (length text) then Err fault.TooLong else parsed_tokens (tokens_of text)
