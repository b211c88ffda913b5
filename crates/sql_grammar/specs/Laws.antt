-- The readers are the grammar's, and the grammar gives a list of tokens one statement.
use Rattle.std.specs.Prelude.{◌≡◌, List, Some}
use Rattle.sql_tree.specs.declared.lexemes.Token.{Token}
use Rattle.sql_tree.specs.Statements.{Statement}
use Rattle.sql_grammar.specs.Grammar.{Spells}
use Rattle.sql_grammar.specs.Texts.{tree_of}

-- what is read of a list of tokens is the statement of the grammar
abbrev pub TreeIsTheGrammars : Type 0
TreeIsTheGrammars = (tokens : List Token) (statement : Statement)
    → (tree_of tokens ≡ Some statement → Spells statement tokens) × (Spells statement tokens → tree_of tokens ≡ Some statement)

-- a list of tokens spells one statement at most
abbrev pub TreesAreOne : Type 0
TreesAreOne = (tokens : List Token) (one other : Statement) → Spells one tokens → Spells other tokens → one ≡ other
