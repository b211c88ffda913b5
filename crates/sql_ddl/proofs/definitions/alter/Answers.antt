use Rattle.std.proofs.Common.{sym}
use Rattle.sql_tree.specs.Statements.{statement_of}
use Rattle.sql_grammar.specs.Parse as parse
use Rattle.sql_expressions.proofs.Interface.{same_gives}
use Rattle.sql_ddl.proofs.Chosen.{alters_table, alters_key}
use Rattle.sql_ddl.proofs.definitions.alter.Goals as goal

pub returns-then-next_is : goal.returns-then-next_is
returns-then-next_is c =
    same_gives statement_of c.replace_table.result c.replace_table.new.tokens (parse.alter c.args.tokens.now) (parse.replace_table c.word.new.self)
    (alters_table c.args.tokens.now c.word.new.self c.in_ok-word.field-0 c.in_ok-word.ensures (sym c.if-next_is.ensures)) c.replace_table.ensures

pub returns : goal.returns
returns c =
    same_gives statement_of c.alter_key.result c.alter_key.new.tokens (parse.alter c.args.tokens.now) (parse.alter_key c.word.new.self)
    (alters_key c.args.tokens.now c.word.new.self c.in_ok-word.field-0 c.in_ok-word.ensures (sym c.if-next_is.ensures)) c.alter_key.ensures
