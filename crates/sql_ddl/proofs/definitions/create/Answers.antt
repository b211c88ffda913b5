use Rattle.std.proofs.Common.{sym}
use Rattle.sql_tree.specs.Statements.{statement_of}
use Rattle.sql_grammar.specs.Parse as parse
use Rattle.sql_expressions.proofs.Interface.{same_gives}
use Rattle.sql_ddl.proofs.Chosen.{creates_table, creates_master, creates_key}
use Rattle.sql_ddl.proofs.definitions.create.Goals as goal

pub returns-then-next_is : goal.returns-then-next_is
returns-then-next_is c =
    same_gives statement_of c.create_table.result c.create_table.new.tokens (parse.create c.args.tokens.now) (parse.create_table c.word.new.self)
    (creates_table c.args.tokens.now c.word.new.self c.in_ok-word.field-0 c.in_ok-word.ensures (sym c.if-next_is.ensures)) c.create_table.ensures

pub returns-then-next_reads : goal.returns-then-next_reads
returns-then-next_reads c =
    same_gives statement_of c.create_master.result c.create_master.new.tokens (parse.create c.args.tokens.now) (parse.create_master c.word-2.new.self)
    (creates_master c.args.tokens.now c.word.new.self c.word-2.new.self c.in_ok-word.field-0 c.in_ok-word-2.field-0 c.in_ok-word.ensures (sym c.if-next_is.ensures) c.in_ok-word-2.ensures
    (sym c.if-next_reads.ensures)) c.create_master.ensures

pub returns : goal.returns
returns c =
    same_gives statement_of c.create_key.result c.create_key.new.tokens (parse.create c.args.tokens.now) (parse.create_key c.word-2.new.self)
    (creates_key c.args.tokens.now c.word.new.self c.word-2.new.self c.in_ok-word.field-0 c.in_ok-word-2.field-0 c.in_ok-word.ensures (sym c.if-next_is.ensures) c.in_ok-word-2.ensures
    (sym c.if-next_reads.ensures)) c.create_key.ensures
