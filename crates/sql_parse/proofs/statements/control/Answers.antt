use Rattle.std.proofs.Common.{sym}
use Rattle.sql_tree.specs.Statements.{statement_of}
use Rattle.sql_grammar.specs.Parse as parse
use Rattle.sql_expressions.proofs.Interface.{same_gives}
use Rattle.sql_parse.proofs.Chosen.{is_begin, is_commit, is_rollback}
use Rattle.sql_parse.proofs.statements.control.Goals as goal

pub returns-then-next_is : goal.returns-then-next_is
returns-then-next_is c =
    same_gives statement_of c.begin.result c.begin.new.tokens (parse.control c.args.tokens.now) (parse.begin c.args.tokens.now) (is_begin c.args.tokens.now (sym c.if-next_is.ensures)) c.begin.ensures

pub returns-then-next_is-2 : goal.returns-then-next_is-2
returns-then-next_is-2 c =
    same_gives statement_of c.commit.result c.commit.new.tokens (parse.control c.args.tokens.now) (parse.commit c.args.tokens.now)
    (is_commit c.args.tokens.now (sym c.if-next_is.ensures) (sym c.if-next_is-2.ensures)) c.commit.ensures

pub returns : goal.returns
returns c =
    same_gives statement_of c.rollback.result c.rollback.new.tokens (parse.control c.args.tokens.now) (parse.rollback c.args.tokens.now)
    (is_rollback c.args.tokens.now (sym c.if-next_is.ensures) (sym c.if-next_is-2.ensures)) c.rollback.ensures
