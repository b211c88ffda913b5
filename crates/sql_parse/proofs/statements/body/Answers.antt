use Rattle.std.proofs.Common.{sym}
use Rattle.sql_tree.specs.Statements.{statement_of}
use Rattle.sql_grammar.specs.Parse as parse
use Rattle.sql_expressions.proofs.Interface.{same_gives}
use Rattle.sql_parse.proofs.Chosen.{is_create, is_alter, is_drop, is_insert, is_update, is_delete, is_select, is_control}
use Rattle.sql_parse.proofs.statements.body.Goals as goal

pub returns-then-next_is : goal.returns-then-next_is
returns-then-next_is c =
    same_gives statement_of c.create.result c.create.new.tokens (parse.body c.args.tokens.now) (parse.create c.args.tokens.now)
    (is_create c.args.tokens.now (sym c.if-next_is.ensures)) c.create.ensures

pub returns-then-next_is-2 : goal.returns-then-next_is-2
returns-then-next_is-2 c =
    same_gives statement_of c.alter.result c.alter.new.tokens (parse.body c.args.tokens.now) (parse.alter c.args.tokens.now)
    (is_alter c.args.tokens.now (sym c.if-next_is.ensures) (sym c.if-next_is-2.ensures)) c.alter.ensures

pub returns-then-next_is-3 : goal.returns-then-next_is-3
returns-then-next_is-3 c =
    same_gives statement_of c.drop_named.result c.drop_named.new.tokens (parse.body c.args.tokens.now) (parse.drop c.args.tokens.now)
    (is_drop c.args.tokens.now (sym c.if-next_is.ensures) (sym c.if-next_is-2.ensures) (sym c.if-next_is-3.ensures)) c.drop_named.ensures

pub returns-then-next_is-4 : goal.returns-then-next_is-4
returns-then-next_is-4 c =
    same_gives statement_of c.insert.result c.insert.new.tokens (parse.body c.args.tokens.now) (parse.insert c.args.tokens.now)
    (is_insert c.args.tokens.now (sym c.if-next_is.ensures) (sym c.if-next_is-2.ensures) (sym c.if-next_is-3.ensures) (sym c.if-next_is-4.ensures)) c.insert.ensures

pub returns-then-next_is-5 : goal.returns-then-next_is-5
returns-then-next_is-5 c =
    same_gives statement_of c.update.result c.update.new.tokens (parse.body c.args.tokens.now) (parse.update c.args.tokens.now)
    (is_update c.args.tokens.now (sym c.if-next_is.ensures) (sym c.if-next_is-2.ensures) (sym c.if-next_is-3.ensures) (sym c.if-next_is-4.ensures) (sym c.if-next_is-5.ensures)) c.update.ensures

pub returns-then-next_is-6 : goal.returns-then-next_is-6
returns-then-next_is-6 c =
    same_gives statement_of c.delete.result c.delete.new.tokens (parse.body c.args.tokens.now) (parse.delete c.args.tokens.now)
    (is_delete c.args.tokens.now (sym c.if-next_is.ensures) (sym c.if-next_is-2.ensures) (sym c.if-next_is-3.ensures)
    (sym c.if-next_is-4.ensures) (sym c.if-next_is-5.ensures) (sym c.if-next_is-6.ensures)) c.delete.ensures

pub returns-then-next_is-7 : goal.returns-then-next_is-7
returns-then-next_is-7 c =
    same_gives statement_of c.select.result c.select.new.tokens (parse.body c.args.tokens.now) (parse.select c.args.tokens.now)
    (is_select c.args.tokens.now (sym c.if-next_is.ensures) (sym c.if-next_is-2.ensures) (sym c.if-next_is-3.ensures)
    (sym c.if-next_is-4.ensures) (sym c.if-next_is-5.ensures) (sym c.if-next_is-6.ensures) (sym c.if-next_is-7.ensures)) c.select.ensures

pub returns : goal.returns
returns c =
    same_gives statement_of c.control.result c.control.new.tokens (parse.body c.args.tokens.now) (parse.control c.args.tokens.now)
    (is_control c.args.tokens.now (sym c.if-next_is.ensures) (sym c.if-next_is-2.ensures) (sym c.if-next_is-3.ensures)
    (sym c.if-next_is-4.ensures) (sym c.if-next_is-5.ensures) (sym c.if-next_is-6.ensures) (sym c.if-next_is-7.ensures)) c.control.ensures
