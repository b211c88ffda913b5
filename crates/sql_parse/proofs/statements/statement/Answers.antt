use Rattle.std.proofs.Common.{refl}
use Rattle.sql_tree.specs.Statements.{statement_of}
use Rattle.sql_parse.proofs.Parsed.{tree_whole, tree_more}
use Rattle.sql_parse.proofs.statements.statement.Goals as goal

pub returns-in-None : goal.returns-in-None
returns-in-None c = tree_whole c.args.tokens c.ended.new.tokens (statement_of c.in_ok-statement.statement) c.in_ok-statement.ensures c.in-None.ensures.items.0

pub returns : goal.returns
returns c =
    let more = tree_more c.args.tokens c.ended.new.tokens c.next.new.self (statement_of c.in_ok-statement.statement) c.in-Some.field-0 c.in_ok-statement.ensures c.in-Some.ensures.items in
    rw c.syntax.ensures (refl, more)
