use Rattle.std.proofs.Common.{sym, [], ◌∷◌}
use Rattle.sql_tree.specs.Statements.{join_of}
use Rattle.sql_tree.specs.declared.lexemes.Keyword.TheVariants as keyword
use Rattle.sql_grammar.specs.Readers as terminal
use Rattle.sql_grammar.specs.Parse.{join}
use Rattle.sql_grammar.proofs.Interface.{shortens, goes_end}
use Rattle.sql_grammar.proofs.Interface.{join_agrees}
use Rattle.sql_expressions.proofs.Interface.{goes_push}
use Rattle.sql_parse.proofs.queries.joins.Goals as goal

pub joins-smaller : goal.joins-smaller
joins-smaller c = (shortens join_agrees).shorter c.joins.tokens (join_of c.in_ok-join.field-0) c.join.new.tokens c.in_ok-join.ensures

pub joins-preserved : goal.joins-preserved
joins-preserved c =
    goes_push join_of (terminal.Word keyword.Inner ∷ terminal.Word keyword.Join ∷ []) join (shortens join_agrees)
    c.args.tokens.now c.joins.joins c.push.new.self c.in_ok-join.field-0 c.joins.tokens c.join.new.tokens c.joins.invariant (sym c.joins-test.ensures) c.in_ok-join.ensures c.in_ok-push.ensures.ok

pub returns : goal.returns
returns c = goes_end (terminal.Word keyword.Inner ∷ terminal.Word keyword.Join ∷ []) join c.args.tokens.now _ c.joins.tokens c.joins.invariant (sym c.joins-test.ensures)
