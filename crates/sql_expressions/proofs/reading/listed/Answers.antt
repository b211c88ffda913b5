use Rattle.std.proofs.Common.{sym}
use Rattle.sql_grammar.proofs.Interface.{behind_comma_shortens}
use Rattle.sql_expressions.proofs.Listing.{lists_push, lists_end}
use Rattle.sql_expressions.proofs.reading.listed.Goals as goal

pub items-smaller : goal.items-smaller
items-smaller g c =
    (behind_comma_shortens g.met.R.Reader.shortens).shorter c.items.tokens (g.R.Reader.view c.in_ok-behind_comma.field-0) c.behind_comma.new.tokens c.in_ok-behind_comma.ensures

pub items-preserved : goal.items-preserved
items-preserved g c =
    lists_push g.R.Reader.view g.R.Reader.reading g.met.R.Reader.shortens c.args.tokens.now c.items.items
    c.push-in-items.new.self c.in_ok-behind_comma.field-0 c.items.tokens c.behind_comma.new.tokens
    c.items.invariant (sym c.items-test.ensures) c.in_ok-behind_comma.ensures c.in_ok-push-2.ensures.ok

pub returns : goal.returns
returns g c = lists_end g.R.Reader.reading c.args.tokens.now _ c.items.tokens c.items.invariant (sym c.items-test.ensures)
