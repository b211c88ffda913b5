-- What is read here is never nothing.
use Rattle.sql_grammar.specs.Shortening.{Shortens}
use Rattle.sql_grammar.specs.Parse as parse
use Rattle.sql_grammar.proofs.Interface.{shortens, assignment_agrees, column_ref_agrees, item_agrees, order_key_agrees, row_agrees}

pub assignment_shortens : Shortens parse.assignment
assignment_shortens = shortens assignment_agrees

pub column_ref_shortens : Shortens parse.column_ref
column_ref_shortens = shortens column_ref_agrees

pub item_shortens : Shortens parse.item
item_shortens = shortens item_agrees

pub order_key_shortens : Shortens parse.order_key
order_key_shortens = shortens order_key_agrees

pub row_shortens : Shortens parse.row
row_shortens = shortens row_agrees
