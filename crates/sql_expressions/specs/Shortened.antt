-- What is read here is never nothing.
use Rattle.sql_grammar.specs.Shortening.{Shortens}
use Rattle.sql_grammar.specs.Parse as parse
use Rattle.sql_grammar.proofs.Interface.{shortens, name_agrees, operand_agrees, placed_name_agrees}

pub name_shortens : Shortens parse.name
name_shortens = shortens name_agrees

pub operand_shortens : Shortens parse.operand
operand_shortens = shortens operand_agrees

pub placed_name_shortens : Shortens parse.placed_name
placed_name_shortens = shortens placed_name_agrees
