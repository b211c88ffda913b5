-- What is read here is never nothing.
use Rattle.sql_grammar.specs.Shortening.{Shortens}
use Rattle.sql_grammar.specs.Parse as parse
use Rattle.sql_grammar.proofs.Interface.{shortens, column_setting_agrees, master_setting_agrees, table_part_agrees, wrapped_setting_agrees}

pub column_setting_shortens : Shortens parse.column_setting
column_setting_shortens = shortens column_setting_agrees

pub master_setting_shortens : Shortens parse.master_setting
master_setting_shortens = shortens master_setting_agrees

pub table_part_shortens : Shortens parse.table_part
table_part_shortens = shortens table_part_agrees

pub wrapped_setting_shortens : Shortens parse.wrapped_setting
wrapped_setting_shortens = shortens wrapped_setting_agrees
