-- The parts of a query as trees without where they lie in memory.
use Rattle.std.specs.Prelude.{map}
use Rattle.std.specs.Option.{option_map}
use Rattle.sql_tree.specs.Conditions.{condition_of}
use Rattle.sql_tree.specs.Statements.{join_of}
use Rattle.sql_grammar.specs.Making as make
use Rattle.sql_parse.specs.declared.queries.Tail as code_tail

abbrev pub tail_of : code_tail.Tail → make.Tail
tail_of tail = (tail.from, (map join_of tail.joins, (option_map condition_of tail.filter, (tail.group_by, tail.order_by))))
