-- The parts so far, with those that are left, give what all give.
use Rattle.std.proofs.Common.{◌≡◌}
use Rattle.sql_grammar.specs.Making.{parts_in}
use Rattle.sql_ddl.proofs.Sorting.{sorted_with}
use Rattle.sql_ddl.proofs.tables.sorted.Given as goal

abbrev pub invariant-loop-part : goal.invariant-loop-part
invariant-loop-part l = sorted_with l.columns l.uniques l.part-iterator.rest.items ≡ parts_in l.fn.parts
