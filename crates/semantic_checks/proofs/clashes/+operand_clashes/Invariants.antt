-- What is there, with what the others add, is the whole.
use Rattle.std.proofs.Common.{◌≡◌, ◌++◌, drop}
use Rattle.sql_tree.specs.Listed.{terms_listed}
use Rattle.semantic_checks.specs.Clashes.{terms_clashes}
use Rattle.semantic_checks.specs.Types.{types_seen}
use Rattle.semantic_checks.proofs.clashes.+operand_clashes.Given as goal

abbrev pub invariant-terms_clashes-loop-term : goal.invariant-terms_clashes-loop-term
invariant-terms_clashes-loop-term l =
    l.found ++ terms_clashes (types_seen l.types) (terms_listed (drop l.term-index l.terms)) ≡ l.fn.found ++ terms_clashes (types_seen l.types) (terms_listed l.terms)
