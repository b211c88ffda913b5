-- The terms so far stand before the others.
use Rattle.std.proofs.Common.{◌≡◌, drop}
use Rattle.sql_tree.specs.Listed.{terms_listed}
use Rattle.expression_binding.specs.Names.{bind_terms}
use Rattle.expression_binding.specs.Seen.{scope_seen}
use Rattle.expression_binding.proofs.Trees.{onto_terms}
use Rattle.expression_binding.proofs.operands.+bind_operand.Given as goal

abbrev pub invariant-bind_terms-loop-term : goal.invariant-bind_terms-loop-term
invariant-bind_terms-loop-term l =
    bind_terms (scope_seen l.scope) l.declarations (terms_listed l.terms)
    ≡ onto_terms (terms_listed l.bound) (bind_terms (scope_seen l.scope) l.declarations (terms_listed (drop l.term-index l.terms)))
