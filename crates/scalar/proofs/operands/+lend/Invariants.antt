-- The sum so far, with the terms that are left, is the whole.
use Rattle.std.proofs.Common.{◌≡◌, drop}
use Rattle.scalar.specs.Eval.{eval_terms}
use Rattle.sql_tree.specs.Listed.{terms_listed}
use Rattle.scalar.proofs.operands.+lend.Given as goal

abbrev pub invariant-add_terms-loop-term : goal.invariant-add_terms-loop-term
invariant-add_terms-loop-term g l =
    eval_terms l.row l.params l.fn.first (terms_listed l.terms) ≡ eval_terms l.row l.params l.sum (terms_listed (drop l.term-index l.terms))
