-- A sum is bound part by part, and its terms one after another.
use Rattle.std.proofs.Common.{subst, sym, arith, [], ◌∷◌}
use Rattle.std.proofs.lemmas.Result.{err_from_is_err_and}
use Rattle.ae_base.specs.Results.{AnswersAs}
use Rattle.sql_tree.specs.Listed.{terms_listed}
use Rattle.sql_tree.specs.Operands.{operand_of}
use Rattle.expression_binding.specs.Seen.{scope_seen}
use Rattle.expression_binding.proofs.Walks.{fails}
use Rattle.expression_binding.proofs.Trees.{sum_fault, sum_bound, terms_fault, terms_more, terms_done}
use Rattle.expression_binding.proofs.operands.+bind_operand.Goals as goal

pub bind_operand-returns-in_err-terms-in-Sum : goal.bind_operand-returns-in_err-terms-in-Sum
bind_operand-returns-in_err-terms-in-Sum t c =
    let p = err_from_is_err_and c.from_residual-in_err-terms-in-Sum.result c.from_residual-in_err-terms-in-Sum.ensures.1 in
    rw (p.1, p.2)
    (fails terms_listed operand_of c.in_err-terms-in-Sum.field-0.0 _ _
    (λ f h. sum_fault (scope_seen c.args.scope.now) c.args.declarations.now c.args.operand.now c.deref-in-Sum.result.now
    c.in-Sum.first c.in-Sum.terms c.deref-in-Sum-2.result.now c.in-Sum.is c.deref-in-Sum.ensures c.deref-in-Sum-2.ensures.value _ f c.in_ok-first-in-Sum.ensures h)
    c.in_err-terms-in-Sum.ensures)

pub bind_operand-returns-in_ok-terms-in-Sum : goal.bind_operand-returns-in_ok-terms-in-Sum
bind_operand-returns-in_ok-terms-in-Sum t c =
    subst (λ d. AnswersAs operand_of c.sum_of.result d)
    (sym (sum_bound (scope_seen c.args.scope.now) c.args.declarations.now c.args.operand.now c.deref-in-Sum.result.now
    c.in-Sum.first c.in-Sum.terms c.deref-in-Sum-2.result.now c.in-Sum.is c.deref-in-Sum.ensures c.deref-in-Sum-2.ensures.value _ _ c.in_ok-first-in-Sum.ensures c.in_ok-terms-in-Sum.ensures))
    c.sum_of.ensures

pub bind_terms-returns-in_err-bind_term : goal.bind_terms-returns-in_err-bind_term
bind_terms-returns-in_err-bind_term t c =
    let p = err_from_is_err_and c.from_residual.result c.from_residual.ensures.1 in
    rw (p.1, p.2)
    (fails (λ bound. terms_listed (bound ∷ [])) terms_listed c.in_err-bind_term.field-0.0 _ _
    (λ f h. terms_fault (scope_seen c.args.scope.now) c.args.declarations.now _ c.loop-term.bound f c.args.terms.now
    c.loop-term.term-index c.term-item.result (omega arith) c.term-item.is c.loop-term.invariant h)
    c.in_err-bind_term.ensures)

pub bind_terms-loop-term-preserved : goal.bind_terms-loop-term-preserved
bind_terms-loop-term-preserved t c =
    rw ((c.in_ok-push.ensures).ok)
    (terms_more (scope_seen c.args.scope.now) c.args.declarations.now _ c.loop-term.bound c.in_ok-bind_term.field-0
    c.args.terms.now c.loop-term.term-index c.term-item.result (omega arith) c.term-item.is c.loop-term.invariant c.in_ok-bind_term.ensures)

pub bind_terms-returns : goal.bind_terms-returns
bind_terms-returns t c =
    terms_done (scope_seen c.args.scope.now) c.args.declarations.now _ (terms_listed c.loop-term.bound) c.args.terms.now c.loop-term.term-index (omega arith) c.loop-term.invariant
