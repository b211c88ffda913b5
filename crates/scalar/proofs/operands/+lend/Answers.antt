-- An operand is worth what its parts are, and a sum goes on from term to term.
use Rattle.std.proofs.Common.{rules, length, ap, sym, ◌∙◌, arith}
use Rattle.std.proofs.lemmas.Result.{err_from_is_err_and}
use Rattle.sql_tree.specs.declared.operands.Operand.{the_lemmas}
use Rattle.sql_tree.specs.Operands.{term_before, NoMore}
use Rattle.sql_tree.specs.Listed.{terms_listed}
use Rattle.sql_tree.specs.Placed.{ArePlaced}
use Rattle.scalar.specs.Eval.{eval_terms}
use Rattle.scalar.proofs.Terms.{term_within, terms_within, sum_of_parts, sum_more, sum_fault, atom_read}
use Rattle.scalar.proofs.operands.+lend.Goals as goal

pub add_terms-add_term-requires : goal.add_terms-add_term-requires
add_terms-add_term-requires g t c =
    let h : ArePlaced (length c.args.row.now) (length c.args.params.now) (term_before c.term-item.result NoMore) =
    term_within _ _ c.args.terms.now c.loop-term.term-index c.term-item.result (omega arith) c.term-item.is c.requires in
    λ κs le. (search (rules, the_lemmas), (search rules, h))

pub lend-add_terms-requires : goal.lend-add_terms-requires
lend-add_terms-requires g t c =
    let h : ArePlaced (length c.args.row.now) (length c.args.params.now) (terms_listed c.deref-in-Ok-lend.result.now) =
    terms_within _ _ c.args.operand.now c.in-Sum.first c.in-Sum.terms _ c.in-Sum.is c.deref-in-Ok-lend.ensures.value c.requires in
    λ κs le. (search (rules, the_lemmas), (search rules, h))

pub lend-returns-in-Param : goal.lend-returns-in-Param
lend-returns-in-Param g t c =
    rw (c.in-Param.is, c.of_atom.ensures) (atom_read _ _ _ (rw c.in-Param.is at c.requires) c.index-params-param.is)

pub lend-returns-in-Column : goal.lend-returns-in-Column
lend-returns-in-Column g t c =
    rw (c.in-Column.is, c.of_atom-in-Column.ensures) (atom_read _ _ _ (rw c.in-Column.is at c.requires) (c.get.ensures c.get.result.now))

pub lend-returns-in-Ok-lend : goal.lend-returns-in-Ok-lend
lend-returns-in-Ok-lend g t c =
    c.add_terms.ensures
    ∙ ap (λ a. eval_terms c.args.row.now c.args.params.now a (terms_listed c.deref-in-Ok-lend.result.now)) c.number_or_null.ensures
    ∙ sym (sum_of_parts _ _ c.args.operand.now c.deref-in-Sum.result.now c.in-Sum.first c.in-Sum.terms _ _
    c.in-Sum.is c.deref-in-Sum.ensures c.deref-in-Ok-lend.ensures.value (sym c.lend-in-Sum.ensures ∙ c.in-Ok-lend.is))

pub add_terms-returns-in_err-sum : goal.add_terms-returns-in_err-sum
add_terms-returns-in_err-sum g t c =
    let p = err_from_is_err_and c.from_residual.result c.from_residual.ensures.1 in
    rw (p.1, p.2)
    (sym (sum_fault _ _ _ _ _ c.args.terms.now c.loop-term.term-index c.term-item.result (omega arith) c.term-item.is c.loop-term.invariant (sym c.add_term.ensures ∙ c.in_err-sum.was)))

pub add_terms-loop-term-preserved : goal.add_terms-loop-term-preserved
add_terms-loop-term-preserved g t c =
    sum_more _ _ _ _ c.in_ok-sum.sum c.args.terms.now c.loop-term.term-index c.term-item.result (omega arith) c.term-item.is c.loop-term.invariant (sym c.add_term.ensures ∙ c.in_ok-sum.was)
