-- A sum's rules are those of its parts, one after another.
use Rattle.std.proofs.Common.{refl, arith}
use Rattle.sql_tree.specs.Operands.{operand_of}
use Rattle.sql_tree.specs.Listed.{terms_listed}
use Rattle.enc_types.specs.Rules.{operand_rules, terms_rules, first_rules}
use Rattle.enc_types.proofs.Walks.{walk_more, walk_all, two, joined}
use Rattle.enc_types.proofs.Trees.{rules_of-Sum, term_step}
use Rattle.enc_types.proofs.operands.+operand.Goals as goal

pub of_operand-returns-in_ok-of_first-in-Sum : goal.of_operand-returns-in_ok-of_first-in-Sum
of_operand-returns-in_ok-of_first-in-Sum t c =
    let e = joined c.args.rules.now c.of_operand.new.rules c.of_first.new.rules (operand_rules (operand_of c.deref-in-Sum.result.now))
    (first_rules (operand_of c.deref-in-Sum-2.result.now) (terms_listed c.deref-in-Sum-3.result.now)) c.in_ok-of_operand-in-Sum.ensures c.in_ok-of_first-in-Sum.ensures in
    let w = rules_of-Sum c.args.operand.now c.deref-in-Sum.result.now c.deref-in-Sum-2.result.now c.in-Sum.first
    c.in-Sum.terms c.deref-in-Sum-3.result.now c.deref-in-Sum-4.result.now c.in-Sum.is c.deref-in-Sum.ensures
    c.deref-in-Sum-2.ensures c.deref-in-Sum-3.ensures.value c.deref-in-Sum-4.ensures.value in
    rw w (two c.args.rules.now c.of_first.new.rules c.of_terms.new.rules _ (terms_rules (terms_listed c.deref-in-Sum-4.result.now)) _ _ c.of_terms.result e c.of_terms.ensures refl refl)

pub of_terms-loop-term-preserved : goal.of_terms-loop-term-preserved
of_terms-loop-term-preserved t c =
    walk_more (λ ts. terms_rules (terms_listed ts)) _ term_step _ _ _ c.args.terms.now c.loop-term.term-index
    c.term-item.result (omega arith) c.term-item.is c.loop-term.invariant c.in_ok-of_term.ensures

pub of_terms-returns : goal.of_terms-returns
of_terms-returns t c = walk_all (λ ts. terms_rules (terms_listed ts)) refl _ _ c.args.terms.now c.loop-term.term-index (omega arith) c.loop-term.invariant
