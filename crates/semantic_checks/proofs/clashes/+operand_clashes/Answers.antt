-- The clashes of a sum are those of its parts, one after another.
use Rattle.std.proofs.Common.{arith}
use Rattle.semantic_checks.specs.Types.{types_seen}
use Rattle.semantic_checks.proofs.ClashTrees.{sum_clashes, three, term_more}
use Rattle.semantic_checks.proofs.clashes.+operand_clashes.Goals as goal

pub operand_clashes-returns-in_ok-first_clash-in-Sum : goal.operand_clashes-returns-in_ok-first_clash-in-Sum
operand_clashes-returns-in_ok-first_clash-in-Sum t c =
    three c.terms_clashes.result c.args.found.now c.operand_clashes-in-Sum.new.found c.first_clash.new.found c.terms_clashes.new.found _ _ _ _
    c.in_ok-operand_clashes-in-Sum.ensures c.in_ok-first_clash-in-Sum.ensures c.terms_clashes.ensures
    (sum_clashes (types_seen c.args.types.now) c.args.operand.now c.deref-in-Sum.result.now c.deref-in-Sum-2.result.now
    c.in-Sum.first c.in-Sum.terms c.deref-in-Sum-3.result.now c.deref-in-Sum-4.result.now c.in-Sum.is
    c.deref-in-Sum.ensures c.deref-in-Sum-2.ensures c.deref-in-Sum-3.ensures.value c.deref-in-Sum-4.ensures.value)

pub terms_clashes-loop-term-preserved : goal.terms_clashes-loop-term-preserved
terms_clashes-loop-term-preserved t c =
    term_more (types_seen c.args.types.now) _ _ _ c.args.terms.now c.loop-term.term-index c.term-item.result (omega arith) c.term-item.is c.loop-term.invariant c.in_ok-term_clashes.ensures
