use Rattle.std.proofs.Common.{sym, [], ◌∷◌}
use Rattle.sql_tree.specs.Conditions.{condition_of}
use Rattle.sql_tree.specs.Statements.{Condition}
use Rattle.sql_tree.specs.declared.lexemes.Keyword.TheVariants as keyword
use Rattle.sql_grammar.specs.Readers as terminal
use Rattle.sql_grammar.specs.Parse.{and_literal, or_conjunction, conjunction, after_literal, operand_parens, inner_parens}
use Rattle.sql_grammar.specs.Making.{Asks}
use Rattle.sql_grammar.proofs.Interface.{and_shortens, or_shortens}
use Rattle.sql_grammar.proofs.Interface.{goes_end}
use Rattle.sql_expressions.specs.Views.{all_from, any_from}
use Rattle.sql_expressions.proofs.Behind.{conjunction_is, with_more_is}
use Rattle.sql_expressions.proofs.Alike.{same_gives}
use Rattle.sql_expressions.proofs.Listing.{goes_push}
use Rattle.sql_expressions.proofs.conditions.+condition.Goals as goal

pub and_literals-literals-smaller : goal.and_literals-literals-smaller
and_literals-literals-smaller t c =
    (and_shortens c.args.depth).shorter c.literals.tokens (condition_of c.in_ok-and_literal.field-0) c.and_literal.new.tokens c.in_ok-and_literal.ensures

pub and_literals-literals-preserved : goal.and_literals-literals-preserved
and_literals-literals-preserved t c =
    goes_push condition_of (terminal.Word keyword.And ∷ []) (and_literal (operand_parens c.args.depth) (inner_parens c.args.depth))
    (and_shortens c.args.depth) c.args.tokens.now c.literals.all c.push.new.self c.in_ok-and_literal.field-0
    c.literals.tokens c.and_literal.new.tokens c.literals.invariant (sym c.literals-test.ensures) c.in_ok-and_literal.ensures c.in_ok-push.ensures.ok

pub and_literals-returns : goal.and_literals-returns
and_literals-returns t c = goes_end (terminal.Word keyword.And ∷ []) (and_literal (operand_parens c.args.depth) (inner_parens c.args.depth))
    c.args.tokens.now _ c.literals.tokens c.literals.invariant (sym c.literals-test.ensures)

pub or_conjunctions-conjunctions-smaller : goal.or_conjunctions-conjunctions-smaller
or_conjunctions-conjunctions-smaller t c =
    (or_shortens c.args.depth).shorter c.conjunctions.tokens (condition_of c.in_ok-or_conjunction.field-0) c.or_conjunction.new.tokens c.in_ok-or_conjunction.ensures

pub or_conjunctions-conjunctions-preserved : goal.or_conjunctions-conjunctions-preserved
or_conjunctions-conjunctions-preserved t c =
    goes_push condition_of (terminal.Word keyword.Or ∷ []) (or_conjunction (operand_parens c.args.depth) (inner_parens c.args.depth))
    (or_shortens c.args.depth) c.args.tokens.now c.conjunctions.any c.push.new.self c.in_ok-or_conjunction.field-0
    c.conjunctions.tokens c.or_conjunction.new.tokens c.conjunctions.invariant (sym c.conjunctions-test.ensures) c.in_ok-or_conjunction.ensures c.in_ok-push.ensures.ok

pub or_conjunctions-returns : goal.or_conjunctions-returns
or_conjunctions-returns t c = goes_end (terminal.Word keyword.Or ∷ []) (or_conjunction (operand_parens c.args.depth) (inner_parens c.args.depth))
    c.args.tokens.now _ c.conjunctions.tokens c.conjunctions.invariant (sym c.conjunctions-test.ensures)

pub conjunction-returns : goal.conjunction-returns
conjunction-returns t c =
    same_gives condition_of c.all_from.result c.all_from.new.tokens (conjunction (operand_parens c.args.depth) (inner_parens c.args.depth) c.args.tokens.now)
    (all_from (operand_parens c.args.depth) (inner_parens c.args.depth) (condition_of c.in_ok-first.first) c.literal.new.tokens)
    (conjunction_is (operand_parens c.args.depth) (inner_parens c.args.depth) c.args.tokens.now c.literal.new.tokens (condition_of c.in_ok-first.first) c.in_ok-first.ensures) c.all_from.ensures

pub with_more-returns : goal.with_more-returns
with_more-returns t c =
    same_gives (λ whole. Asks (condition_of whole)) c.any_from.result c.any_from.new.tokens
    (after_literal (operand_parens c.args.depth) (inner_parens c.args.depth) (Asks (condition_of c.args.first)) c.args.tokens.now)
    (any_from (operand_parens c.args.depth) (inner_parens c.args.depth) (condition_of c.in_ok-all.all) c.all_from.new.tokens)
    (with_more_is (operand_parens c.args.depth) (inner_parens c.args.depth) c.args.tokens.now c.all_from.new.tokens
    (condition_of c.args.first) (condition_of c.in_ok-all.all) c.in_ok-all.ensures) c.any_from.ensures
