use Rattle.std.proofs.Common.{sym}
use Rattle.sql_grammar.specs.Parse.{signed, operand_parens}
use Rattle.sql_grammar.proofs.Interface.{signed_shortens}
use Rattle.sql_grammar.proofs.Interface.{goes_end}
use Rattle.sql_expressions.specs.Views.{signed_of, signs}
use Rattle.sql_expressions.proofs.Listing.{goes_push}
use Rattle.sql_expressions.proofs.operands.+operand.Goals as goal

pub terms-terms-smaller : goal.terms-terms-smaller
terms-terms-smaller t c =
    (signed_shortens c.args.depth).shorter c.terms.tokens (signed_of c.in_ok-signed.field-0) c.signed.new.tokens c.in_ok-signed.ensures

pub terms-terms-preserved : goal.terms-terms-preserved
terms-terms-preserved t c =
    goes_push signed_of signs (signed (operand_parens c.args.depth)) (signed_shortens c.args.depth) c.args.tokens.now
    c.terms.terms c.push.new.self c.in_ok-signed.field-0 c.terms.tokens c.signed.new.tokens c.terms.invariant (sym c.terms-test.ensures) c.in_ok-signed.ensures c.in_ok-push.ensures.ok

pub terms-returns : goal.terms-returns
terms-returns t c = goes_end signs (signed (operand_parens c.args.depth)) c.args.tokens.now _ c.terms.tokens c.terms.invariant (sym c.terms-test.ensures)
