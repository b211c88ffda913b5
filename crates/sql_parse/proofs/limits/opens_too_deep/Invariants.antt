use Rattle.std.proofs.Common.{◌≡◌, drop}
use Rattle.sql_grammar.specs.Texts.{opens_too_deep}
use Rattle.sql_parse.proofs.limits.opens_too_deep.Given as goal

abbrev pub invariant-loop-token : goal.invariant-loop-token
invariant-loop-token l = opens_too_deep l.depth (drop l.token-index l.tokens) ≡ opens_too_deep 0 l.tokens
