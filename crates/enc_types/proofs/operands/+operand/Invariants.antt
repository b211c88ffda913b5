-- What is there, with the rules of the terms that are left, is the whole.
use Rattle.std.proofs.Common.{◌≡◌, ◌++◌, drop}
use Rattle.sql_tree.specs.Listed.{terms_listed}
use Rattle.enc_types.specs.Rules.{terms_rules}
use Rattle.enc_types.proofs.operands.+operand.Given as goal

abbrev pub invariant-of_terms-loop-term : goal.invariant-of_terms-loop-term
invariant-of_terms-loop-term l = l.rules ++ terms_rules (terms_listed (drop l.term-index l.terms)) ≡ l.initial.rules ++ terms_rules (terms_listed l.terms)
