-- What is there, with the rules of the operands that are left, is the whole.
use Rattle.std.proofs.Common.{◌≡◌, ◌++◌, drop, map}
use Rattle.sql_tree.specs.Operands.{operand_of}
use Rattle.enc_types.specs.Sites.{site_of}
use Rattle.enc_types.specs.declared.rules.Rule.TheVariants.{Same}
use Rattle.enc_types.proofs.conditions.is_in.Given as goal

abbrev pub invariant-loop-y : goal.invariant-loop-y
invariant-loop-y l =
    l.rules ++ map (λ y. Same l.x (site_of y) l.at) (map operand_of (drop l.y-index l.list)) ≡ l.initial.rules ++ map (λ y. Same l.x (site_of y) l.at) (map operand_of l.list)
