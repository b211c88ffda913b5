-- The keys so far.
use Rattle.std.proofs.Common.{◌≡◌, [], ◌∷◌, map, take}
use Rattle.sql_tree.specs.Operands.{operand_of}
use Rattle.lookups.specs.Lent.{operands_listed}
use Rattle.lookups.proofs.finding.one_each.Given as goal

abbrev pub invariant-loop-operand : goal.invariant-loop-operand
invariant-loop-operand l = operands_listed l.keys ≡ map (λ v. v ∷ []) (map operand_of (take l.operand-index l.list))
