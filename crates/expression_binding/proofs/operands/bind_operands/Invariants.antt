-- The operands so far stand before the others.
use Rattle.std.proofs.Common.{◌≡◌, drop, map}
use Rattle.sql_tree.specs.Operands.{operand_of}
use Rattle.ae_base.specs.Results.{each}
use Rattle.expression_binding.specs.Names.{bind_operand}
use Rattle.expression_binding.specs.Seen.{scope_seen}
use Rattle.expression_binding.proofs.Walks.{onto}
use Rattle.expression_binding.proofs.operands.bind_operands.Given as goal

abbrev pub invariant-loop-operand : goal.invariant-loop-operand
invariant-loop-operand l =
    each (bind_operand (scope_seen l.scope) l.declarations) (map operand_of l.operands)
    ≡ onto (map operand_of l.bound) (each (bind_operand (scope_seen l.scope) l.declarations) (map operand_of (drop l.operand-index l.operands)))
