-- An IN asks what its left side, its rules and its list ask.
use Rattle.std.proofs.Common.{ap, map, ◌++◌}
use Rattle.sql_tree.specs.Operands.{operand_of}
use Rattle.enc_types.specs.Rules.{operand_rules, in_rules}
use Rattle.enc_types.proofs.Walks.{joined, two, flat_map-map}
use Rattle.enc_types.proofs.conditions.of_in.Goals as goal

pub returns : goal.returns
returns c =
    two c.args.rules.now c.is_in.new.rules c.ask_each.new.rules _ _ _ _ c.ask_each.result
    (joined c.args.rules.now c.of_operand.new.rules c.is_in.new.rules _ _ c.in_ok-of_operand.ensures c.in_ok-is_in.ensures) c.ask_each.ensures
    (ap (λ x. operand_rules (operand_of c.args.operand.now) ++ in_rules c.args.at x (map operand_of c.args.list.now)) c.site_of.ensures)
    (flat_map-map operand_of operand_rules c.args.list.now)
