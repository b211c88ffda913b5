-- What is there, with the rules of the parts that are left, is the whole.
use Rattle.std.proofs.Common.{◌≡◌, ◌++◌, drop}
use Rattle.std.specs.List.{flat_map}
use Rattle.enc_types.proofs.asks.ask_each.Given as goal

abbrev pub invariant-loop-part : goal.invariant-loop-part
invariant-loop-part g l = l.rules ++ flat_map g.P.Asks.asked (drop l.part-index l.parts) ≡ l.initial.rules ++ flat_map g.P.Asks.asked l.parts
