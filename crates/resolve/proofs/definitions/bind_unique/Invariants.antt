-- Those bound so far stand before the others.
use Rattle.std.proofs.Common.{◌≡◌, drop}
use Rattle.expression_binding.specs.Walks.{each_from}
use Rattle.expression_binding.proofs.Interface.{onto}
use Rattle.resolve.specs.Definitions.{bind_key_column}
use Rattle.resolve.proofs.definitions.bind_unique.Given as goal

abbrev pub invariant-loop-i : goal.invariant-loop-i
invariant-loop-i l =
    each_from (bind_key_column l.columns l.names) 0 l.names
    ≡ onto l.keys (each_from (bind_key_column l.columns l.names) l.i (drop l.i l.names))
