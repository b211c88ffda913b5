-- The units so far are what is no longer left.
use Rattle.std.proofs.Common.{◌≡◌, ◌+◌, length, drop}
use Rattle.std.specs.Str.{chars}
use Rattle.ae_base.specs.Values.{units}
use Rattle.ae_base.proofs.values.has_units_within.Given as goal

abbrev pub invariant-loop-c : goal.invariant-loop-c
invariant-loop-c l = units (drop (length l.yielded) (chars l.text)) + l.fn.most ≡ units (chars l.text) + l.left
