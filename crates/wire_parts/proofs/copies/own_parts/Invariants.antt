-- The copies so far are those of the first parts.
use Rattle.std.proofs.Common.{◌≡◌, take, map}
use Rattle.wire_parts.proofs.copies.own_parts.Given as goal

abbrev pub invariant-loop-part : goal.invariant-loop-part
invariant-loop-part g l = l.copies ≡ map g.P.ToOwn.same (take l.part-index l.parts)
