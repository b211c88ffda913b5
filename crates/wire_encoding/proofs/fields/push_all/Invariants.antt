-- The parts so far stand at the end.
use Rattle.std.proofs.Common.{◌≡◌, ◌++◌, take}
use Rattle.std.specs.List.{All, flat_map}
use Rattle.wire_encoding.proofs.fields.push_all.Given as goal

abbrev pub invariant-loop-part : goal.invariant-loop-part
invariant-loop-part g l = record {
  bytes : l.out.items ≡ l.fn.out.items ++ flat_map g.P.Part.spelling (take l.part-index l.parts);
  meet : All g.P.Part.meets (take l.part-index l.parts);
}
