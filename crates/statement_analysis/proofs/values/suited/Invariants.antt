-- The values so far, with those that are left, are the whole; and those so far are short.
use Rattle.std.proofs.Common.{◌≡◌, drop}
use Rattle.std.specs.List.{All}
use Rattle.operators.proofs.Interface.{collected}
use Rattle.wire_parts.specs.AtomBounds.{IsSendable}
use Rattle.statement_analysis.specs.Params.{suited}
use Rattle.statement_analysis.proofs.values.suited.Given as goal

abbrev pub invariant-loop-place : goal.invariant-loop-place
invariant-loop-place l = record {
  whole : suited l.encs l.params ≡ collected l.atoms (suited (drop l.place l.encs) (drop l.place l.params));
  short : All IsSendable l.atoms;
}
