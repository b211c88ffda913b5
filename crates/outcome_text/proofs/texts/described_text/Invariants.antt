-- The parameters so far stand after the first line.
use Rattle.std.proofs.Common.{◌≡◌, ◌++◌, flat_map, string_bytes, codes, take}
use Rattle.outcome_text.specs.Printing.{line, printed_param}
use Rattle.outcome_text.proofs.texts.described_text.Given as goal

abbrev pub invariant-loop-param : goal.invariant-loop-param
invariant-loop-param l = string_bytes l.text ≡ line (codes "described") ++ flat_map printed_param (take l.param-index l.params)
