-- The values so far stand after the first, each after a tab.
use Rattle.std.proofs.Common.{◌≡◌, ◌++◌, ◌∷◌, flat_map, string_bytes, take}
use Rattle.outcome_text.specs.Printing.{printed_value}
use Rattle.outcome_text.proofs.texts.push_row.Given as goal

abbrev pub invariant-loop-value : goal.invariant-loop-value
invariant-loop-value l = string_bytes l.text ≡ string_bytes l.initial.text ++ flat_map (λ value. 9 ∷ printed_value value) (take l.value-index l.rest)
