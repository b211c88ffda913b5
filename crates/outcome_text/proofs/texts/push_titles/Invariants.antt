-- The names so far stand after the first, each after a tab.
use Rattle.std.proofs.Common.{◌≡◌, ◌++◌, ◌∷◌, flat_map, string_bytes, encode_utf8_all, take}
use Rattle.outcome_text.proofs.texts.push_titles.Given as goal

abbrev pub invariant-loop-name : goal.invariant-loop-name
invariant-loop-name l = string_bytes l.text ≡ string_bytes l.initial.text ++ flat_map (λ name. 9 ∷ encode_utf8_all name) (take l.name-index l.rest)
