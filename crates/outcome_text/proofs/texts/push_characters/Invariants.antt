-- What is left, as it is printed, makes the text whole.
use Rattle.std.proofs.Common.{◌≡◌, ◌++◌, length, string_bytes, codes, encode_utf8_all}
use Rattle.std.specs.Str.{chars, IsUtf8}
use Rattle.outcome_text.specs.Printing.{doubled}
use Rattle.outcome_text.proofs.texts.push_characters.Given as goal

abbrev pub invariant-loop-before : goal.invariant-loop-before
invariant-loop-before l =
    IsUtf8 l.rest
    × (string_bytes l.text ++ encode_utf8_all (doubled (chars l.rest)) ≡ string_bytes l.fn.text ++ codes "N'" ++ encode_utf8_all (doubled (chars l.fn.characters)))

abbrev pub decreases-loop-before : goal.decreases-loop-before
decreases-loop-before l = length l.rest
