-- The lines so far stand at the end.
use Rattle.std.proofs.Common.{◌≡◌, ◌++◌, flat_map, string_bytes, take}
use Rattle.tap_text.specs.Text.{declaration_text}
use Rattle.tap_text.proofs.words.push_declarations.Given as goal

abbrev pub invariant-loop-declaration : goal.invariant-loop-declaration
invariant-loop-declaration l = string_bytes l.text ≡ string_bytes l.fn.text ++ flat_map (declaration_text l.page) (take l.declaration-index l.declarations)
