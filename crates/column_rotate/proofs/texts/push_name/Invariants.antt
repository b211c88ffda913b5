-- The characters so far, each closing bracket twice.
use Rattle.std.proofs.Common.{◌≡◌, ◌++◌, codes, flat_map, string_bytes}
use Rattle.column_rotate.proofs.Spelled.{bracketed_bytes}
use Rattle.column_rotate.proofs.texts.push_name.Given as goal

abbrev pub invariant-loop-c : goal.invariant-loop-c
invariant-loop-c l = string_bytes l.text ≡ (string_bytes l.fn.text ++ codes "[") ++ flat_map bracketed_bytes l.yielded
