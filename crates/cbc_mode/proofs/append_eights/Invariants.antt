use Rattle.std.proofs.Common.{take}
use Rattle.std.specs.List.{flat_map}
use Rattle.cbc_mode.proofs.Unchaining.{IsAppended}
use Rattle.cbc_mode.proofs.append_eights.Given as goal

abbrev pub invariant-loop-eight : goal.invariant-loop-eight
invariant-loop-eight l = IsAppended l.key l.fn.iv (flat_map (λ blocks. blocks) (take l.eight-index l.eights)) l.previous l.fn.plaintext.items l.plaintext.items
