-- The sixteen bytes stand before those that are still to come.
use Rattle.std.proofs.Common.{◌≡◌, ℕ, ◌+◌, ◌-◌, List, take, drop, sym, arith, length-drop}
use Rattle.std.proofs.lemmas.List.{drop-drop}
use Rattle.ae_edge.proofs.memory.entropy.MemEntropyEntropy.draw.Goals as goal

sixteen : (at : ℕ) (drawn whole bytes : List ℕ) → whole ≡ bytes → drawn ≡ take (at + 16 - at) (drop at whole) → drawn ≡ take 16 (drop at bytes)
sixteen at drawn whole bytes e is = let n : at + 16 - at ≡ 16 = omega arith in rw (← e, ← n) is

pub returns-clause-content : goal.returns-clause-content
returns-clause-content c =
    let at = c.self.inside.at in
    let bytes = c.self.inside.bytes.items in
    rw (← c.self.view_is) (
      omega (arith, length-drop at bytes),
      sixteen at _ _ bytes c.deref.ensures.value c.copy_from_slice.ensures.after,
      sym (drop-drop 16 at bytes),
    )

pub returns-clause-state : goal.returns-clause-state
returns-clause-state c =
    let gone = drop-drop 16 c.self.inside.at c.self.inside.bytes.items in
    rw (← c.self.view_is, c.next.ensures.counted, gone)
