-- The first entry that is left has the path, or the others are looked at.
use Rattle.std.proofs.Common.{◌≡◌, ℕ, ◌+◌, ◌<◌, List, length, get_or, drop, true, false, cond, Some, sym, ap, ◌∙◌}
use Rattle.std.proofs.lemmas.List.{at_drop_more, at_drop_all}
use Rattle.std.specs.Str.{bytes_eq}
use Rattle.ae_edge.specs.Vaults.{KeyMap, key_at}
use Rattle.ae_edge.proofs.memory.vault.key_at.Goals as goal

key_at-drop : (keys : KeyMap) (path : List ℕ) (i : ℕ) (entry : List ℕ × List ℕ) → i < length keys → entry ≡ get_or keys i entry
    → key_at (drop i keys) path ≡ cond (bytes_eq entry.0 path) (Some entry.1) (key_at (drop (i + 1) keys) path)
key_at-drop keys path i entry lt is =
    at_drop_more (λ ks. key_at ks path) keys i entry lt
    ∙ ap (λ (e : List ℕ × List ℕ). cond (bytes_eq e.0 path) (Some e.1) (key_at (drop (i + 1) keys) path)) (sym is)

pub returns-then-eq : goal.returns-then-eq
returns-then-eq c =
    let e = key_at-drop c.args.keys.now c.args.path.now _ _ c.loop-other-test.true c.loop-other-item.is in
    let b : bytes_eq c.loop-other-item.result.0 c.args.path.now ≡ true = cc in
    sym (sym c.loop-other.invariant ∙ (rw b at e))

pub loop-other-preserved : goal.loop-other-preserved
loop-other-preserved c =
    let e = key_at-drop c.args.keys.now c.args.path.now _ _ c.loop-other-test.true c.loop-other-item.is in
    let b : bytes_eq c.loop-other-item.result.0 c.args.path.now ≡ false = cc in
    sym (rw b at e) ∙ c.loop-other.invariant

pub returns : goal.returns
returns c =
    sym (at_drop_all (λ ks. key_at ks c.args.path.now) c.args.keys.now c.loop-other.other-index c.loop-other-test.false) ∙ c.loop-other.invariant
