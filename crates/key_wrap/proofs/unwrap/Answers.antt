use Rattle.std.proofs.Common.{◌∙◌, ap, sym, arith, List, ℕ, Some, drop, true, false, ◌≡◌, length}
use Rattle.std.proofs.lemmas.Slice.Eq.{bytes_eq-Decides}
use Rattle.std.specs.Str.{bytes_eq}
use Rattle.std.specs.List.{concat}
use Rattle.key_wrap.specs.Wrap.{register, initial_value, unwrapped_registers}
use Rattle.key_wrap.proofs.Rounds.{four_left, unwrapped-none, unwrapped-some, wrapped-again}
use Rattle.key_wrap.proofs.unwrap.Goals as goal

pub returns-then-eq-clause-exact : goal.returns-then-eq-clause-exact
returns-then-eq-clause-exact c =
    let value = c.unwrapped_registers-registers.ensures.value in
    let test : bytes_eq (register (unwrapped_registers c.args.kek.now c.args.bytes.now) 0) initial_value ≡ true =
    ap (λ (s : List (List ℕ)). bytes_eq (register s 0) initial_value) (sym value) ∙ sym c.eq.ensures ∙ c.if-eq.true in
    let five : length c.unwrapped_registers-registers.result ≡ 5 = omega arith in
    ap (λ (key : List ℕ). Some key) (c.key_of.ensures.value ∙ ap concat (sym (four_left _ five) ∙ ap (λ (s : List (List ℕ)). drop 1 s) value))
    ∙ sym (unwrapped-some _ _ c.told-bytes test)

pub returns-then-eq-clause-undoes : goal.returns-then-eq-clause-undoes
returns-then-eq-clause-undoes c =
    let five : length c.unwrapped_registers-registers.result ≡ 5 = omega arith in
    let first = (bytes_eq-Decides (register c.unwrapped_registers-registers.result 0) initial_value).0 (sym c.eq.ensures ∙ c.if-eq.true) in
    wrapped-again _ _ _ _ five first (c.key_of.ensures.cut ∙ sym (four_left _ five)) c.unwrapped_registers-registers.ensures.undoes c.told-bytes

pub returns-else-eq-clause-exact : goal.returns-else-eq-clause-exact
returns-else-eq-clause-exact c =
    let test : bytes_eq (register (unwrapped_registers c.args.kek.now c.args.bytes.now) 0) initial_value ≡ false =
    ap (λ (s : List (List ℕ)). bytes_eq (register s 0) initial_value) (sym c.unwrapped_registers-registers.ensures.value) ∙ sym c.eq.ensures ∙ c.if-eq.false in
    sym (unwrapped-none _ _ c.told-bytes test)
