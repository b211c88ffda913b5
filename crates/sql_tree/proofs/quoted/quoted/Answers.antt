use Rattle.std.proofs.Common.{◌≡◌, ◌≤◌, ◌+◌, ℕ, List, Some, None, drop, length, subst, sym, ◌∙◌, arith}
use Rattle.std.proofs.lemmas.List.{take_rest, length-drop}
use Rattle.sql_tree.specs.Reading.{quoted_byte}
use Rattle.sql_tree.proofs.Quotes.{byte_read, all_read}
use Rattle.sql_tree.proofs.quoted.quoted.Goals as goal

pub bytes-preserved : goal.bytes-preserved
bytes-preserved c =
    let bytes = c.args.bytes.now in
    let h : quoted_byte c.args.quote (drop c.bytes.at bytes) ≡ Some (c.in-Some.byte, c.in-Some.len) =
    subst (λ (rest : List ℕ). quoted_byte c.args.quote rest ≡ Some (c.in-Some.byte, c.in-Some.len)) (take_rest bytes c.bytes.at) (sym c.in-Some.ensures.byte) in
    let within : c.bytes.at + c.in-Some.len ≤ length bytes = omega (arith, c.in-Some.ensures.within, length-drop c.bytes.at bytes) in
    rw c.in_ok-push.ensures.items (byte_read c.args.quote bytes c.bytes.text.items c.bytes.at (c.in-Some.byte, c.in-Some.len) c.bytes.invariant h within)

pub returns : goal.returns
returns c =
    let bytes = c.args.bytes.now in
    let h : quoted_byte c.args.quote (drop c.bytes.at bytes) ≡ None =
    subst (λ (rest : List ℕ). quoted_byte c.args.quote rest ≡ None) (take_rest bytes c.bytes.at) (sym c.quoted_byte.ensures.byte ∙ c.in_default.is) in
    let some : 1 ≤ length (drop c.bytes.at bytes) = omega (arith, length-drop c.bytes.at bytes) in
    (all_read c.args.quote bytes c.bytes.text.items c.bytes.at c.bytes.invariant h some, omega arith)
