-- Eight bytes, and as many as they say.
use Rattle.std.proofs.Common.{◌≡◌, ◌≤◌, inl, inr, length, take, ap, ◌∙◌, arith, rules}
use Rattle.std.specs.Int.{w64, from_be_bytes}
use Rattle.std.proofs.lemmas.List.{length-take-le}
use Rattle.std.proofs.lemmas.Nat.{be_bytes_8}
use Rattle.journal_core.proofs.Gates.{takes_fit}
use Rattle.journal_core.proofs.reading.length_of.Goals as goal

pub returns-in_default : goal.returns-in_default
returns-in_default c = inl (search rules)

pub returns-then-len-saturating_sub : goal.returns-then-len-saturating_sub
returns-then-len-saturating_sub c =
    let is : c.from_be_bytes-len.result ≡ from_be_bytes w64 (take 8 c.args.bytes.now) = c.from_be_bytes-len.ensures ∙ ap (from_be_bytes w64) c.in-Some.ensures.cases.0 in
    let long : 8 ≤ length c.args.bytes.now = omega (arith, c.in-Some.ensures.cases.2) in
    record {
      long = long;
      len_is = is;
      spelled = be_bytes_8 (take 8 c.args.bytes.now) c.from_be_bytes-len.result (length-take-le 8 c.args.bytes.now long) (takes_fit 8 c.args.bytes.now (λ i. omega (arith, c.type_inv.bytes i))) is;
      room = search rules;
    }

pub returns-else-len-saturating_sub : goal.returns-else-len-saturating_sub
returns-else-len-saturating_sub c =
    let is : c.from_be_bytes-len.result ≡ from_be_bytes w64 (take 8 c.args.bytes.now) = c.from_be_bytes-len.ensures ∙ ap (from_be_bytes w64) c.in-Some.ensures.cases.0 in
    inr (search (rules, is))
