use Rattle.std.proofs.Common.{ap, sym, ◌∙◌, ◌<◌, ◌≡◌, ◌%◌, ℕ, List, Option, length}
use Rattle.std.specs.Option.{ok_or}
use Rattle.cbc_mode.specs.declared.CbcFault.TheVariants.{NotPadded}
use Rattle.cbc_mode.proofs.Padding.{cbc-unpadded}
use Rattle.cbc_mode.proofs.Decrypting.{decrypted_cbc-bad, decrypted_cbc-whole, from_whole_test}
use Rattle.cbc_mode.proofs.decrypt.Goals as goal

pub returns-then-not-is_whole_blocks-clause-exact : goal.returns-then-not-is_whole_blocks-clause-exact
returns-then-not-is_whole_blocks-clause-exact c = decrypted_cbc-bad _ _ _ (sym c.is_whole_blocks.ensures ∙ c.if-not-is_whole_blocks.true)

pub returns-in_default-clause-exact : goal.returns-in_default-clause-exact
returns-in_default-clause-exact c =
    decrypted_cbc-whole _ _ _ _ (sym c.is_whole_blocks.ensures ∙ c.if-not-is_whole_blocks.false) (c.deref.ensures.value ∙ c.in_ok-plaintext.ensures.value)
    ∙ ap (λ (o : Option (List ℕ)). ok_or o NotPadded) c.in_default.ensures

pub returns-clause-exact : goal.returns-clause-exact
returns-clause-exact c =
    rw (c.truncate.ensures.items, ← c.deref.ensures.value)
    (decrypted_cbc-whole _ _ _ _ (sym c.is_whole_blocks.ensures ∙ c.if-not-is_whole_blocks.false) (c.deref.ensures.value ∙ c.in_ok-plaintext.ensures.value)
    ∙ ap (λ (o : Option (List ℕ)). ok_or o NotPadded) c.in-Some.ensures)

pub returns-clause-undoes : goal.returns-clause-undoes
returns-clause-undoes c =
    let whole = from_whole_test c.args.bytes.now (sym c.is_whole_blocks.ensures ∙ c.if-not-is_whole_blocks.false) in
    let even : length c.in_ok-plaintext.plaintext.items % 16 ≡ 0 = rw c.in_ok-plaintext.ensures.len whole.even in
    let there : 0 < length c.in_ok-plaintext.plaintext.items = rw c.in_ok-plaintext.ensures.len whole.there in
    let plain = rw c.deref.ensures.value at c.in-Some.ensures in
    rw c.truncate.ensures.items (cbc-unpadded _ _ _ _ _ even there plain c.in_ok-plaintext.ensures.undoes)
