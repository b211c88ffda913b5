-- Each exit is the fault whose test failed.
use Rattle.std.proofs.Common.{◌∙◌, Ok, Err}
use Rattle.cbc_mode.specs.declared.CbcFault.TheVariants.{BadLength, NotPadded}
use Rattle.cell_codec.proofs.Opening.{unsealed-version, unsealed-length, unsealed-tag, unsealed-opened}
use Rattle.cell_codec.proofs.unsealing.unseal_bytes.Goals as goal

pub returns-then-lead-ne-VERSION-clause-exact : goal.returns-then-lead-ne-VERSION-clause-exact
returns-then-lead-ne-VERSION-clause-exact c = unsealed-version _ _ (λ first. c.if-lead-ne-VERSION.true (c.lead.ensures ∙ first))

pub returns-in_default-clause-exact : goal.returns-in_default-clause-exact
returns-in_default-clause-exact c = unsealed-length _ _ (cc) (cc c.in_default.ensures.length)

pub returns-then-not-are_equal-clause-exact : goal.returns-then-not-are_equal-clause-exact
returns-then-not-are_equal-clause-exact c =
    unsealed-tag _ _ (cc) (cc c.in-Some.ensures.length) (cc (c.in-Some.ensures.tag, c.in-Some.ensures.iv, c.in-Some.ensures.ciphertext))

pub returns-in-Ok-clause-exact : goal.returns-in-Ok-clause-exact
returns-in-Ok-clause-exact c =
    unsealed-opened _ _ (cc) (cc c.in-Some.ensures.length) (cc (c.in-Some.ensures.tag, c.in-Some.ensures.iv, c.in-Some.ensures.ciphertext))
    (Ok c.in-Ok.bytes.items) (cc (c.in-Some.ensures.iv, c.in-Some.ensures.ciphertext, c.in-Ok.ensures.exact))

pub returns-in-Err-BadLength-clause-exact : goal.returns-in-Err-BadLength-clause-exact
returns-in-Err-BadLength-clause-exact c =
    unsealed-opened _ _ (cc) (cc c.in-Some.ensures.length) (cc (c.in-Some.ensures.tag, c.in-Some.ensures.iv, c.in-Some.ensures.ciphertext))
    (Err BadLength) (cc (c.in-Some.ensures.iv, c.in-Some.ensures.ciphertext, (rw c.in-Err-BadLength.field-0-is at c.in-Err-BadLength.ensures.exact)))

pub returns-in-Err-NotPadded-clause-exact : goal.returns-in-Err-NotPadded-clause-exact
returns-in-Err-NotPadded-clause-exact c =
    unsealed-opened _ _ (cc) (cc c.in-Some.ensures.length) (cc (c.in-Some.ensures.tag, c.in-Some.ensures.iv, c.in-Some.ensures.ciphertext))
    (Err NotPadded) (cc (c.in-Some.ensures.iv, c.in-Some.ensures.ciphertext, (rw c.in-Err-NotPadded.field-0-is at c.in-Err-NotPadded.ensures.exact)))
