use Rattle.std.proofs.Common.{subst}
use Rattle.std.specs.Prelude.{◌≡◌, IfOk}
use Rattle.script_lang.proofs.OneToken.{table_is, never_none, never_wide}
use Rattle.script_lang.proofs.tables.unreserved.Goals as goal

pub returns-in-Ok : goal.returns-in-Ok
returns-in-Ok c =
    let e = c.as_slice.ensures in
    subst (λ table. IfOk c.sole_name.result (λ name. name ≡ table)) (table_is c.args.word.now c.as_slice.result.now c.requires (rw e c.in-Ok.ensures.0)) c.sole_name.ensures

pub returns-in-Err-NotTokens : goal.returns-in-Err-NotTokens
returns-in-Err-NotTokens c =
    let h = rw c.in-Err-NotTokens.field-0-is at c.in-Err-NotTokens.ensures in
    absurd (never_none c.args.word.now c.requires h)

pub returns-in-Err-NumberTooWide : goal.returns-in-Err-NumberTooWide
returns-in-Err-NumberTooWide c =
    let h = rw c.in-Err-NumberTooWide.field-0-is at c.in-Err-NumberTooWide.ensures in
    absurd (never_wide _ _ c.args.word.now h.0 c.requires h.1 h.2)
