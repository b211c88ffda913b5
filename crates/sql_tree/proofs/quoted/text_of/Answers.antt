use Rattle.std.proofs.Common.{◌≡◌, ◌∙◌, ap, subst, refl, string_bytes}
use Rattle.std.specs.Str.{IsUtf8, is_utf8, chars}
use Rattle.std.proofs.lemmas.Str.{is_utf8-from_IsUtf8, IsUtf8-string_bytes}
use Rattle.sql_tree.proofs.Quotes.{no_utf8}
use Rattle.sql_tree.proofs.quoted.text_of.Goals as goal

pub returns-in-Ok : goal.returns-in-Ok
returns-in-Ok c =
    let same : string_bytes c.in-Ok.text ≡ c.args.bytes.items = ap (λ v. v.items) c.in-Ok.ensures.ok in
    (is_utf8-from_IsUtf8 c.args.bytes.items (subst IsUtf8 same (IsUtf8-string_bytes c.in-Ok.text)), c.from_string.ensures ∙ ap chars same)

pub returns : goal.returns
returns c = no_utf8 c.args.bytes.items (is_utf8 c.args.bytes.items) refl c.in-Err.ensures.succeeds
