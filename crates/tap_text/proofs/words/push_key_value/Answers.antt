-- The path and the wrapped key stand between their words.
use Rattle.std.proofs.Common.{◌++◌, ◌∙◌, ap, string_bytes}
use Rattle.tap_text.specs.Text.{hex_text, quoted_text}
use Rattle.tap_text.proofs.Shown.{five_texts}
use Rattle.tap_text.proofs.words.push_key_value.Goals as goal

pub returns : goal.returns
returns c =
    five_texts (string_bytes c.args.text.now) _ _ _ _ _ _ _ _ _ _ c.in_ok-push_str.ensures.bytes
    (c.in_ok-push_quoted.ensures ∙ ap (λ n. string_bytes c.push_str.new.self ++ quoted_text c.args.page n) (c.as_str.ensures.characters ∙ c.path.ensures))
    c.in_ok-push_str-2.ensures.bytes
    (c.in_ok-push_hex.ensures ∙ ap (λ n. string_bytes c.push_str-2.new.self ++ hex_text n) c.wrapped.ensures.bytes)
    c.in_ok-push_str-3.ensures.bytes
