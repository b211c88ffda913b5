-- The bytes are equal exactly where the characters are.
use Rattle.std.proofs.Common.{sym, ◌∙◌, ap, ◌≡◌, List, ℕ, encode_utf8_all}
use Rattle.std.specs.Str.{bytes_eq, chars, IsUtf8}
use Rattle.std.specs.Bool.{one_answer}
use Rattle.std.proofs.lemmas.Str.{encodes-chars, IsUtf8-string_bytes}
use Rattle.std.proofs.lemmas.Slice.Eq.{bytes_eq-Decides}
use Rattle.ae_base.proofs.texts.TxtPartialEq.eq.Goals as goal

same_bytes : (a b : List ℕ) → IsUtf8 a → IsUtf8 b → bytes_eq a b ≡ bytes_eq (chars a) (chars b)
same_bytes a b u v =
    one_answer (bytes_eq a b) (bytes_eq (chars a) (chars b)) (bytes_eq-Decides a b) (
      (λ e. sym (encodes-chars a u) ∙ ap encode_utf8_all ((bytes_eq-Decides (chars a) (chars b)).0 e) ∙ encodes-chars b v),
      (λ e. (bytes_eq-Decides (chars a) (chars b)).1 (ap chars e)),
    )

pub returns : goal.returns
returns c =
    rw (← c.self.view_is, ← c.other.view_is)
    (c.eq.ensures ∙ same_bytes _ _ (IsUtf8-string_bytes c.self.inside.text) (IsUtf8-string_bytes c.other.inside.text))
