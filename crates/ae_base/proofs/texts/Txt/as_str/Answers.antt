-- A String is UTF-8, so its characters are scalar values and spell its bytes again.
use Rattle.std.proofs.Common.{sym, ◌∙◌}
use Rattle.std.proofs.lemmas.Str.{encodes-chars, scalars-chars, IsUtf8-string_bytes}
use Rattle.ae_base.proofs.texts.Txt.as_str.Goals as goal

pub returns-clause-bytes : goal.returns-clause-bytes
returns-clause-bytes c = rw (← c.self.view_is) (c.as_str.ensures.value ∙ sym (encodes-chars _ (IsUtf8-string_bytes c.self.inside.text)))

pub returns-clause-scalars : goal.returns-clause-scalars
returns-clause-scalars c = rw (← c.self.view_is) (scalars-chars _ (IsUtf8-string_bytes c.self.inside.text))
