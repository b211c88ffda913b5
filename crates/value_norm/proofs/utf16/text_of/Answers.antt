-- The text that the units spell is that of the bytes.
use Rattle.std.proofs.Common.{sym}
use Rattle.value_norm.proofs.Units.{text_spelled, text_scalars, odd_spells_none, unpaired_spells_none}
use Rattle.value_norm.proofs.utf16.text_of.Goals as goal

pub returns-then-bytes-ne0-clause-not_normal : goal.returns-then-bytes-ne0-clause-not_normal
returns-then-bytes-ne0-clause-not_normal c = λ _. odd_spells_none _ c.if-bytes-ne0.true

pub returns-in-Ok-clause-text : goal.returns-in-Ok-clause-text
returns-in-Ok-clause-text c =
    let spelled = rw (c.deref.ensures.value, c.in-Ok.is) at c.in_ok-text.ensures.ok in
    text_spelled c.in-Ok.text c.in_ok-units.units.items _ _ spelled (c.in_ok-units.ensures c.if-bytes-ne0.false) c.from_string.ensures

pub returns-in-Ok-clause-scalars : goal.returns-in-Ok-clause-scalars
returns-in-Ok-clause-scalars c = text_scalars c.in-Ok.text _ c.from_string.ensures

pub returns-clause-not_normal : goal.returns-clause-not_normal
returns-clause-not_normal c =
    let unpaired = rw (c.deref.ensures.value, c.in-Err.is) at c.in_ok-text.ensures.unpaired in
    λ _. unpaired_spells_none c.in_ok-units.units.items _ (c.in_ok-units.ensures c.if-bytes-ne0.false) (sym unpaired)
