-- The frames of answers in version 2, computed byte by byte.
use Rattle.std.specs.Prelude.{◌≡◌, [], ◌∷◌, pos, refl}
use Rattle.ae_base.specs.declared.atoms.AtomOf.TheVariants.{Null, Plain}
use Rattle.ae_base.specs.declared.frames.FrameVersion.TheVariants.{V1, V2}
use Rattle.ae_base.specs.declared.values.Datum.TheVariants.{Num}
use Rattle.wire_messages.specs.declared.replies.Done.TheVariants.{Answered}
use Rattle.wire_messages.specs.declared.replies.Reply.TheVariants.{Ended, Row}
use Rattle.wire_payloads.specs.Payloads.{Atoms}
use Rattle.wire_payloads.specs.declared.payloads.Payload.TheVariants.{One, Rows}
use Rattle.wire_encoding.specs.Packing.{packed, payloads_of}

abbrev five : Atoms
five = Plain (Num (pos 5)) ∷ []

abbrev two_wide : Atoms
two_wide = Null ∷ Null ∷ []

-- a row of one number
pub one_row : packed V2 (Row five ∷ [])
    ≡ 0x02 ∷ 0x86 ∷ 0x00 ∷ 0x00 ∷ 0x00 ∷ 0x0d ∷ 0x00 ∷ 0x01 ∷ 0x00 ∷ 0x01 ∷ 0x01 ∷ 0x00 ∷ 0x00 ∷ 0x00 ∷ 0x00 ∷ 0x00 ∷ 0x00 ∷ 0x00 ∷ 0x05 ∷ []
one_row = refl

-- the same in version 1
pub one_row_alone : packed V1 (Row five ∷ [])
    ≡ 0x01 ∷ 0x83 ∷ 0x00 ∷ 0x00 ∷ 0x00 ∷ 0x0b ∷ 0x00 ∷ 0x01 ∷ 0x01 ∷ 0x00 ∷ 0x00 ∷ 0x00 ∷ 0x00 ∷ 0x00 ∷ 0x00 ∷ 0x00 ∷ 0x05 ∷ []
one_row_alone = refl

-- rows share a frame; the end has its own
pub two_rows : payloads_of V2 (Row five ∷ Row five ∷ Ended (Answered 2) ∷ []) ≡ Rows (five ∷ five ∷ []) ∷ One (Ended (Answered 2)) ∷ []
two_rows = refl

-- rows of another width begin a frame
pub another_width : payloads_of V2 (Row five ∷ Row two_wide ∷ []) ≡ Rows (five ∷ []) ∷ Rows (two_wide ∷ []) ∷ []
another_width = refl
