-- Journals of one record, byte by byte: the definition of a plain table, whose request came in version 1, and in version 2.
use Rattle.std.specs.Prelude.{◌≡◌, ℕ, List, [], ◌∷◌, codes, refl}
use lib.Utf8.{encode}
use Rattle.ae_base.specs.declared.frames.FrameVersion.TheVariants.{V1, V2}
use Rattle.wire_messages.specs.declared.requests.Request.{Request}
use Rattle.wire_messages.specs.declared.requests.Request.TheVariants.{Execute}
use Rattle.wire_encoding.specs.Spelling.{request_frame}
use Rattle.journal_core.specs.Journals.{framed, journal_of}

pub empty : journal_of [] ≡ 0x00 ∷ []
empty = refl

abbrev pub asks : Request
asks = Execute 1 0 (codes "CREATE TABLE t (a INT)") []

-- an open gate, how long the record is, its one frame that begins with its version, and a closed gate
abbrev pub with_version : ℕ → List ℕ
with_version byte =
    0x01 ∷ 0x00 ∷ 0x00 ∷ 0x00 ∷ 0x00 ∷ 0x00 ∷ 0x00 ∷ 0x00 ∷ 0x2b
    ∷ byte ∷ 0x02 ∷ 0x00 ∷ 0x00 ∷ 0x00 ∷ 0x25 ∷ 0x00 ∷ 0x01 ∷ 0x00 ∷ 0x00 ∷ 0x00 ∷ 0x00 ∷ 0x00 ∷ 0x00 ∷ 0x00 ∷ 0x00 ∷ 0x00 ∷ 0x00 ∷ 0x00 ∷ 0x16
    ∷ 0x43 ∷ 0x52 ∷ 0x45 ∷ 0x41 ∷ 0x54 ∷ 0x45 ∷ 0x20 ∷ 0x54 ∷ 0x41 ∷ 0x42 ∷ 0x4c ∷ 0x45 ∷ 0x20 ∷ 0x74 ∷ 0x20 ∷ 0x28 ∷ 0x61 ∷ 0x20 ∷ 0x49 ∷ 0x4e ∷ 0x54 ∷ 0x29 ∷ 0x00
    ∷ 0x00 ∷ []

pub one_table : journal_of (request_frame V1 asks ∷ []) ≡ with_version 0x01
unfolding encode framed
one_table = refl

pub one_table_of_version_two : journal_of (request_frame V2 asks ∷ []) ≡ with_version 0x02
unfolding encode framed
one_table_of_version_two = refl
