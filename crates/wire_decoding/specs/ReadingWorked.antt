-- Bodies of descriptions, byte by byte, whose keys have several entries, and of rows that share a frame.
use Rattle.std.specs.Prelude.{◌≡◌, ℕ, List, [], ◌∷◌, Some, None, codes, pos, refl}
use Rattle.std.specs.Str.{chars, is_utf8}
use lib.Utf8.{encode}
use Rattle.ae_base.specs.declared.atoms.AtomOf.TheVariants.{Null, Plain}
use Rattle.ae_base.specs.declared.frames.FrameVersion.TheVariants.{V1, V2}
use Rattle.ae_base.specs.declared.types.Enc.TheVariants.{Det}
use Rattle.ae_base.specs.declared.values.Datum.TheVariants.{Num}
use Rattle.wire_messages.specs.declared.replies.Reply.{Reply}
use Rattle.wire_messages.specs.declared.replies.Reply.TheVariants.{Described}
use Rattle.wire_payloads.specs.Batches.{Atoms}
use Rattle.wire_payloads.specs.declared.payloads.Payload.TheVariants.{Rows}
use Rattle.wire_decoding.specs.Reading.{
  atom_at,
  batch_at,
  payload_at,
  rows_at,
  shared_row_at,
  reply_at,
  described_at,
  keys_at,
  entry_at,
  used_params_at,
  used_at,
  few_at,
  parts_at,
  encryption_at,
  key_id_at,
  name_at,
  path_at,
  wrapped_at,
  param_name_at,
  str_at,
  blob_at,
}

abbrev two_valued : Reply
two_valued = Described (record {
  version = 3;
  keys = record {
    id = 1;
    name = codes "K";
    values = record {
      first = record { path = codes "m"; wrapped = 1 ∷ [] };
      second = Some (record { path = codes "n"; wrapped = 2 ∷ [] });
    };
  } ∷ [];
  params = record { name = codes "p"; enc = Det 1 } ∷ [];
})

-- two entries of one number and one name are one key of two values
pub two_values : reply_at 0x81 (
    0x00 ∷ 0x00 ∷ 0x00 ∷ 0x00 ∷ 0x00 ∷ 0x00 ∷ 0x00 ∷ 0x03 ∷ 0x02
    ∷ 0x00 ∷ 0x00 ∷ 0x00 ∷ 0x01 ∷ 0x00 ∷ 0x01 ∷ 0x4b ∷ 0x00 ∷ 0x01 ∷ 0x6d ∷ 0x00 ∷ 0x01 ∷ 0x01
    ∷ 0x00 ∷ 0x00 ∷ 0x00 ∷ 0x01 ∷ 0x00 ∷ 0x01 ∷ 0x4b ∷ 0x00 ∷ 0x01 ∷ 0x6e ∷ 0x00 ∷ 0x01 ∷ 0x02
    ∷ 0x01 ∷ 0x00 ∷ 0x01 ∷ 0x70 ∷ 0x01 ∷ 0x00 ∷ 0x00 ∷ 0x00 ∷ 0x01 ∷ []
    ) ≡ Some two_valued
unfolding is_utf8 chars encode reply_at described_at keys_at entry_at used_params_at used_at few_at parts_at encryption_at key_id_at name_at path_at wrapped_at param_name_at str_at blob_at
two_values = refl

-- a third one
pub three_values : reply_at 0x81 (
    0x00 ∷ 0x00 ∷ 0x00 ∷ 0x00 ∷ 0x00 ∷ 0x00 ∷ 0x00 ∷ 0x03 ∷ 0x03
    ∷ 0x00 ∷ 0x00 ∷ 0x00 ∷ 0x01 ∷ 0x00 ∷ 0x01 ∷ 0x4b ∷ 0x00 ∷ 0x01 ∷ 0x6d ∷ 0x00 ∷ 0x01 ∷ 0x01
    ∷ 0x00 ∷ 0x00 ∷ 0x00 ∷ 0x01 ∷ 0x00 ∷ 0x01 ∷ 0x4b ∷ 0x00 ∷ 0x01 ∷ 0x6e ∷ 0x00 ∷ 0x01 ∷ 0x02
    ∷ 0x00 ∷ 0x00 ∷ 0x00 ∷ 0x01 ∷ 0x00 ∷ 0x01 ∷ 0x4b ∷ 0x00 ∷ 0x01 ∷ 0x6f ∷ 0x00 ∷ 0x01 ∷ 0x04
    ∷ 0x01 ∷ 0x00 ∷ 0x01 ∷ 0x70 ∷ 0x01 ∷ 0x00 ∷ 0x00 ∷ 0x00 ∷ 0x01 ∷ []
    ) ≡ None
unfolding is_utf8 chars encode reply_at described_at keys_at entry_at used_params_at used_at few_at parts_at encryption_at key_id_at name_at path_at wrapped_at param_name_at str_at blob_at
three_values = refl

-- another name
pub two_names : reply_at 0x81 (
    0x00 ∷ 0x00 ∷ 0x00 ∷ 0x00 ∷ 0x00 ∷ 0x00 ∷ 0x00 ∷ 0x03 ∷ 0x02
    ∷ 0x00 ∷ 0x00 ∷ 0x00 ∷ 0x01 ∷ 0x00 ∷ 0x01 ∷ 0x4b ∷ 0x00 ∷ 0x01 ∷ 0x6d ∷ 0x00 ∷ 0x01 ∷ 0x01
    ∷ 0x00 ∷ 0x00 ∷ 0x00 ∷ 0x01 ∷ 0x00 ∷ 0x01 ∷ 0x4c ∷ 0x00 ∷ 0x01 ∷ 0x6e ∷ 0x00 ∷ 0x01 ∷ 0x02
    ∷ 0x01 ∷ 0x00 ∷ 0x01 ∷ 0x70 ∷ 0x01 ∷ 0x00 ∷ 0x00 ∷ 0x00 ∷ 0x01 ∷ []
    ) ≡ None
unfolding is_utf8 chars encode reply_at described_at keys_at entry_at used_params_at used_at few_at parts_at encryption_at key_id_at name_at path_at wrapped_at param_name_at str_at blob_at
two_names = refl

-- another key between them
pub values_apart : reply_at 0x81 (
    0x00 ∷ 0x00 ∷ 0x00 ∷ 0x00 ∷ 0x00 ∷ 0x00 ∷ 0x00 ∷ 0x03 ∷ 0x03
    ∷ 0x00 ∷ 0x00 ∷ 0x00 ∷ 0x01 ∷ 0x00 ∷ 0x01 ∷ 0x4b ∷ 0x00 ∷ 0x01 ∷ 0x6d ∷ 0x00 ∷ 0x01 ∷ 0x01
    ∷ 0x00 ∷ 0x00 ∷ 0x00 ∷ 0x02 ∷ 0x00 ∷ 0x01 ∷ 0x4a ∷ 0x00 ∷ 0x01 ∷ 0x6d ∷ 0x00 ∷ 0x01 ∷ 0x03
    ∷ 0x00 ∷ 0x00 ∷ 0x00 ∷ 0x01 ∷ 0x00 ∷ 0x01 ∷ 0x4b ∷ 0x00 ∷ 0x01 ∷ 0x6e ∷ 0x00 ∷ 0x01 ∷ 0x02
    ∷ 0x02 ∷ 0x00 ∷ 0x01 ∷ 0x70 ∷ 0x01 ∷ 0x00 ∷ 0x00 ∷ 0x00 ∷ 0x01 ∷ 0x00 ∷ 0x01 ∷ 0x71 ∷ 0x01 ∷ 0x00 ∷ 0x00 ∷ 0x00 ∷ 0x02 ∷ []
    ) ≡ None
unfolding is_utf8 chars encode reply_at described_at keys_at entry_at used_params_at used_at few_at parts_at encryption_at key_id_at name_at path_at wrapped_at param_name_at str_at blob_at
values_apart = refl

-- ---- rows

abbrev five : Atoms
five = Plain (Num (pos 5)) ∷ []

abbrev none : Atoms
none = Null ∷ []

abbrev two_rows_body : List ℕ
two_rows_body = 0x00 ∷ 0x02 ∷ 0x00 ∷ 0x01 ∷ 0x01 ∷ 0x00 ∷ 0x00 ∷ 0x00 ∷ 0x00 ∷ 0x00 ∷ 0x00 ∷ 0x00 ∷ 0x05 ∷ 0x00 ∷ []

-- two rows of one atom share a frame of version 2
pub two_rows : payload_at V2 0x86 two_rows_body ≡ Some (Rows (five ∷ none ∷ []))
unfolding payload_at batch_at rows_at shared_row_at parts_at atom_at
two_rows = refl

-- but none of version 1
pub two_rows_in_1 : payload_at V1 0x86 two_rows_body ≡ None
unfolding payload_at reply_at
two_rows_in_1 = refl

-- a frame has a row at least
pub no_rows : payload_at V2 0x86 (0x00 ∷ 0x00 ∷ 0x00 ∷ 0x01 ∷ []) ≡ None
unfolding payload_at batch_at rows_at shared_row_at parts_at atom_at
no_rows = refl

-- no row has a frame of its own in version 2
pub row_alone : payload_at V2 0x83 (0x00 ∷ 0x01 ∷ 0x00 ∷ []) ≡ None
unfolding payload_at
row_alone = refl
