-- The body follows the header.
use Rattle.std.proofs.Common.{◌≡◌, [], ◌∷◌, ◌++◌, arith, ap, length, length-append}
use Rattle.std.specs.List.{flat_map}
use Rattle.wire_encoding.specs.Packing.{rows_body}
use Rattle.wire_encoding.specs.Sharing.{row_of, rows_of}
use Rattle.wire_encoding.specs.Spelling.{atom, u16}
use Rattle.wire_encoding.proofs.Mending.{framed}
use Rattle.wire_encoding.proofs.Sharing.{body_spelled, rows_meet}
use Rattle.wire_encoding.proofs.packing.push_rows.Goals as goal

pub mend_length-requires-clause-length : goal.mend_length-requires-clause-length
mend_length-requires-clause-length c =
    let rows = c.args.rows.now in
    let header = c.version_byte.result ∷ 0x86 ∷ 0 ∷ 0 ∷ 0 ∷ 0 ∷ [] in
    let items = framed c.args.out.now.items header (u16 (length rows) ++ u16 c.args.columns) (flat_map (λ r. flat_map (flat_map atom) (row_of r)) rows) (rows_body (rows_of rows))
    c.extend_from_slice.new.self.items c.push_shape.new.out.items c.push_all.new.out.items
    c.in_ok-extend_from_slice.ensures.items c.in_ok-push_shape.ensures c.in_ok-push_all.ensures.bytes (body_spelled rows c.args.columns c.requires.share) in
    omega (arith, ap length items, c.len-start.ensures, c.requires.share.short, length-append (c.args.out.now.items ++ header) (rows_body (rows_of rows)), length-append c.args.out.now.items header)

pub returns-clause-bytes : goal.returns-clause-bytes
returns-clause-bytes c =
    let rows = c.args.rows.now in
    let header = c.version_byte.result ∷ 0x86 ∷ 0 ∷ 0 ∷ 0 ∷ 0 ∷ [] in
    let items = framed c.args.out.now.items header (u16 (length rows) ++ u16 c.args.columns) (flat_map (λ r. flat_map (flat_map atom) (row_of r)) rows) (rows_body (rows_of rows))
    c.extend_from_slice.new.self.items c.push_shape.new.out.items c.push_all.new.out.items
    c.in_ok-extend_from_slice.ensures.items c.in_ok-push_shape.ensures c.in_ok-push_all.ensures.bytes (body_spelled rows c.args.columns c.requires.share) in
    let start : length c.args.out.now.items ≡ c.len-start.result = omega (arith, c.len-start.ensures) in
    let framed_so = c.mend_length.ensures c.args.out.now.items (rows_body (rows_of rows)) c.version_byte.result 0x86 start items in
    rw c.version_byte.ensures at framed_so

pub returns-clause-meets : goal.returns-clause-meets
returns-clause-meets c = rows_meet c.args.rows.now c.in_ok-push_all.ensures.meet
