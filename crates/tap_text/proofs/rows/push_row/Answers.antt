-- The atoms stand between four spaces and a bar.
use Rattle.std.proofs.Common.{List, [], ◌∷◌, ◌++◌, codes, string_bytes, subst}
use Rattle.ae_base.specs.Atoms.{Atom}
use Rattle.tap_listing.specs.Frames.{row_spots}
use Rattle.tap_text.specs.Text.{row_text}
use Rattle.tap_text.specs.Writing.{Writes}
use Rattle.tap_text.proofs.Rowwise.{between}
use Rattle.tap_text.proofs.rows.push_row.Goals as goal

pub returns : goal.returns
returns c =
    let classes = c.args.classes.now in
    let row = c.args.row.now in
    between c.args.numbers.now c.push_atoms.new.numbers (string_bytes c.args.text.now) (string_bytes c.push_str.new.self)
    (string_bytes c.push_atoms.new.text) (string_bytes c.push_str-2.new.self) (codes "    ") (codes "|" ++ 10 ∷ [])
    (row_text c.args.page classes row) (row_spots classes row) c.in_ok-push_str.ensures.bytes
    (subst (λ (l : List Atom). Writes (row_text c.args.page classes l) (row_spots classes l) c.args.numbers.now
    c.push_atoms.new.numbers (string_bytes c.push_str.new.self) (string_bytes c.push_atoms.new.text)) c.atoms.ensures.atoms c.in_ok-push_atoms.ensures)
    c.in_ok-push_str-2.ensures.bytes
