-- The cell of the atom is shown.
use Rattle.std.proofs.Common.{OnOk, ap, subst, sym, ◌∙◌, string_bytes}
use Rattle.ae_base.specs.Atoms.{Atom}
use Rattle.tap_listing.specs.Frames.{atom_spots}
use Rattle.tap_text.specs.Text.{atom_text}
use Rattle.tap_text.specs.Writing.{Writes}
use Rattle.tap_text.proofs.atoms.push_atom.Goals as goal
use Rattle.wire_parts.specs.Atoms.{atom_of}

pub returns-in-Sealed : goal.returns-in-Sealed
returns-in-Sealed c =
    subst (λ (a : Atom). OnOk c.push_cell.result
    (Writes (atom_text c.args.page c.args.class.now a) (atom_spots c.args.class.now a) c.args.numbers.now
    c.push_cell.new.numbers (string_bytes c.args.text.now) (string_bytes c.push_cell.new.text)))
    (sym (ap atom_of c.in-Sealed.is) ∙ c.case.ensures.atom) c.push_cell.ensures
