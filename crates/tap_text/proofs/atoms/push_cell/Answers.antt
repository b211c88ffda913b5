-- The number of the cell is shown, and it is seen.
use Rattle.std.proofs.Common.{string_bytes, sym}
use Rattle.tap_text.proofs.Past.{numbered_written, on_ok}
use Rattle.tap_text.proofs.atoms.push_cell.Goals as goal

pub returns-in_ok-number-in-Deterministic : goal.returns-in_ok-number-in-Deterministic
returns-in_ok-number-in-Deterministic c =
    on_ok _ _ c.push_numbered.result
    (numbered_written c.args.page c.args.class.now (sym c.in-Deterministic.ensures) c.args.cell.now
    c.bytes-in-Deterministic.result.now c.in_ok-to_cell-in-Deterministic.field-0 c.bytes-in-Deterministic.ensures
    c.in_ok-to_cell-in-Deterministic.ensures c.args.numbers.now c.number.new.self
    c.in_ok-number-in-Deterministic.number (string_bytes c.args.text.now) (string_bytes c.push_numbered.new.text)
    c.in_ok-number-in-Deterministic.ensures.number c.in_ok-number-in-Deterministic.ensures.seen) c.push_numbered.ensures
