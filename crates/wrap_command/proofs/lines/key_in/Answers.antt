-- The line decodes exactly where the input is a key.
use Rattle.wrap_command.proofs.KeyLines.{found_by_line}
use Rattle.wrap_command.proofs.lines.key_in.Goals as goal

pub returns : goal.returns
returns c =
    rw c.ok.ensures.value (found_by_line c.without_line_end.result.now c.args.input.now c.from_hex.result c.without_line_end.ensures c.from_hex.ensures)
