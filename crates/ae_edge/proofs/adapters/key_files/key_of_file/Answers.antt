-- The line decodes exactly where the content is a key.
use Rattle.ae_edge.proofs.KeyContents.{key_of_line}
use Rattle.ae_edge.proofs.adapters.key_files.key_of_file.Goals as goal

pub returns : goal.returns
returns c =
    rw c.ok.ensures.value (key_of_line c.without_line_end.result.now c.args.content.now c.from_hex.result c.without_line_end.ensures c.from_hex.ensures)
