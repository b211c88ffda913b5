-- The three cuts are one at byte 49.
use Rattle.std.proofs.lemmas.List.{drop-drop}
use Rattle.cell_codec.proofs.unsealing.parts_of.Goals as goal

pub returns-clause-ciphertext : goal.returns-clause-ciphertext
returns-clause-ciphertext c =
    let cell = c.args.cell.now in
    cc (c.in_ok-iv.ensures.cases.1, c.in_ok-tag.ensures.cases.1, c.in_ok-rest.ensures.cases.1, drop-drop 32 1 cell, drop-drop 16 33 cell)
