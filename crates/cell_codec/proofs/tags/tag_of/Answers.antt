-- The pieces are the message that the MAC is taken of.
use Rattle.cell_codec.specs.Cells.{tag_of}
use Rattle.cell_codec.proofs.tags.tag_of.Goals as goal

pub returns : goal.returns
unfolding tag_of
returns c =
    let code = c.finish.ensures _ _ (c.add-4.ensures _ _ (c.add-3.ensures _ _ (c.add-2.ensures _ _ (c.add.ensures _ _ c.tag_mac-mac.ensures)))) in
    cc
