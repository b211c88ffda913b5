-- The first byte and the length are the shape.
use Rattle.std.proofs.Common.{◌∙◌, sym, ap}
use Rattle.cell_codec.specs.Cells.{is_length_of}
use Rattle.cell_codec.proofs.Forms.{IsShape-from, is_length_of-shape}
use Rattle.cell_codec.proofs.shapes.shape_ok.Goals as goal

pub returns-then-lead-eq-VERSION-clause-shape : goal.returns-then-lead-eq-VERSION-clause-shape
returns-then-lead-eq-VERSION-clause-shape c =
    let test = c.is_length_of.ensures ∙ ap (λ count. is_length_of count c.args.ty) c.len.ensures in
    (λ long. IsShape-from _ _ (sym c.lead.ensures ∙ c.if-lead-eq-VERSION.true) (sym test ∙ long), λ shape. test ∙ is_length_of-shape _ _ shape)
