-- The copies are as many, and have the same names.
use Rattle.std.proofs.Common.{◌∙◌, ap, map}
use Rattle.wire_messages.proofs.CopiedNames.{copies_differ}
use Rattle.wire_messages.proofs.params.own_params.Goals as goal

pub unreachable-requires : goal.unreachable-requires
unreachable-requires g c =
    let h = c.in-None.ensures.exactly.1 (copies_differ g.P.ToOwn.same g.P.Named.called g.T.Named.called c.requires c.args.params.now c.in_ok-own_parts.field-0
    (c.in_ok-own_parts.ensures ∙ ap (map g.P.ToOwn.same) c.as_slice.ensures.items) c.as_slice.ensures.few c.as_slice.ensures.differ) in
    cc
