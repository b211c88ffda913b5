use Rattle.std.proofs.Common.{◌∙◌, ap, not}
use Rattle.std.proofs.lemmas.List.{length-map}
use Rattle.std.proofs.lemmas.Bool.{le-ltb}
use Rattle.ae_base.proofs.NameLaws.{with_room, without_room}
use Rattle.ae_base.proofs.params.admits.Goals as goal

pub returns-then-items-lt-MOST_PARAMS : goal.returns-then-items-lt-MOST_PARAMS
returns-then-items-lt-MOST_PARAMS g c = ap not c.is_among.ensures ∙ with_room _ _ _ (length-map c.args.items.now g.P.Named.called) c.if-items-lt-MOST_PARAMS.true

pub returns-else-items-lt-MOST_PARAMS : goal.returns-else-items-lt-MOST_PARAMS
returns-else-items-lt-MOST_PARAMS g c = le-ltb _ _ c.if-items-lt-MOST_PARAMS.false ∙ without_room _ _ _ (length-map c.args.items.now g.P.Named.called) c.if-items-lt-MOST_PARAMS.false
