-- The keys are looked through as they are seen.
use Rattle.std.proofs.Common.{not, ap, sym, ◌∙◌}
use Rattle.operators.specs.Alike.{are_alike}
use Rattle.operators.proofs.Interface.{any-map}
use Rattle.key_index.proofs.lookups.Seen.note.Goals as goal

pub returns-clause-fresh : goal.returns-clause-fresh
returns-clause-fresh g c =
    rw (← c.self.view_is)
    (c.in_ok-insert.ensures.added ∙ ap not (sym (any-map (are_alike c.args.key.now) (λ key. key.now) c.self.inside.keys.keys)))
