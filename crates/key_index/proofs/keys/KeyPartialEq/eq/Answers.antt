-- An atom alone is alike to others as they are to it.
use Rattle.std.proofs.Common.{[], ◌∷◌, ap, ◌∙◌}
use Rattle.operators.specs.Alike.{are_alike}
use Rattle.operators.proofs.Interface.{alike_back}
use Rattle.key_index.proofs.keys.KeyPartialEq.eq.Goals as goal

pub returns-in-Many-One : goal.returns-in-Many-One
returns-in-Many-One g c =
    let alone = c.in-Many-One.b ∷ [] in
    rw (← c.self.view_is, ← c.other.view_is, c.in-Many-One.is-0, c.in-Many-One.is-1)
    (c.is_alone-in-Many-One.ensures ∙ alike_back alone c.as_slice-in-Many-One.result.now ∙ ap (λ atoms. are_alike atoms alone) c.as_slice-in-Many-One.ensures.value)
