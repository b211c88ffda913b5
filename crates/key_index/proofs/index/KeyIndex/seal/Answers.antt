-- The top is the newest of the levels below.
use Rattle.std.proofs.Common.{[], ◌∷◌, ◌++◌, ap, ◌∙◌}
use Rattle.key_index.specs.Numbers.{number_at}
use Rattle.key_index.proofs.Entries.{sealed}
use Rattle.key_index.proofs.index.KeyIndex.seal.Goals as goal

pub returns-in-Ok : goal.returns-in-Ok
returns-in-Ok g c = λ key.
    sealed (λ l. l.value.entries) c.self.inside.top.entries c.replace.new.dest.entries c.self.inside.below.items c.push_reserved.new.self.items c.in-Ok.level
    (ap (λ m. m.entries) c.replace.ensures.after ∙ c.new.ensures.empty) (c.push_reserved.ensures.items ∙ ap (λ l. l ++ c.in-Ok.level ∷ []) c.reserve.ensures.items)
    (ap (λ m. m.entries) (c.in-Ok.ensures.ok ∙ c.replace.ensures.value)) key
    ∙ ap (λ v. number_at v key) c.self.view_is ∙ c.settle.ensures key
