-- The level is the top, and what stood on it is said again.
use Rattle.std.proofs.Common.{ap, ◌∙◌}
use Rattle.key_index.specs.Numbers.{number_at}
use Rattle.key_index.proofs.Entries.{taken_up}
use Rattle.key_index.proofs.index.KeyIndex.take_up.Goals as goal

pub returns-in-Ok : goal.returns-in-Ok
returns-in-Ok g c = λ key.
    c.pour.ensures key
    ∙ taken_up (λ l. l.value.entries) c.self.inside.top.entries c.replace-top.result.entries
    c.replace-top.new.dest.entries c.self.inside.below.items c.pop.new.self.items c.in-Some.newest (ap (λ m. m.entries) c.replace-top.ensures.value)
    (ap (λ m. m.entries) (c.replace-top.ensures.after ∙ c.in-Ok.ensures.ok) ∙ c.make_room.ensures.same) c.in-Some.ensures.items key
    ∙ ap (λ v. number_at v key) c.self.view_is
