-- One number more.
use Rattle.std.proofs.Common.{◌+◌, ◌++◌, ◌∷◌, [], ap, ◌∙◌}
use Rattle.row_store.specs.Numbers.{Numbers}
use Rattle.row_store.proofs.Rising.{counted_more}
use Rattle.row_store.proofs.numbered.Numbered.next_numbers.Goals as goal

pub loop-i-preserved : goal.loop-i-preserved
loop-i-preserved g c =
    let next = c.self.inside.next + c.loop-i.i in
    c.in_ok-push.ensures.items ∙ ap (λ l. l ++ next ∷ []) c.loop-i.invariant ∙ counted_more c.args.self.now.next c.loop-i.i next (ap (λ (s : Numbers _). s.next + c.loop-i.i) c.self.view_is)
