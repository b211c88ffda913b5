-- There is one count a table.
use Rattle.std.proofs.Common.{◌≡◌, false, sym, ap, ◌∙◌}
use Rattle.sql_tree.specs.Bound.{bound_of, statement_of}
use Rattle.sql_tree.specs.Kinds.{target}
use Rattle.catalog.specs.Definitions.{followed}
use Rattle.catalog.specs.declared.effects.Effect.{Effect}
use Rattle.engine.specs.Answers.{answer_of}
use Rattle.transactions.specs.Counted.{Counted, execution, is_at_last_count, counts_behind, effect_in}
use Rattle.transactions.proofs.Counting.{executed_long}
use Rattle.transactions.proofs.counts.Counted.execute.Goals as goal

pub invariant_of-self-in-Ok : goal.invariant_of-self-in-Ok
invariant_of-self-in-Ok g c =
    let old : Counted = record { world = c.self.inside.world; counts = c.self.inside.counts.items } in
    let e = execution (bound_of c.args.bound) c.args.encs.now c.args.params.now in
    let s = statement_of c.args.bound.statement in
    let same : old ≡ c.args.self.now = c.self.view_is in
    let last : is_at_last_count old (target s) ≡ false = ap (λ (x : Counted). is_at_last_count x (target s)) same ∙ sym c.is_at_last.ensures ∙ c.if-is_at_last.false in
    let counts : c.follow.new.items.items ≡ counts_behind old s =
    c.follow.ensures ∙ ap (λ (f : Effect). followed 0 f c.reserve.new.self.items) c.effect-effect.ensures ∙ ap (followed 0 (effect_in c.args.self.now.world.catalog s)) c.reserve.ensures.items
    ∙ ap (λ (x : Counted). followed 0 (effect_in x.world.catalog s) old.counts) (sym same) in
    executed_long old e (answer_of c.in_ok-answer-in-Ok.answer) c.execute.new.self c.follow.new.items.items c.self.invariant last c.in_ok-answer-in-Ok.ensures.exact counts
