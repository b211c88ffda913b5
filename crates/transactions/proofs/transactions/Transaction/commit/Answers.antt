-- The own world may be laid over the shared one, and then the changed tables can be changed once more.
use Rattle.std.proofs.Common.{sym, ap, subst, ◌∙◌}
use Rattle.transactions.specs.Counted.{raised_all}
use Rattle.transactions.specs.Noted.{MayLieOver}
use Rattle.transactions.specs.Stores.{Transaction, is_used, over}
use Rattle.transactions.proofs.Tracking.{may_lie, may_raise}
use Rattle.transactions.proofs.transactions.Transaction.commit.Goals as goal

pub take_over-requires : goal.take_over-requires
take_over-requires g c =
    subst (MayLieOver c.args.shared.now c.self.inside.own) (sym c.as_slice.ensures.value)
    (subst (λ (t : Transaction). MayLieOver c.args.shared.now t.own t.used) (sym c.self.view_is) (may_lie c.args.shared.now c.args.self c.requires.shape c.requires.noted c.requires.free))

pub raise_tables-requires-clause-there : goal.raise_tables-requires-clause-there
raise_tables-requires-clause-there g c =
    let laid = c.take_over.ensures ∙ ap (λ us. over (is_used us) c.args.shared.now c.self.inside.own)
    c.as_slice.ensures.value ∙ ap (λ (t : Transaction). over (is_used t.used) c.args.shared.now t.own) c.self.view_is in
    let names = c.as_slice-2.ensures.value ∙ ap (λ (t : Transaction). t.changed) c.self.view_is in
    (may_raise c.args.shared.now c.args.self _ _ c.requires.noted laid names).there

pub raise_tables-requires-clause-further : goal.raise_tables-requires-clause-further
raise_tables-requires-clause-further g c =
    let laid = c.take_over.ensures ∙ ap (λ us. over (is_used us) c.args.shared.now c.self.inside.own)
    c.as_slice.ensures.value ∙ ap (λ (t : Transaction). over (is_used t.used) c.args.shared.now t.own) c.self.view_is in
    let names = c.as_slice-2.ensures.value ∙ ap (λ (t : Transaction). t.changed) c.self.view_is in
    (may_raise c.args.shared.now c.args.self _ _ c.requires.noted laid names).further

pub raise_tables-requires-clause-apart : goal.raise_tables-requires-clause-apart
raise_tables-requires-clause-apart g c =
    let laid = c.take_over.ensures ∙ ap (λ us. over (is_used us) c.args.shared.now c.self.inside.own)
    c.as_slice.ensures.value ∙ ap (λ (t : Transaction). over (is_used t.used) c.args.shared.now t.own) c.self.view_is in
    let names = c.as_slice-2.ensures.value ∙ ap (λ (t : Transaction). t.changed) c.self.view_is in
    (may_raise c.args.shared.now c.args.self _ _ c.requires.noted laid names).apart

pub returns : goal.returns
returns g c =
    let laid = c.take_over.ensures ∙ ap (λ us. over (is_used us) c.args.shared.now c.self.inside.own)
    c.as_slice.ensures.value ∙ ap (λ (t : Transaction). over (is_used t.used) c.args.shared.now t.own) c.self.view_is in
    let names = c.as_slice-2.ensures.value ∙ ap (λ (t : Transaction). t.changed) c.self.view_is in
    c.raise_tables.ensures ∙ ap (raised_all c.take_over.new.own) names ∙ ap (λ laid. raised_all laid c.args.self.changed) laid
