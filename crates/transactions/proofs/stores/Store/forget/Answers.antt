-- Later uses are forgotten.
use Rattle.std.proofs.Common.{◌≡◌, ◌-◌, set, Some, sym, ap, subst, ◌∙◌}
use Rattle.transactions.specs.Forgotten.{forgotten}
use Rattle.transactions.specs.Noted.{IsHeld}
use Rattle.transactions.specs.Stores.{Store}
use Rattle.transactions.proofs.Storing.{store_of, forgets}
use Rattle.transactions.proofs.stores.Store.forget.Goals as goal

pub invariant_of-self : goal.invariant_of-self
invariant_of-self g c =
    let old : Store = store_of c.self.inside.shared c.self.inside.slots.transactions in
    let same : old ≡ c.args.self.now = c.self.view_is in
    let f = forgets old c.args.session c.args.used c.in-Some.transaction c.forget.new.self c.put.new.self.transactions (sym c.take.ensures.value ∙ c.in-Some.is) c.forget.ensures
    (c.put.ensures ∙ ap (λ xs. set xs (c.args.session - 1) (Some c.forget.new.self)) c.take.ensures.after) in
    subst IsHeld (sym (f ∙ ap (λ (s : Store). forgotten s c.args.session c.args.used) same)) c.requires

pub returns-in-Some : goal.returns-in-Some
returns-in-Some g c =
    let old : Store = store_of c.self.inside.shared c.self.inside.slots.transactions in
    let same : old ≡ c.args.self.now = c.self.view_is in
    forgets old c.args.session c.args.used c.in-Some.transaction c.forget.new.self c.put.new.self.transactions (sym c.take.ensures.value ∙ c.in-Some.is) c.forget.ensures
    (c.put.ensures ∙ ap (λ xs. set xs (c.args.session - 1) (Some c.forget.new.self)) c.take.ensures.after)
    ∙ ap (λ (s : Store). forgotten s c.args.session c.args.used) same
