use Rattle.std.proofs.Common.{◌≡◌, ap, subst, sym, Some}
use Rattle.key_store.specs.Stores.{AreKept}
use Rattle.key_store.proofs.Keeping.{promoted-kept, promoted-none, looked_up}
use Rattle.key_store.proofs.stores.KeyStore.kept.Goals as goal

pub returns-in_default-clause-kept : goal.returns-in_default-clause-kept
returns-in_default-clause-kept c = subst (λ old. AreKept old c.promote.new.self.entries) c.self.view_is
    (promoted-kept c.args.value.now c.self.inside.kept.entries c.promote.new.self.entries (ap (λ cache. cache.entries) c.promote.ensures.entries))

pub returns-in_default-clause-none : goal.returns-in_default-clause-none
returns-in_default-clause-none c = λ _.
    let looked = rw c.in_default.is at c.peek.ensures in
    subst (λ old. c.promote.new.self.entries ≡ old) c.self.view_is
    (promoted-none c.args.value.now c.self.inside.kept.entries c.promote.new.self.entries (ap (λ cache. cache.entries) c.promote.ensures.entries) (sym looked))

pub returns-clause-kept : goal.returns-clause-kept
returns-clause-kept c = subst (λ old. AreKept old c.promote.new.self.entries) c.self.view_is
    (promoted-kept c.args.value.now c.self.inside.kept.entries c.promote.new.self.entries (ap (λ cache. cache.entries) c.promote.ensures.entries))

pub returns-clause-found : goal.returns-clause-found
returns-clause-found c =
    let looked = rw c.in-Some.is at c.peek.ensures in
    (c.in-Some.opened.now, looked_up c.args.value.now c.promote.new.self.entries (Some c.in-Some.opened.now) looked, c.cell_keys.ensures)
