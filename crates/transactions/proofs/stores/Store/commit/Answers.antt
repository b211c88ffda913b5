-- The transaction has ended, unless there was no memory.
use Rattle.std.proofs.Common.{◌≡◌, ◌-◌, set, Some, sym, ap, subst, ◌∙◌}
use Rattle.transactions.specs.Noted.{IsNotedIn, IsHeld}
use Rattle.transactions.specs.Stores.{Store, Transacted, Commits}
use Rattle.transactions.proofs.Storing.{store_of, put_back, commits}
use Rattle.transactions.proofs.Tracking.{noted_at, transact_held}
use Rattle.transactions.proofs.stores.Store.commit.Goals as goal

pub why_not-requires : goal.why_not-requires
why_not-requires g c =
    let old : Store = store_of c.self.inside.shared c.self.inside.slots.transactions in
    subst (IsNotedIn old.shared) (sym c.take.ensures.value ∙ c.in-Some.is) (noted_at old c.args.session c.self.invariant)

pub commit-requires-clause-noted : goal.commit-requires-clause-noted
commit-requires-clause-noted g c =
    let old : Store = store_of c.self.inside.shared c.self.inside.slots.transactions in
    subst (IsNotedIn old.shared) (sym c.take.ensures.value ∙ c.in-Some.is) (noted_at old c.args.session c.self.invariant)

pub commit-requires-clause-shape : goal.commit-requires-clause-shape
commit-requires-clause-shape g c = c.self.invariant.shape

pub invariant_of-self-in-Ok-None : goal.invariant_of-self-in-Ok-None
invariant_of-self-in-Ok-None g c =
    let old : Store = store_of c.self.inside.shared c.self.inside.slots.transactions in
    let done = commits old c.args.session c.in-Some.transaction c.commit.new.shared c.take.new.self.transactions
    (sym c.take.ensures.value ∙ c.in-Some.is) c.take.ensures.after (sym c.in-Ok-None.ensures ∙ c.in-Ok-None.field-0-is) c.commit.ensures in
    subst IsHeld (ap (λ (t : Transacted). t.after) done) (transact_held old c.args.session Commits c.self.invariant tt)

pub returns-in-Err : goal.returns-in-Err
returns-in-Err g c =
    let old : Store = store_of c.self.inside.shared c.self.inside.slots.transactions in
    let same : old ≡ c.args.self.now = c.self.view_is in
    ap (store_of old.shared) (put_back old c.args.session c.put.new.self.transactions c.in-Some.transaction (sym c.take.ensures.value ∙ c.in-Some.is)
    (c.put.ensures ∙ ap (λ xs. set xs (c.args.session - 1) (Some c.in-Some.transaction)) c.take.ensures.after)) ∙ same
