-- The session has a transaction over the shared world.
use Rattle.std.proofs.Common.{◌≡◌, ◌-◌, Bor, Option, None, Some, set, false, refl, sym, ap, subst, ◌∙◌}
use Rattle.std.specs.Prelude.{is_some}
use Rattle.std.specs.Option.{option_copied}
use Rattle.transactions.specs.Noted.{IsHeld}
use Rattle.transactions.specs.Stores.{Store, Transacted, Begins, begun_over}
use Rattle.transactions.proofs.Storing.{store_of, begins}
use Rattle.transactions.proofs.Tracking.{transact_held}
use Rattle.transactions.proofs.stores.Store.begin.Goals as goal

none_copied : {A : Type 0} (o : Option (Bor A)) → is_some o ≡ false → option_copied o ≡ None
none_copied None e = refl
none_copied (Some x) e = absurd cc

pub invariant_of-self-2 : goal.invariant_of-self-2
invariant_of-self-2 g c =
    let old : Store = store_of c.self.inside.shared c.self.inside.slots.transactions in
    let done = begins old c.args.session c.put.new.self.transactions c.begin.result (sym c.get.ensures ∙ none_copied c.get.result (sym c.is_some.ensures ∙ c.if-is_some.false))
    (c.put.ensures ∙ ap (λ xs. set xs (c.args.session - 1) (Some c.begin.result)) c.in_ok-reach.ensures.same) (c.begin.ensures ∙ ap begun_over (c.in_ok-own.ensures ∙ c.seal.ensures)) in
    rw c.seal.ensures (subst IsHeld (ap (λ (t : Transacted). t.after) done) (transact_held old c.args.session Begins c.self.invariant tt))
