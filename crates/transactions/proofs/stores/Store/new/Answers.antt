-- Nothing is defined.
use Rattle.std.proofs.Common.{None, sym, ap, subst, ◌∙◌}
use Rattle.std.specs.Prelude.{replicate}
use Rattle.transactions.specs.Counted.{Counted}
use Rattle.transactions.specs.Noted.{IsHeld}
use Rattle.transactions.specs.Slots.{Slots}
use Rattle.transactions.proofs.Storing.{store_of}
use Rattle.transactions.proofs.Tracking.{empty_held}
use Rattle.transactions.proofs.stores.Store.new.Goals as goal

pub invariant_of-result : goal.invariant_of-result
invariant_of-result g c =
    subst IsHeld (sym (ap (λ (s : Slots). store_of c.new.result s.transactions) c.new-2.ensures ∙ ap (λ (x : Counted). store_of x (replicate 64 None)) c.new.ensures))
    (empty_held c.definitions_keep_catalogs.ensures.0)
