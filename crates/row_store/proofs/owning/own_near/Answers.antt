-- What a page owns it keeps while others follow.
use Rattle.std.proofs.Common.{◌≡◌, ◌-◌, arith, subst, true}
use Rattle.row_store.specs.Paged.{own_at}
use Rattle.row_store.proofs.Owned.{on_any}
use Rattle.row_store.proofs.owning.own_near.Goals as goal

pub returns-clause-before : goal.returns-clause-before
returns-clause-before g c =
    let before : c.saturating_sub.result ≡ c.args.page - 1 = c.saturating_sub.ensures in
    on_any c.own_one-3.result
    (c.own_one-3.ensures.kept (c.args.page - 1) (c.own_one-2.ensures.kept (c.args.page - 1) (subst (λ k. own_at k c.own_one.new.pages.items ≡ true) before c.in_ok-own_one.ensures.own)))

pub returns-clause-own : goal.returns-clause-own
returns-clause-own g c = on_any c.own_one-3.result (c.own_one-3.ensures.kept c.args.page c.in_ok-own_one-2.ensures.own)
