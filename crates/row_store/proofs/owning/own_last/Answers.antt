-- There is none, or it is the one before the end.
use Rattle.std.proofs.Common.{◌≡◌, ◌-◌, length, arith, subst, true}
use Rattle.std.specs.Prelude.{OnOk}
use Rattle.row_store.specs.Paged.{own_at}
use Rattle.row_store.proofs.Owned.{own_over, same_length}
use Rattle.row_store.proofs.owning.own_last.Goals as goal

pub returns-then-count-eq0-clause-own : goal.returns-then-count-eq0-clause-own
returns-then-count-eq0-clause-own g c =
    let pages = c.args.pages.now.items in
    own_over pages (length pages - 1) (omega (arith, c.if-count-eq0.true, c.len-count.ensures, c.args.pages.now.ok.0))

pub returns-clause-own : goal.returns-clause-own
returns-clause-own g c =
    let new = c.own_one.new.pages.items in
    let last : c.len-count.result - 1 ≡ length new - 1 = omega (arith, same_length c.args.pages.now.items new c.own_one.ensures.values, c.len-count.ensures, c.args.pages.now.ok.0) in
    subst (λ k. OnOk c.own_one.result (own_at k new ≡ true)) last c.own_one.ensures.own
