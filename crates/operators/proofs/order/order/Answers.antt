-- The library's sort is stable, and the order of rows by keys is one of those that it sorts by.
use Rattle.std.proofs.Common.{rules}
use Rattle.std.proofs.lemmas.Fn.{always_returns_same}
use Rattle.std.proofs.lemmas.Result.{on_ok_weaker}
use Rattle.operators.proofs.Orders.{found_cmp, found_total, ordered_by}
use Rattle.operators.proofs.Sorting.{before, is_order}
use Rattle.operators.proofs.order.order.Goals as goal

pub returns : goal.returns
returns g c =
    let keys = c.args.keys.now in
    let order = is_order (found_cmp keys) (found_total keys) in
    on_ok_weaker c.sort_by.result
    (λ sorted. ordered_by keys c.args.found.now.items c.sort_by.new.self.items (sorted (before (found_cmp keys)) order (always_returns_same _ _ _ (λ a r f k. search rules)))
    (c.sort_by.ensures.stable (before (found_cmp keys)) order (always_returns_same _ _ _ (λ a r f k. search rules))))
    c.sort_by.ensures.sorted
