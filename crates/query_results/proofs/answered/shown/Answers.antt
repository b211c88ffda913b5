-- One row after another.
use Rattle.std.proofs.Common.{◌≡◌, ◌∷◌, length, map, refl, ap, ◌∙◌, arith}
use Rattle.std.specs.Vec.Iter.{into_iter_items, into_iter_len}
use Rattle.query_results.proofs.Answering.{shown_of, shown_more, shown_so_far}
use Rattle.query_results.proofs.answered.shown.Goals as goal

pub loop-row-init : goal.loop-row-init
loop-row-init g c =
    let gives = c.into_iter-row-iterator.ensures.into_iter_gives in
    let same : length (into_iter_items c.into_iter-row-iterator.result) ≡ length c.args.found.items = ap length gives.0 in
    let all : into_iter_len c.into_iter-row-iterator.result ≡ length (into_iter_items c.into_iter-row-iterator.result) = omega (arith, gives.1, same) in
    record { all = refl; count = all; made = c.new-rows.ensures }

pub loop-row-preserved : goal.loop-row-preserved
loop-row-preserved g c =
    let steps : into_iter_items c.loop-row.row-iterator ≡ c.in-Some.row ∷ into_iter_items c.next.new.self = c.in-Some.ensures.steps.0 in
    let gone = c.in-Some.ensures.steps.1 in
    let short = ap length steps in
    let was = c.loop-row.invariant.count in
    let less : into_iter_len c.next.new.self ≡ length (into_iter_items c.next.new.self) = omega arith in
    rw c.in_ok-push.ensures.ok
    (shown_more (into_iter_items c.into_iter-row-iterator.result) c.loop-row.yielded (into_iter_items c.loop-row.row-iterator)
    c.loop-row.rows (into_iter_len c.loop-row.row-iterator) c.in-Some.row (into_iter_items c.next.new.self) (into_iter_len c.next.new.self) c.loop-row.invariant steps less)

pub returns : goal.returns
returns g c =
    let gives = c.into_iter-row-iterator.ensures.into_iter_gives in
    shown_so_far (into_iter_items c.into_iter-row-iterator.result) c.loop-row.yielded (into_iter_items c.loop-row.row-iterator)
    c.loop-row.rows (into_iter_len c.loop-row.row-iterator) c.loop-row.invariant c.in-None.ensures.steps.0 ∙ ap (map shown_of) gives.0
