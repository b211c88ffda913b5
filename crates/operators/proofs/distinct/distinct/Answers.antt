-- One row after another is kept, where it is the first of its kind.
use Rattle.std.proofs.Common.{◌≡◌, ◌<◌, ◌++◌, [], ◌∷◌, length, map, refl, sym, ap, ◌∙◌, arith}
use Rattle.std.specs.Prelude.{if◌then◌else◌}
use Rattle.std.specs.Vec.Iter.{into_iter_items, into_iter_len}
use Rattle.operators.specs.Found.{found_by, are_first, first_seen}
use Rattle.operators.proofs.Firsts.{shown_of, picked-nil, kept_within, kept_more, kept_all}
use Rattle.operators.proofs.distinct.distinct.Goals as goal

pub loop-row-init : goal.loop-row-init
loop-row-init g c =
    let gives = c.into_iter-row-iterator.ensures.into_iter_gives in
    let same : length (into_iter_items c.into_iter-row-iterator.result) ≡ length c.args.found.items = ap length gives.0 in
    let all : into_iter_len c.into_iter-row-iterator.result ≡ length (into_iter_items c.into_iter-row-iterator.result) = omega (arith, gives.1, same) in
    record { all = refl; count = all; at = refl; made = λ keys. ap (map (found_by keys)) c.new-kept.ensures.items ∙ sym (picked-nil c.in_ok-firsts.firsts.items) }

pub index-requires : goal.index-requires
index-requires g c =
    let gives = c.into_iter-row-iterator.ensures.into_iter_gives in
    let firsts = c.in_ok-firsts.ensures ∙ ap (λ found. are_first [] (map shown_of found)) (c.as_slice.ensures.value ∙ sym gives.0) in
    let lt : c.loop-row.at < length c.in_ok-firsts.firsts.items =
    kept_within (into_iter_items c.into_iter-row-iterator.result) c.loop-row.yielded (into_iter_items c.loop-row.row-iterator)
    c.loop-row.kept.items c.in_ok-firsts.firsts.items (into_iter_len c.loop-row.row-iterator) c.loop-row.at c.in-Some.row (into_iter_items c.next.new.self)
    c.loop-row.invariant firsts c.in-Some.ensures.steps.0 in
    omega (arith, lt)

pub loop-row-preserved : goal.loop-row-preserved
loop-row-preserved g c =
    let gives = c.into_iter-row-iterator.ensures.into_iter_gives in
    let firsts = c.in_ok-firsts.ensures ∙ ap (λ found. are_first [] (map shown_of found)) (c.as_slice.ensures.value ∙ sym gives.0) in
    let steps : into_iter_items c.loop-row.row-iterator ≡ c.in-Some.row ∷ into_iter_items c.next.new.self = c.in-Some.ensures.steps.0 in
    let gone = c.in-Some.ensures.steps.1 in
    let short = ap length steps in
    let was = c.loop-row.invariant.count in
    let less : into_iter_len c.next.new.self ≡ length (into_iter_items c.next.new.self) = omega arith in
    let lt : c.loop-row.at < length c.in_ok-firsts.firsts.items =
    kept_within (into_iter_items c.into_iter-row-iterator.result) c.loop-row.yielded (into_iter_items c.loop-row.row-iterator)
    c.loop-row.kept.items c.in_ok-firsts.firsts.items (into_iter_len c.loop-row.row-iterator) c.loop-row.at c.in-Some.row (into_iter_items c.next.new.self)
    c.loop-row.invariant firsts steps in
    kept_more (into_iter_items c.into_iter-row-iterator.result) c.loop-row.yielded (into_iter_items c.loop-row.row-iterator)
    c.loop-row.kept.items c.in_ok-firsts.firsts.items (into_iter_len c.loop-row.row-iterator) c.loop-row.at c.in-Some.row (into_iter_items c.next.new.self)
    c.keep_if.new.kept.items (into_iter_len c.next.new.self) c.index.result.now c.loop-row.invariant steps less lt
    (c.in_ok-keep_if.ensures ∙ ap (λ b. if b then c.loop-row.kept.items ++ c.in-Some.row ∷ [] else c.loop-row.kept.items) c.index.ensures)

pub returns : goal.returns
returns g c = λ keys.
    let gives = c.into_iter-row-iterator.ensures.into_iter_gives in
    let firsts = c.in_ok-firsts.ensures ∙ ap (λ found. are_first [] (map shown_of found)) (c.as_slice.ensures.value ∙ sym gives.0) in
    kept_all (into_iter_items c.into_iter-row-iterator.result) c.loop-row.yielded (into_iter_items c.loop-row.row-iterator)
    c.loop-row.kept.items c.in_ok-firsts.firsts.items (into_iter_len c.loop-row.row-iterator) c.loop-row.at c.loop-row.invariant firsts
    c.in-None.ensures.steps.0 keys ∙ ap (λ found. first_seen [] (map (found_by keys) found)) gives.0
