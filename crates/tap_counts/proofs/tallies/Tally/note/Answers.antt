-- The counts of the class have one more.
use Rattle.tap_counts.proofs.Noting.{noted_new, noted_there}
use Rattle.tap_counts.proofs.Showing.{on_ok}
use Rattle.tap_counts.proofs.tallies.Tally.note.Goals as goal

pub returns-then-added : goal.returns-then-added
returns-then-added c =
    on_ok _ _ c.note.result
    (λ h. noted_new c.args.self.now c.self.inside.classes.keys c.insert_full.new.self.keys c.self.inside.counts.items
    c.copy.result c.args.class.now c.in_ok-at.added c.in_ok-at.at c.args.shown c.self.view_is c.self.invariant
    c.copy.ensures c.in_ok-at.ensures.added c.in_ok-at.ensures.keys c.in_ok-at.ensures.index c.in_ok-at.ensures.within
    c.reserve.new.self.items c.push_reserved.new.self.items c.new.result c.reserve.ensures.items c.if-added.true
    c.push_reserved.ensures.items c.new.ensures c.index_mut.result.now c.note.new.self c.index_mut.ensures.value h)
    c.note.ensures

pub returns : goal.returns
returns c =
    on_ok _ _ c.note-2.result
    (λ h. noted_there c.args.self.now c.self.inside.classes.keys c.insert_full.new.self.keys c.self.inside.counts.items
    c.copy.result c.args.class.now c.in_ok-at.added c.in_ok-at.at c.args.shown c.self.view_is c.self.invariant
    c.copy.ensures c.in_ok-at.ensures.added c.in_ok-at.ensures.keys c.in_ok-at.ensures.index c.in_ok-at.ensures.within
    c.reserve.new.self.items c.reserve.ensures.items c.if-added.false c.index_mut-2.result.now c.note-2.new.self c.index_mut-2.ensures.value h)
    c.note-2.ensures
