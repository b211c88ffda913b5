-- The table of the class has the cell, and its place there is its number.
use Rattle.std.proofs.Common.{◌≡◌, IfOk, subst}
use Rattle.tap_listing.proofs.Tabled.{numbered, on_ok, stands_new, stands_there, knows_on}
use Rattle.tap_listing.proofs.numbers.CellNumbers.number.Goals as goal

pub returns-then-added-clause-number : goal.returns-then-added-clause-number
returns-then-added-clause-number c = λ seen knows.
    let s = stands_new c.args.self.now c.self.inside.classes.keys c.insert_full.new.self.keys c.self.inside.tables.items
    c.reserve.new.self.items seen c.copy.result c.args.class.now c.in_ok-at.added c.in_ok-at.at c.self.view_is
    knows c.self.invariant c.copy.ensures c.in_ok-at.ensures.added c.in_ok-at.ensures.keys
    c.in_ok-at.ensures.index c.in_ok-at.ensures.within c.reserve.ensures.items c.push_reserved.new.self.items c.new.result c.if-added.true c.push_reserved.ensures.items c.new.ensures in
    let is = numbered c.insert_full.new.self.keys c.push_reserved.new.self.items seen s.knows s.long c.args.class.now
    c.requires c.in_ok-at.at c.index_mut.result.now s.at s.within c.index_mut.ensures.value c.args.cell in
    subst (λ m. IfOk c.number.result (λ n. n ≡ m)) is c.number.ensures.number

pub returns-then-added-clause-seen : goal.returns-then-added-clause-seen
returns-then-added-clause-seen c = λ seen knows.
    let s = stands_new c.args.self.now c.self.inside.classes.keys c.insert_full.new.self.keys c.self.inside.tables.items
    c.reserve.new.self.items seen c.copy.result c.args.class.now c.in_ok-at.added c.in_ok-at.at c.self.view_is
    knows c.self.invariant c.copy.ensures c.in_ok-at.ensures.added c.in_ok-at.ensures.keys
    c.in_ok-at.ensures.index c.in_ok-at.ensures.within c.reserve.ensures.items c.push_reserved.new.self.items c.new.result c.if-added.true c.push_reserved.ensures.items c.new.ensures in
    on_ok _ _ c.number.result
    (knows_on c.insert_full.new.self.keys c.push_reserved.new.self.items seen s.knows s.long c.args.class.now
    c.requires c.in_ok-at.at c.index_mut.result.now s.at s.within c.index_mut.ensures.value c.args.cell c.number.new.self) c.number.ensures.cells

pub returns-clause-number : goal.returns-clause-number
returns-clause-number c = λ seen knows.
    let s = stands_there c.args.self.now c.self.inside.classes.keys c.insert_full.new.self.keys c.self.inside.tables.items
    c.reserve.new.self.items seen c.copy.result c.args.class.now c.in_ok-at.added c.in_ok-at.at c.self.view_is
    knows c.self.invariant c.copy.ensures c.in_ok-at.ensures.added c.in_ok-at.ensures.keys c.in_ok-at.ensures.index c.in_ok-at.ensures.within c.reserve.ensures.items c.if-added.false in
    let is = numbered c.insert_full.new.self.keys c.reserve.new.self.items seen s.knows s.long c.args.class.now
    c.requires c.in_ok-at.at c.index_mut-2.result.now s.at s.within c.index_mut-2.ensures.value c.args.cell in
    subst (λ m. IfOk c.number-2.result (λ n. n ≡ m)) is c.number-2.ensures.number

pub returns-clause-seen : goal.returns-clause-seen
returns-clause-seen c = λ seen knows.
    let s = stands_there c.args.self.now c.self.inside.classes.keys c.insert_full.new.self.keys c.self.inside.tables.items
    c.reserve.new.self.items seen c.copy.result c.args.class.now c.in_ok-at.added c.in_ok-at.at c.self.view_is
    knows c.self.invariant c.copy.ensures c.in_ok-at.ensures.added c.in_ok-at.ensures.keys c.in_ok-at.ensures.index c.in_ok-at.ensures.within c.reserve.ensures.items c.if-added.false in
    on_ok _ _ c.number-2.result
    (knows_on c.insert_full.new.self.keys c.reserve.new.self.items seen s.knows s.long c.args.class.now
    c.requires c.in_ok-at.at c.index_mut-2.result.now s.at s.within c.index_mut-2.ensures.value c.args.cell c.number-2.new.self) c.number-2.ensures.cells
