-- The number is found, or all others are less or greater.
use Rattle.std.proofs.Common.{sym}
use Rattle.std.proofs.lemmas.List.Sorted.{searched}
use Rattle.row_store.proofs.Interface.{rising_order}
use Rattle.key_index.proofs.Seeking.{among_found, among_none}
use Rattle.key_index.proofs.lookups.is_among.Goals as goal

pub returns-in-Ok : goal.returns-in-Ok
returns-in-Ok c =
    let s = rw c.in-Ok.is at (searched c.args.numbers.now c.args.number c.binary_search.result c.binary_search.ensures.position (rising_order 0 c.requires.0 c.args.numbers.now c.requires.1)) in
    sym (among_found c.args.numbers.now c.args.number c.in-Ok.field-0 s.0 s.1)

pub returns-in-Err : goal.returns-in-Err
returns-in-Err c =
    let s = rw c.in-Err.is at (searched c.args.numbers.now c.args.number c.binary_search.result c.binary_search.ensures.position (rising_order 0 c.requires.0 c.args.numbers.now c.requires.1)) in
    sym (among_none c.args.numbers.now c.args.number c.in-Err.field-0 s.1 s.2)
