-- The other keys are to be those of the other items.
use Rattle.std.proofs.Common.{◌≡◌, ◌≤◌, length, drop, map}
use Rattle.wire_messages.specs.KeyLists.{lists_from, ids_of}
use Rattle.wire_messages.proofs.key_lists.are_the_keys_of.Given as goal

abbrev pub invariant-loop-item : goal.invariant-loop-item
invariant-loop-item g l =
    let encs = map g.T.Encrypted.enc_of l.items in
    record {
      within : l.used ≤ length l.keys;
      left : lists_from (ids_of l.keys) 0 encs ≡ lists_from (ids_of l.keys) l.used (drop l.item-index encs);
    }
