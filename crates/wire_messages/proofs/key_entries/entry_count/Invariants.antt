-- The entries of the keys so far.
use Rattle.std.proofs.Common.{◌≡◌, ◌≤◌, ◌*◌, length, take}
use Rattle.wire_messages.specs.KeyLists.{entries_of}
use Rattle.wire_messages.proofs.key_entries.entry_count.Given as goal

abbrev pub invariant-loop-key : goal.invariant-loop-key
invariant-loop-key l = record {
  counted : l.count ≡ length (entries_of (take l.key-index l.keys));
  within : l.count ≤ 2 * l.key-index;
}
