-- The keys so far, before those of the entry that waits and of the others.
use Rattle.std.proofs.Common.{◌≡◌, ◌++◌}
use Rattle.ae_base.specs.OneOrTwo.{behind}
use Rattle.wire_messages.specs.KeyLists.{gathered}
use Rattle.wire_messages.proofs.key_entries.gather.Given as goal

abbrev pub invariant-loop-entry : goal.invariant-loop-entry
invariant-loop-entry l = gathered l.fn.entries ≡ l.keys ++ gathered (behind l.before ++ l.entry-iterator.rest.items)
