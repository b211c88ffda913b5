-- The keys so far, with the new ones of the other items, are all.
use Rattle.std.proofs.Common.{◌≡◌, ◌++◌, [], drop, map}
use Rattle.wire_messages.specs.KeyLists.{keys_used}
use Rattle.statement_analysis.proofs.keys.used_keys.Given as goal

abbrev pub invariant-loop-item : goal.invariant-loop-item
invariant-loop-item g l =
    keys_used [] (map g.T.Encrypted.enc_of l.items) ≡ l.ids ++ keys_used l.ids (map g.T.Encrypted.enc_of (drop l.item-index l.items))
