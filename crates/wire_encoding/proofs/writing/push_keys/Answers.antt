-- The entries follow their count.
use Rattle.std.proofs.Common.{◌∙◌, [], ◌∷◌, ◌++◌, length, sym, ap}
use Rattle.std.specs.List.{flat_map}
use Rattle.wire_messages.specs.KeyLists.{entries_of}
use Rattle.wire_encoding.specs.Spelling.{entry}
use Rattle.wire_encoding.proofs.Listing.{entries_spelled}
use Rattle.wire_encoding.proofs.Mending.{two_more}
use Rattle.wire_encoding.proofs.writing.push_keys.Goals as goal

pub returns-clause-bytes : goal.returns-clause-bytes
returns-clause-bytes c =
    let keys = c.args.keys.now in
    two_more c.args.out.now.items (length (entries_of keys) ∷ []) (flat_map entry (entries_of keys)) c.push.new.self.items c.push_all.new.out.items
    (c.in_ok-push.ensures.items ∙ ap (λ n. c.args.out.now.items ++ n ∷ []) c.entry_count.ensures)
    (c.in_ok-push_all.ensures.bytes ∙ ap (λ bytes. c.push.new.self.items ++ bytes) (sym (entries_spelled keys)))
