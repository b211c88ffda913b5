-- Keys are spelled entry by entry.
use Rattle.std.proofs.Common.{◌≡◌, ◌∙◌, List, [], ◌∷◌, ◌++◌, refl, ap}
use Rattle.std.specs.List.{flat_map}
use Rattle.std.proofs.lemmas.List.Concat.{flat_map-append}
use Rattle.ae_base.specs.declared.keys.KeyMeta.{KeyMeta}
use Rattle.wire_messages.specs.KeyLists.{entries_of_key, entries_of}
use Rattle.wire_encoding.specs.Spelling.{entry}

pub entries_spelled : (keys : List KeyMeta) → flat_map entry (entries_of keys) ≡ flat_map (λ k. flat_map entry (entries_of_key k)) keys
entries_spelled [] = refl
entries_spelled (key ∷ keys) =
    flat_map-append entry (entries_of_key key) (entries_of keys) ∙ ap (λ bytes. flat_map entry (entries_of_key key) ++ bytes) (entries_spelled keys)
