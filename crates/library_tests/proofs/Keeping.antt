-- What is kept stays of a vault where it stays.
use Rattle.std.proofs.Common.{◌≡◌, ℕ, List, Option, sym, subst}
use Rattle.ae_base.specs.declared.key_values.KeyValue.{KeyValue}
use Rattle.ae_edge.specs.Vaults.{KeyMap}
use Rattle.key_store.specs.Stores.{IsOf}

pub of_same : (keys : Option KeyMap) (a b : List (KeyValue × List ℕ)) → b ≡ a → IsOf keys a → IsOf keys b
of_same keys a b e v = subst (IsOf keys) (sym e) v
