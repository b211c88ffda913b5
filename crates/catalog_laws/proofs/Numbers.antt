-- The number of a column key is never used again.
use Rattle.std.proofs.Common.{◌≡◌, List, [], ◌∷◌, ◌++◌, refl, sym, subst}
use Rattle.catalog.specs.Laws.{IdsAreNotReused}
use Rattle.catalog.specs.WellFormed.{Follows}
use Rattle.transactions.specs.WellKept.{IsStore}
use Rattle.wire_messages.specs.declared.requests.Request.{Request}
use Rattle.server_core.specs.Laws.{RequestsMayBeAsked}
use Rattle.server_core.specs.Serve.{State, empty_state, serve, serve_all}
use Rattle.server_core.specs.States.{any_cell}
use Rattle.catalog_laws.specs.Laws.{CatalogsFollow, KeyNumbersAreNotReused, catalog_behind}

-- the further requests are served where the first ones lead
pub behind_more : (state : State) (history more : List Request) → (serve_all state (history ++ more)).1 ≡ (serve_all (serve_all state history).1 more).1
behind_more state [] more = refl
behind_more state (request ∷ history) more = behind_more (serve state request).after history more

store_behind : RequestsMayBeAsked → (state : State) (requests : List Request) → IsStore any_cell state → IsStore any_cell (serve_all state requests).1
store_behind may state [] h = h
store_behind may state (request ∷ requests) h = store_behind may (serve state request).after requests (may.1 state request h).store

pub numbers_not_reused : RequestsMayBeAsked → IdsAreNotReused → CatalogsFollow → KeyNumbersAreNotReused
numbers_not_reused may ids follow history more id key given there =
    let before = (serve_all empty_state history).1 in
    let store = store_behind may empty_state history may.0 in
    let follows = subst (λ (s : State). Follows before.shared.world.catalog s.shared.world.catalog) (sym (behind_more empty_state history more)) (follow before more store) in
    ids before.shared.world.catalog (catalog_behind empty_state (history ++ more)) id key store.shared.world.catalog follows given there
