-- That all values of a column key open to one key, so that values may be added and dropped while cells stay.
use Rattle.std.specs.Prelude.{◌≡◌, ℕ, List, [], ◌∷◌, ◌++◌, Option, IfSome}
use Rattle.std.specs.List.{All}
use Rattle.ae_base.specs.OneOrTwo.{each_of}
use Rattle.ae_base.specs.declared.key_values.KeyValue.{KeyValue}
use Rattle.ae_edge.specs.Vaults.{KeyMap}
use Rattle.catalog.specs.Catalogs.{Catalog, key_meta}
use Rattle.key_store.specs.Opening.{opened}
use Rattle.server_core.specs.Serve.{State, empty_state}
use Rattle.conversation.specs.Pending.{Pending}
use Rattle.script_lang.specs.declared.steps.Step.{Step}
use Rattle.script_lang.specs.declared.steps.Step.TheVariants.{Turn, Trust}
use Rattle.plaintext_laws.specs.Reference.{means, nothing_held, held_at, with_held}

-- where a value opens, it gives that key
abbrev pub GivesOnly : KeyMap → List ℕ → KeyValue → Type 0
GivesOnly keys key value = IfSome (opened keys value) (λ given. given ≡ key)

-- the values of each column key of a catalog give the key for its number, where they open
abbrev pub Fits : KeyMap → (ℕ → List ℕ) → Catalog → Type 0
Fits keys key_for catalog = (id : ℕ) → IfSome (key_meta catalog id) (λ meta. All (GivesOnly keys (key_for id)) (each_of meta.values))

-- it holds of each state that the plaintext meaning of the steps comes through, the first and the last included
abbrev pub Throughout : (State → Type 0) → KeyMap → List Step → List (List ℕ) → List (Option Pending) → State → Type 0
Throughout P keys [] trusted holds state = P state
Throughout P keys (Turn number act ∷ steps) trusted holds state =
    let c = means keys trusted number act (held_at holds number) state in
    P state × Throughout P keys steps trusted (with_held holds number c.held) c.state
Throughout P keys (Trust path ∷ steps) trusted holds state = Throughout P keys steps (trusted ++ path ∷ []) holds state

-- A transaction's world has the keys that the shared one had at its beginning, and a rotation defines none: so the shared ones between turns say it of all.
abbrev pub FitThroughout : KeyMap → (ℕ → List ℕ) → List Step → List (List ℕ) → List (Option Pending) → State → Type 0
FitThroughout keys key_for = Throughout (λ state. Fits keys key_for state.shared.world.catalog) keys

-- all values that a column key's number ever has in the plaintext meaning, and that open, give one key
abbrev pub Alike : KeyMap → List Step → Type 0
Alike keys steps = (key_for : ℕ → List ℕ) × FitThroughout keys key_for steps [] nothing_held empty_state
