-- What a store keeps.
use Rattle.std.proofs.Common.{◌≡◌, ◌∙◌, ℕ, List, ◌∷◌, Bool, true, refl, ap, inl, inr, Contains, IfSome, Option, Some, None, sym, subst}
use Rattle.std.specs.Map.{lookup, lookup_entry, remove_entry}
use Rattle.std.specs.Option.{option_map_or}
use Rattle.std.specs.Str.{bytes_eq}
use Rattle.std.proofs.lemmas.Slice.Eq.{bytes_eq-Decides}
use Rattle.lru.specs.LruCache.{LruCache, promoted, put_entries}
use Rattle.lru.proofs.CallerLemmas.{Contains-lookup, Contains-lookup_entry, Contains-promoted, Contains-put_entries}
use Rattle.ae_base.specs.KeyValues.{same_value, parts}
use Rattle.ae_base.specs.declared.key_values.KeyValue.{KeyValue}
use Rattle.key_store.specs.Stores.{AreKept, AreKeptWith}

same : (a b : KeyValue) → same_value a b ≡ true → b ≡ a
same a b t =
    let p = parts (bytes_eq a.path b.path) (bytes_eq a.wrapped b.wrapped) t in
    let path : b.path ≡ a.path = sym ((bytes_eq-Decides a.path b.path).0 p.0) in
    let wrapped : b.wrapped ≡ a.wrapped = sym ((bytes_eq-Decides a.wrapped b.wrapped).0 p.1) in
    λ i. record { path = path i; wrapped = wrapped i }

pub promoted-kept : (value : KeyValue) (old new : List (KeyValue × List ℕ)) → new ≡ promoted (same_value value) old → AreKept old new
promoted-kept value old new is entry h = Contains-promoted (same_value value) old entry (subst (λ entries. Contains entries entry) is h)

pub looked_up : (value : KeyValue) (kept : List (KeyValue × List ℕ)) (found : Option (List ℕ)) → found ≡ lookup (same_value value) kept → IfSome found (λ key. Contains kept (value, key))
looked_up value kept None is = tt
looked_up value kept (Some key) is =
    let c = Contains-lookup (same_value value) kept key (sym is) in
    subst (λ o. Contains kept (o, key)) (same value c.0 c.2) c.1

-- nothing goes first where no key passes
unmoved : (test : KeyValue → Bool) (old : List (KeyValue × List ℕ)) (first : Option (KeyValue × List ℕ)) → lookup_entry test old ≡ first
    → lookup test (option_map_or (λ e. e ∷ remove_entry test old) first old) ≡ None → option_map_or (λ e. e ∷ remove_entry test old) first old ≡ old
unmoved test old None is none = refl
unmoved test old (Some e) is none =
    let passes = (Contains-lookup_entry test old e is).1 in
    let never = rw passes at none in cc

pub promoted-none : (value : KeyValue) (old new : List (KeyValue × List ℕ)) → new ≡ promoted (same_value value) old → lookup (same_value value) new ≡ None → new ≡ old
promoted-none value old new is none =
    let test = same_value value in
    is ∙ unmoved test old (lookup_entry test old) refl (sym (ap (lookup test) is) ∙ none)

pub put-kept : (value : KeyValue) (key : List ℕ) (cache : LruCache KeyValue (List ℕ)) (new : List (KeyValue × List ℕ))
    → new ≡ put_entries same_value cache value key → AreKeptWith value key cache.entries new
put-kept value key cache new is entry h = elim (Contains-put_entries same_value cache value key entry (subst (λ entries. Contains entries entry) is h)) [
  | inl before ↦ inl before
  | inr put ↦ inr (elim put.1 [
    | inl own ↦ together entry.0 entry.1 own put.0
    | inr equal ↦ together entry.0 entry.1 (same value entry.0 equal.2) put.0
  ])
]
  where
    together : (o : KeyValue) (k : List ℕ) → o ≡ value → k ≡ key → ◌≡◌ {A = KeyValue × List ℕ} (o, k) (value, key)
    together o k first second = λ i. (first i, second i)
