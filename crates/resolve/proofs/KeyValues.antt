-- What bound values of column keys are: of wrapped keys within their limits, under master keys that are there and differ.
use Rattle.std.proofs.Common.{◌≡◌, ◌≢◌, ℕ, List, [], ◌∷◌, length, Bool, true, false, cond, ◌&&◌, nat_le, Option, Some, None, Ok, Err, IsSome, refl, sym, ◌∙◌, subst, arith}
use Rattle.std.specs.List.{All}
use Rattle.std.specs.Str.{bytes_eq}
use Rattle.std.proofs.lemmas.Bool.{leb-true}
use Rattle.std.proofs.lemmas.List.Elements.{All-nil, All-cons}
use Rattle.std.proofs.lemmas.List.Kept.{AllPairs-cons}
use Rattle.std.proofs.lemmas.Slice.Eq.{bytes_eq-Decides}
use Rattle.ae_base.specs.Keys.{IsWrappedKey}
use Rattle.ae_base.specs.OneOrTwo.{each_of}
use Rattle.ae_base.specs.Results.{or_fault}
use Rattle.ae_base.specs.declared.faults.SqlFault.TheVariants as fault
use Rattle.ae_base.specs.declared.keys.EncryptedValue.{EncryptedValue}
use Rattle.ae_base.specs.declared.one_or_two.OneOrTwo.{OneOrTwo}
use Rattle.sql_tree.specs.declared.statements.WrittenValue.{WrittenValue}
use Rattle.catalog.specs.Catalogs.{Catalog, master_named, key_named}
use Rattle.catalog.specs.WellFormed.{IsMasterThere, AreMastersThere, MastersDiffer}
use Rattle.resolve.specs.Definitions.{wrapped_key, master_for, key_for, bind_key_value, bind_second_value, bind_key_values}
use Rattle.expression_binding.proofs.Interface.{two_parts, first_part}
use Rattle.expression_binding.proofs.Interface.{found}

-- ---- keys that are found

pub master_found : (catalog : Catalog) (master : List ℕ) (m : Unit {0}) → master_for catalog master ≡ Ok m → IsSome (master_named catalog master)
master_found catalog master m e =
    first_part (or_fault (fault.NoKey master) (master_named catalog master)) (λ key. Ok tt) m (IsSome (master_named catalog master)) e
    (λ key ek e1. subst IsSome (sym (found (fault.NoKey master) (master_named catalog master) key ek)) refl)

pub key_found : (catalog : Catalog) (name : List ℕ) (m : Unit {0}) → key_for catalog name ≡ Ok m → IsSome (key_named catalog name)
key_found catalog name m e =
    first_part (or_fault (fault.NoKey name) (key_named catalog name)) (λ key. Ok tt) m (IsSome (key_named catalog name)) e
    (λ key ek e1. subst IsSome (sym (found (fault.NoKey name) (key_named catalog name) key ek)) refl)

-- ---- one value

pub wrapped_is : (bytes w : List ℕ) → wrapped_key bytes ≡ Ok w → IsWrappedKey w
wrapped_is bytes w e = go (nat_le 1 (length bytes)) (nat_le (length bytes) 1024) refl refl e
  where
    go : (t u : Bool) → nat_le 1 (length bytes) ≡ t → nat_le (length bytes) 1024 ≡ u → cond (t && u) (Ok bytes) (Err fault.TooLong) ≡ Ok w → IsWrappedKey w
    go true true h k e = let i : bytes ≡ w = cc in subst IsWrappedKey i (leb-true 1 (length bytes) h, leb-true (length bytes) 1024 k)
    go true false h k e = absurd cc
    go false u h k e = absurd cc

pub record IsBoundValue (catalog : Catalog) (written : WrittenValue) (value : EncryptedValue) : Type 0 where
  pub master : value.master ≡ written.master
  pub there : IsMasterThere catalog value
  pub wrapped : IsWrappedKey value.wrapped

pub value_bound : (catalog : Catalog) (written : WrittenValue) (value : EncryptedValue) → bind_key_value catalog written ≡ Ok value → IsBoundValue catalog written value
value_bound catalog written value e =
    two_parts (wrapped_key written.wrapped) (master_for catalog written.master) (λ w m. record { master = written.master; wrapped = w }) value (IsBoundValue catalog written) e
    (λ w m ew em. record { master = refl; there = master_found catalog written.master m em; wrapped = wrapped_is written.wrapped w ew })

-- ---- one or two

pub record AreBoundValues (catalog : Catalog) (values : OneOrTwo EncryptedValue) : Type 0 where
  pub there : AreMastersThere catalog values
  pub differ : MastersDiffer values
  pub wrapped : All (λ value. IsWrappedKey value.wrapped) (each_of values)

one_alone : (catalog : Catalog) (written : WrittenValue) (value : EncryptedValue) → IsBoundValue catalog written value → AreBoundValues catalog (record { first = value; second = None })
one_alone catalog written value b = record {
  there = All-cons (IsMasterThere catalog) value [] b.there (All-nil (IsMasterThere catalog));
  differ = λ i j d lt within. absurd (omega arith);
  wrapped = All-cons (λ v. IsWrappedKey v.wrapped) value [] b.wrapped (All-nil (λ v. IsWrappedKey v.wrapped));
}

two_values : (catalog : Catalog) (first second : WrittenValue) (v w : EncryptedValue) → IsBoundValue catalog first v → IsBoundValue catalog second w → bytes_eq second.master first.master ≡ false
    → AreBoundValues catalog (record { first = v; second = Some w })
two_values catalog first second v w a b other = record {
  there = All-cons (IsMasterThere catalog) v (w ∷ []) a.there (All-cons (IsMasterThere catalog) w [] b.there (All-nil (IsMasterThere catalog)));
  differ =
      AllPairs-cons (λ a b. a.master ≢ b.master) v (w ∷ []) (All-cons (λ b. v.master ≢ b.master) w [] apart (All-nil (λ b. v.master ≢ b.master)))
      (λ i j d lt within. absurd (omega arith));
  wrapped = All-cons (λ x. IsWrappedKey x.wrapped) v (w ∷ []) a.wrapped (All-cons (λ x. IsWrappedKey x.wrapped) w [] b.wrapped (All-nil (λ x. IsWrappedKey x.wrapped)));
}
  where
    apart : v.master ≢ w.master
    apart same = let t = (bytes_eq-Decides second.master first.master).1 (sym b.master ∙ sym same ∙ a.master) in cc

pub values_bound : (catalog : Catalog) (written : OneOrTwo WrittenValue) (values : OneOrTwo EncryptedValue) → bind_key_values catalog written ≡ Ok values → AreBoundValues catalog values
values_bound catalog written values e =
    two_parts (bind_key_value catalog written.first) (bind_second_value catalog written.first.master written.second) (λ v o. record { first = v; second = o }) values (AreBoundValues catalog) e
    (λ v o ev eo. behind_first v o (value_bound catalog written.first v ev) written.second eo)
  where
    behind_first : (v : EncryptedValue) (o : Option EncryptedValue) → IsBoundValue catalog written.first v → (second : Option WrittenValue)
        → bind_second_value catalog written.first.master second ≡ Ok o → AreBoundValues catalog (record { first = v; second = o })
    behind_first v o b None eo = let i : None ≡ o = cc in subst (λ o. AreBoundValues catalog (record { first = v; second = o })) i (one_alone catalog written.first v b)
    behind_first v o b (Some second) eo =
        first_part (bind_key_value catalog second) (λ w. cond (bytes_eq second.master written.first.master) (Err (fault.Ambiguous second.master)) (Ok (Some w))) o
        (AreBoundValues catalog (record { first = v; second = o })) eo
        (λ w ew e1. last w (value_bound catalog second w ew) (bytes_eq second.master written.first.master) refl e1)
      where
        last : (w : EncryptedValue) → IsBoundValue catalog second w → (t : Bool) → bytes_eq second.master written.first.master ≡ t
            → cond t (Err (fault.Ambiguous second.master)) (Ok (Some w)) ≡ Ok o → AreBoundValues catalog (record { first = v; second = o })
        last w c true et e1 = absurd cc
        last w c false et e1 = let i : Some w ≡ o = cc in subst (λ o. AreBoundValues catalog (record { first = v; second = o })) i (two_values catalog written.first second v w b c et)
