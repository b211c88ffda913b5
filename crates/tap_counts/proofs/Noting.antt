-- One more of a class.
use Rattle.std.proofs.Common.{◌≡◌, ℕ, ◌<◌, List, [], ◌∷◌, ◌++◌, length, get_or, slice_set, refl, ap, sym, ◌∙◌, subst, arith, length-append, Bool, true, false, not}
use Rattle.std.specs.Prelude.{if◌then◌else◌}
use Rattle.std.specs.List.{list_any, position_or_len}
use Rattle.std.proofs.lemmas.List.{get_or_default}
use Rattle.cell_counts.specs.Counts.{Counted, no_counts, noted}
use Rattle.cell_counts.specs.declared.counts.Shown.{Shown}
use Rattle.scalar.specs.Classes.{Class}
use Rattle.tap_counts.specs.Counting.{Tallied, tallied}
use Rattle.tap_listing.specs.Classes.{class_eq}

abbrev longer : Bool → List Counted → List Counted
longer there ns = if there then ns else (ns ++ no_counts ∷ [])

abbrev wider : Bool → Class → List Class → List Class
wider there k ks = if there then ks else (ks ++ k ∷ [])

abbrev the_tally : List Class → List Counted → Tallied
the_tally x y = record { classes = x; counts = y }

as_long : (there : Bool) (k : Class) (ks : List Class) (ns : List Counted) → length ns ≡ length ks → length (longer there ns) ≡ length (wider there k ks)
as_long true k ks ns e = e
as_long false k ks ns e = omega (arith, e, length-append ns (no_counts ∷ []), length-append ks (k ∷ []))

was_there : (added there : Bool) → added ≡ not there → added ≡ false → there ≡ true
was_there true there e f = absurd cc
was_there false true e f = refl
was_there false false e f = absurd cc

was_new : (added there : Bool) → added ≡ not there → added ≡ true → there ≡ false
was_new false there e f = absurd cc
was_new true false e f = refl
was_new true true e f = absurd cc

module _ (t : Tallied) (ks past : List Class) (ns : List Counted) (k c : Class) (added : Bool) (n : ℕ)
    (shown : Shown) (view : record { classes = ks; counts = ns } ≡ t) (long : length ns ≡ length ks) (same : k ≡ c)
    (is_added : added ≡ not (list_any (class_eq k) ks)) (keys : past ≡ (if list_any (class_eq k) ks then ks else (ks ++ k ∷ [])))
    (at : n ≡ position_or_len (class_eq k) ks) (within : n < length past) where
  -- the counts of the class, one more, and all others as before
  counted : (base : List Counted) → base ≡ longer (list_any (class_eq k) ks) ns → (one new : Counted)
      → one ≡ get_or base n one → new ≡ noted one shown → record { classes = past; counts = slice_set base n new } ≡ tallied t c shown
  counted base is one new was e =
      let there = list_any (class_eq k) ks in
      let inside : n < length base = subst (λ l. n < l) (ap length keys ∙ sym (as_long there k ks ns long) ∙ sym (ap length is)) within in
      let value : new ≡ noted (get_or base n no_counts) shown = e ∙ ap (λ x. noted x shown) (was ∙ get_or_default base n one no_counts inside) in
      let classes : record { classes = past; counts = slice_set base n new } ≡ record { classes = wider there k ks; counts = slice_set base n (noted (get_or base n no_counts) shown) } =
      ap (λ (x : List Class). the_tally x (slice_set base n new)) keys ∙ ap (λ x. the_tally (wider there k ks) (slice_set base n x)) value in
      let counts : record { classes = wider there k ks; counts = slice_set base n (noted (get_or base n no_counts) shown) } ≡ tallied (the_tally ks ns) k shown =
      ap (λ b. the_tally (wider there k ks) (slice_set b n (noted (get_or b n no_counts) shown))) is
      ∙ ap (λ i. the_tally (wider there k ks) (slice_set (longer there ns) i (noted (get_or (longer there ns) i no_counts) shown))) at in
      classes ∙ counts ∙ ap (λ x. tallied (the_tally ks ns) x shown) same ∙ ap (λ x. tallied x c shown) view

  pub noted_there : (reserved : List Counted) → reserved ≡ ns → added ≡ false → (one new : Counted)
      → one ≡ get_or reserved n one → new ≡ noted one shown → record { classes = past; counts = slice_set reserved n new } ≡ tallied t c shown
  noted_there reserved room e one new was f =
      let there : list_any (class_eq k) ks ≡ true = was_there added (list_any (class_eq k) ks) is_added e in
      counted reserved (room ∙ rw there refl) one new was f

  pub noted_new : (reserved pushed : List Counted) (fresh : Counted) → reserved ≡ ns → added ≡ true
      → pushed ≡ reserved ++ fresh ∷ [] → fresh ≡ no_counts → (one new : Counted) → one ≡ get_or pushed n one → new ≡ noted one shown
      → record { classes = past; counts = slice_set pushed n new } ≡ tallied t c shown
  noted_new reserved pushed fresh room e f g one new was h =
      let none : list_any (class_eq k) ks ≡ false = was_new added (list_any (class_eq k) ks) is_added e in
      counted pushed (f ∙ ap (λ l. l ++ fresh ∷ []) room ∙ ap (λ x. ns ++ x ∷ []) g ∙ rw none refl) one new was h
