-- The entry whose gate stands at a place of a mounted journal.
use Rattle.std.proofs.Common.{◌≡◌, ◌≢◌, ℕ, ◌+◌, ◌<◌, ◌^◌, List, [], ◌∷◌, ◌++◌, length, drop, get_or, Option, Some, None, refl, sym, ap, subst, ◌∙◌, append_assoc, arith, length-append}
use Rattle.std.specs.Prelude.{IfSome}
use Rattle.std.proofs.lemmas.List.{drop_at, drop_more}
use Rattle.ae_edge.specs.Devices.{WhereExposed}
use Rattle.disk.specs.Crashes.{Stand}
use Rattle.disk.specs.Durable.{StaysKept}
use Rattle.disk.specs.Moments.{Moments}
use Rattle.ae_edge.proofs.Interface.{told_map}
use Rattle.disk.proofs.Interface.{told_after}
use Rattle.journal_core.specs.Appends.{EndsAt, IsMounted}
use Rattle.journal_core.specs.Entries.{Continues, StandFrom}
use Rattle.journal_core.specs.Journals.{framed, HasRecord, Opens}
use Rattle.journal_core.specs.Reading.{IsAt, IsKeptTo, Stands}
use Rattle.journal_core.specs.declared.entries.Entry.TheVariants as entry
use Rattle.journal_core.specs.declared.reading.Stood.{Stood}
use Rattle.journal_core.specs.declared.reading.Stood.TheVariants as stood
use Rattle.journal_core.proofs.Appending.{mounted_kept}
use Rattle.journal_core.proofs.Finding.{front_place}
use Rattle.journal_core.proofs.Parts.{stays_same}
use Rattle.journal_core.proofs.Readings.{framed_unique, next_there}

-- ---- a mounted journal

pub mounted_to : (gate : ℕ) (disk : Moments) → IsMounted gate disk → IsKeptTo gate disk
mounted_to gate disk m = let e = m.1 in record {
  kept = mounted_kept gate disk m;
  reaches = omega (arith, e.gate_is, ap (λ (s : Stand). length s.seen) e.now, length-append e.front (0 ∷ []));
}

-- where the disk stands as it stood, it is still mounted
pub ends_still : (gate : ℕ) (entries : List (List ℕ)) (a b : Moments) → EndsAt gate entries a → StaysKept a b → EndsAt gate entries b
ends_still gate entries a b e s = record { front = e.front; opens = e.opens; gate_is = e.gate_is; now = s.now ∙ e.now }

pub still_mounted_told : (gate : ℕ) (a b : Option Moments) → IfSome a (IsMounted gate) → WhereExposed StaysKept a b → IfSome b (IsMounted gate)
still_mounted_told gate = told_after (IsMounted gate) StaysKept (IsMounted gate) (λ a b m s. (m.0, ends_still gate m.0 a b m.1 s))

-- ---- the entries before a place, and those from it on

record Splits (before others : List (List ℕ)) (front : List ℕ) : Type 0 where
  first : List ℕ
  second : List ℕ
  whole : front ≡ first ++ second
  before_open : Opens before first
  others_open : Opens others second

split : (before others : List (List ℕ)) (front : List ℕ) → Opens (before ++ others) front → Splits before others front
split [] others front o = record { first = []; second = front; whole = refl; before_open = refl; others_open = o }
split (e ∷ before) others front o =
    let s = split before others o.0 o.2 in
    let b = o.1 in
    record {
      first = b.gate ∷ (framed e ++ s.first);
      second = s.second;
      whole = b.whole ∙ ap (λ (w : List ℕ). b.gate ∷ (framed e ++ w)) s.whole ∙ ap (λ (w : List ℕ). b.gate ∷ w) (sym (append_assoc (framed e) s.first s.second));
      before_open = (s.first, record { gate = b.gate; is_open = b.is_open; is_entry = b.is_entry; whole = refl }, s.before_open);
      others_open = s.others_open;
    }

-- an open gate at a place, and what stands behind it
gate_there : (file first rest : List ℕ) (gate place : ℕ) → file ≡ first ++ gate ∷ rest → length first ≡ place → (get_or file place 0 ≡ gate) × (drop (place + 1) file ≡ rest)
gate_there file first rest gate place e n =
    let inside : place < length file = omega (arith, n, ap length e, length-append first (gate ∷ rest)) in
    let here : get_or file place 0 ∷ drop (place + 1) file ≡ gate ∷ rest = sym (drop_more file place 0 inside) ∙ ap (drop place) e ∙ drop_at first (gate ∷ rest) place n in
    let gates : get_or file place 0 ≡ gate = cc in
    let rests : drop (place + 1) file ≡ rest = cc in
    (gates, rests)

module _ (gate place : ℕ) (entries : List (List ℕ)) (a : Moments) (ends : EndsAt gate entries a) where
  -- at the last gate there are no others
  none_left : (others : List (List ℕ)) → StandFrom place others entries → place ≡ gate → others ≡ []
  none_left [] from e = refl
  none_left (x ∷ others) from e =
      let s = split from.before (x ∷ others) ends.front (subst (λ (es : List (List ℕ)). Opens es ends.front) from.whole ends.opens) in
      absurd (omega (
        arith,
        e,
        ends.gate_is,
        ap length s.whole,
        length-append s.first s.second,
        front_place from.before s.first s.before_open,
        from.place_is,
        ap length s.others_open.1.whole,
      ))

  file_is : (others : List (List ℕ)) (from : StandFrom place others entries) (s : Splits from.before others ends.front) → a.now.seen ≡ s.first ++ (s.second ++ 0 ∷ [])
  file_is others from s = ap (λ (w : Stand). w.seen) ends.now ∙ ap (λ (w : List ℕ). w ++ 0 ∷ []) s.whole ∙ append_assoc s.first s.second (0 ∷ [])

  some_left : place < gate → StandFrom place [] entries → ⊥
  some_left less from =
      let s = split from.before [] ends.front (subst (λ (es : List (List ℕ)). Opens es ends.front) from.whole ends.opens) in
      absurd (omega (arith, less, ends.gate_is, ap length s.whole, length-append s.first s.second, front_place from.before s.first s.before_open, from.place_is, ap length s.others_open))

  -- what the first of the others looks like in the file
  begins_there : (x : List ℕ) (others : List (List ℕ)) → StandFrom place (x ∷ others) entries
      → (rest : List ℕ) × (get_or a.now.seen place 0 ≢ 0) × (length x < 2 ^ 64) × (drop (place + 1) a.now.seen ≡ framed x ++ (rest ++ 0 ∷ [])) × HasRecord (drop (place + 1) a.now.seen)
  begins_there x others from =
      let s = split from.before (x ∷ others) ends.front (subst (λ (es : List (List ℕ)). Opens es ends.front) from.whole ends.opens) in
      let r = s.others_open.0 in
      let b = s.others_open.1 in
      let n : length s.first ≡ place = front_place from.before s.first s.before_open ∙ sym from.place_is in
      let whole : a.now.seen ≡ s.first ++ b.gate ∷ (framed x ++ (r ++ 0 ∷ [])) =
      file_is (x ∷ others) from s ∙ ap (λ (w : List ℕ). s.first ++ (w ++ 0 ∷ [])) b.whole ∙ ap (λ (w : List ℕ). s.first ++ b.gate ∷ w) (append_assoc (framed x) r (0 ∷ [])) in
      let there = gate_there a.now.seen s.first (framed x ++ (r ++ 0 ∷ [])) b.gate place whole n in
      let next = next_there r 0 [] in (
        r,
        (λ e. b.is_open (sym there.0 ∙ e)),
        b.is_entry.small,
        there.1,
        record { entry = x; next = next.0; rest = next.1; is_entry = b.is_entry; whole = there.1 ∙ ap (λ (w : List ℕ). framed x ++ w) next.2 },
      )

  -- the entry that was read is the first of the others
  same_entry : (found : List ℕ) → IsAt (stood.Open found) place a.now.seen → (others : List (List ℕ)) → place < gate → StandFrom place others entries → (more : List (List ℕ)) × (others ≡ found ∷ more)
  same_entry found at [] less from = absurd (some_left less from)
  same_entry found at (x ∷ others) less from =
      let b = begins_there x others from in
      let one = framed_unique x found (b.0 ++ 0 ∷ []) (at.next ∷ at.rest) b.2 at.is_entry.small (sym b.3 ∙ at.behind) in
      (others, ap (λ (y : List ℕ). y ∷ others) one.0)

  isnt_closed : get_or a.now.seen place 0 ≡ 0 → (others : List (List ℕ)) → place < gate → StandFrom place others entries → ⊥
  isnt_closed e [] less from = some_left less from
  isnt_closed e (x ∷ others) less from = (begins_there x others from).1 e

  isnt_broken : ¬ HasRecord (drop (place + 1) a.now.seen) → (others : List (List ℕ)) → place < gate → StandFrom place others entries → ⊥
  isnt_broken none [] less from = some_left less from
  isnt_broken none (x ∷ others) less from = none (begins_there x others from).4

-- ---- by what was read

pub end_told : (place gate : ℕ) → place ≡ gate → (a : Option Moments) → IfSome a (IsMounted gate) → WhereExposed (Continues entry.End place gate) a a
end_told place gate e (Some a) m = ((λ entries others ends from. none_left gate place entries a ends others from e), stays_same a (mounted_kept gate a m))
end_told place gate e None m = tt

module _ (place gate : ℕ) (less : place < gate) where
  pub next_told : (found : List ℕ) (a b : Option Moments) → WhereExposed (Stands (stood.Open found) place) a b → WhereExposed (Continues (entry.Next found) place gate) a b
  next_told found = told_map (Stands (stood.Open found) place) (Continues (entry.Next found) place gate)
      (λ a b s. ((λ entries others ends from. same_entry gate place entries a ends found s.0 others less from), s.1))

  pub closed_other_told : (a b : Option Moments) → WhereExposed (Stands stood.Closed place) a b → WhereExposed (Continues entry.Other place gate) a b
  closed_other_told = told_map (Stands stood.Closed place) (Continues entry.Other place gate)
      (λ a b s. ((λ entries others ends from. isnt_closed gate place entries a ends s.0 others less from), s.1))

  pub broken_other_told : (a b : Option Moments) → WhereExposed (Stands stood.Broken place) a b → WhereExposed (Continues entry.Other place gate) a b
  broken_other_told = told_map (Stands stood.Broken place) (Continues entry.Other place gate)
      (λ a b s. ((λ entries others ends from. isnt_broken gate place entries a ends s.0.1 others less from), s.1))

  pub failed_entry_told : (a b : Option Moments) → WhereExposed (Stands stood.Failed place) a b → WhereExposed (Continues entry.Failed place gate) a b
  failed_entry_told = told_map (Stands stood.Failed place) (Continues entry.Failed place gate) (λ a b s. ((λ entries others ends from. tt), s.1))

  pub unheld_entry_told : (a b : Option Moments) → WhereExposed (Stands stood.OutOfMemory place) a b → WhereExposed (Continues entry.OutOfMemory place gate) a b
  unheld_entry_told = told_map (Stands stood.OutOfMemory place) (Continues entry.OutOfMemory place gate) (λ a b s. ((λ entries others ends from. tt), s.1))

pub stands_told : (found : Stood) (place : ℕ) (a b : Option Moments) → WhereExposed (Stands found place) a b → WhereExposed StaysKept a b
stands_told found place = told_map (Stands found place) StaysKept (λ a b s. s.1)
