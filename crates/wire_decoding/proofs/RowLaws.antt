-- The two laws of rows that share a frame.
use Rattle.std.proofs.Common.{◌≡◌, ℕ, ◌^◌, ◌<◌, ◌≤◌, true, eqb, List, [], ◌∷◌, ◌++◌, length, Some, refl, sym, ap, subst, ◌∙◌, append_assoc, arith}
use Rattle.std.specs.Int.{w16}
use Rattle.std.specs.List.{All, flat_map, list_all}
use Rattle.std.proofs.lemmas.Bool.{eqb-true, eq-eqb, and_parts, and_from}
use Rattle.std.proofs.lemmas.List.Elements.{All-nil, All-cons, All-head, All-tail}
use Rattle.ae_base.specs.Limits.{most_frame_rows}
use Rattle.ae_base.specs.Options.{◌>>=◌}
use Rattle.wire_messages.specs.Conditions.{IsAtom}
use Rattle.wire_messages.specs.Messages.{IsFew}
use Rattle.wire_payloads.specs.Batches.{Atoms, IsBatch, width}
use Rattle.wire_encoding.specs.Packing.{rows_body}
use Rattle.wire_encoding.specs.Spelling as spell
use Rattle.wire_decoding.specs.Reading.{◌and◌, when, kept, number_at, parts_at, atom_at, is_few, is_within, is_as_wide, is_batch, shared_row_at, shared_rows_at, rows_at}
use Rattle.wire_decoding.proofs.Takes.{AreBytes, Takes, Takes-then, Reads, Reads-and, Reads-kept, parts_take, parts_again, bind_some, cond_some, some_is, when_is}
use Rattle.wire_decoding.proofs.FieldLaws.{u16_reads, within_from, within_to}
use Rattle.wire_decoding.proofs.MessageLaws.{few_from, few_to}
use Rattle.wire_decoding.proofs.PartLaws.{atom_reads}

-- ---- the test

abbrev IsAsWide : ℕ → Atoms → Type 0
IsAsWide columns row = length row ≡ columns

wide_from : (columns : ℕ) (rows : List Atoms) → list_all (is_as_wide columns) rows ≡ true → All (IsAsWide columns) rows
wide_from columns [] t = All-nil (IsAsWide columns)
wide_from columns (row ∷ rows) t =
    let b = and_parts (eqb (length row) columns) (list_all (is_as_wide columns) rows) t in
    All-cons (IsAsWide columns) row rows (eqb-true (length row) columns b.0) (wide_from columns rows b.1)

wide_to : (columns : ℕ) (rows : List Atoms) → All (IsAsWide columns) rows → list_all (is_as_wide columns) rows ≡ true
wide_to columns [] all = refl
wide_to columns (row ∷ rows) all =
    and_from (eqb (length row) columns) (list_all (is_as_wide columns) rows) (eq-eqb (length row) columns (All-head (IsAsWide columns) row rows all))
    (wide_to columns rows (All-tail (IsAsWide columns) row rows all))

pub is_batch_from : (rows : List Atoms) → is_batch rows ≡ true → IsBatch rows
is_batch_from rows t =
    let b = and_parts (is_within 1 most_frame_rows (length rows)) (list_all (is_as_wide (width rows)) rows) t in
    let w = within_from 1 most_frame_rows (length rows) b.0 in
    record { some = w.0; few = w.1; alike = wide_from (width rows) rows b.1 }

pub is_batch_to : (rows : List Atoms) → IsBatch rows → is_batch rows ≡ true
is_batch_to rows h =
    and_from (is_within 1 most_frame_rows (length rows)) (list_all (is_as_wide (width rows)) rows) (within_to 1 most_frame_rows (length rows) h.some h.few)
    (wide_to (width rows) rows h.alike)

-- ---- one row

abbrev pub IsRow : Atoms → Type 0
IsRow row = All IsAtom row × IsFew row

abbrev row_body : Atoms → List ℕ
row_body row = flat_map spell.atom row

-- a row of so many atoms
abbrev IsShared : ℕ → Atoms → Type 0
IsShared columns row = IsRow row × IsAsWide columns row

atoms_read : (columns : ℕ) → Reads row_body (λ row. IsAsWide columns row × All IsAtom row) (parts_at atom_at columns)
atoms_read columns = record {
  takes = λ bytes x fits e. let t = parts_take spell.atom IsAtom atom_at atom_reads columns bytes x fits e in (t.0, (t.1, t.2));
  again = λ row rest good.
      subst (λ (n : ℕ). parts_at atom_at n (row_body row ++ rest) ≡ Some (row, rest)) good.0 (parts_again spell.atom IsAtom atom_at atom_reads row rest good.1);
}

row_reads : (columns : ℕ) → Reads row_body (IsShared columns) (shared_row_at columns)
unfolding shared_row_at
row_reads columns =
    Reads-kept row_body (λ row. IsAsWide columns row × All IsAtom row) (IsShared columns) (parts_at atom_at columns) is_few
    (λ row h t. ((h.1, few_from row t), h.0)) (λ row h. ((h.1, h.0.0), few_to row h.0.1)) (atoms_read columns)

-- ---- the rows

counts_read : Reads (λ (n : ℕ × ℕ). spell.u16 n.0 ++ spell.u16 n.1) (λ n. (n.0 < 2 ^ 16) × (n.1 < 2 ^ 16)) (number_at w16 and number_at w16)
counts_read = Reads-and spell.u16 (λ n. n < 2 ^ 16) (number_at w16) spell.u16 (λ n. n < 2 ^ 16) (number_at w16) u16_reads u16_reads

width_is : (columns : ℕ) (rows : List Atoms) → 1 ≤ length rows → All (IsShared columns) rows → width rows ≡ columns
width_is columns [] some all = absurd (omega (arith, some))
width_is columns (row ∷ rows) some all = (All-head (IsShared columns) row rows all).1

are_rows : (columns : ℕ) (rows : List Atoms) → All (IsShared columns) rows → All IsRow rows
are_rows columns [] all = All-nil IsRow
are_rows columns (row ∷ rows) all = All-cons IsRow row rows (All-head (IsShared columns) row rows all).0 (are_rows columns rows (All-tail (IsShared columns) row rows all))

are_shared : (columns : ℕ) (rows : List Atoms) → All IsRow rows → All (IsAsWide columns) rows → All (IsShared columns) rows
are_shared columns [] all wide = All-nil (IsShared columns)
are_shared columns (row ∷ rows) all wide =
    All-cons (IsShared columns) row rows (All-head IsRow row rows all, All-head (IsAsWide columns) row rows wide)
    (are_shared columns rows (All-tail IsRow row rows all) (All-tail (IsAsWide columns) row rows wide))

rows_take : (bytes : List ℕ) (x : List Atoms × List ℕ) → AreBytes bytes → rows_at bytes ≡ Some x → 1 ≤ length x.0 → Takes bytes (rows_body x.0) x.1 × All IsRow x.0
unfolding rows_at
rows_take bytes x fits e some =
    let p = bind_some ((number_at w16 and number_at w16) bytes) (λ n. shared_rows_at n.0 n.1) x e in
    let columns = p.0.0.1 in
    let s = counts_read.takes bytes p.0 fits p.1 in
    let t = parts_take row_body (IsShared columns) (shared_row_at columns) (row_reads columns) p.0.0.0 p.0.1 x s.0.rest_fits p.2 in
    let both = Takes-then bytes (spell.u16 p.0.0.0 ++ spell.u16 columns) p.0.1 (flat_map row_body x.0) x.1 s.0 t.0 in
    let counted = subst (λ (n : ℕ). Takes bytes (spell.u16 n ++ spell.u16 columns ++ flat_map row_body x.0) x.1) (sym t.1) both in
    let wide = sym (width_is columns x.0 some t.2) in
    (subst (λ (n : ℕ). Takes bytes (spell.u16 (length x.0) ++ spell.u16 n ++ flat_map row_body x.0) x.1) wide counted, are_rows columns x.0 t.2)

rows_again : (rows : List Atoms) (rest : List ℕ) → length rows < 2 ^ 16 → width rows < 2 ^ 16 → All (IsShared (width rows)) rows → rows_at (rows_body rows ++ rest) ≡ Some (rows, rest)
unfolding rows_at
rows_again rows rest few narrow all =
    let counts : ℕ × ℕ = (length rows, width rows) in
    ap rows_at (append_assoc (spell.u16 (length rows) ++ spell.u16 (width rows)) (flat_map row_body rows) rest)
    ∙ rw (
      counts_read.again counts (flat_map row_body rows ++ rest) (few, narrow),
      parts_again row_body
          (IsShared (width rows)) (shared_row_at (width rows)) (row_reads (width rows)) rows rest all,
    ) refl

-- ---- rows that share a frame

abbrev pub AreShared : List Atoms → Type 0
AreShared rows = IsBatch rows × All IsRow rows

narrow_first : (rows : List Atoms) → All IsRow rows → width rows ≤ 512
narrow_first [] all = omega arith
narrow_first (row ∷ rows) all = (All-head IsRow row rows all).1.1

pub batch_reads : Reads rows_body AreShared (kept is_batch rows_at)
batch_reads = record {
  takes = λ bytes z fits e.
      let p = bind_some (rows_at bytes) (λ x. when is_batch x.0 >>= λ rows. Some (rows, x.1)) z e in
      let q = bind_some (when is_batch p.0.0) (λ rows. Some (rows, p.0.1)) z p.2 in
      let c = cond_some (is_batch p.0.0) p.0.0 q.0 q.1 in
      let b = is_batch_from p.0.0 c.0 in
      let t = rows_take bytes p.0 fits p.1 b.some in
      let made : List Atoms × List ℕ = (q.0, p.0.1) in
      subst (λ (w : List Atoms × List ℕ). Takes bytes (rows_body w.0) w.1 × AreShared w.0) (some_is made z q.2)
      (subst (λ (rows : List Atoms). Takes bytes (rows_body rows) p.0.1 × AreShared rows) c.1 (t.0, (b, t.1)));
  again = λ rows rest good.
      let few : length rows < 2 ^ 16 = omega (arith, good.0.few) in
      let narrow : width rows < 2 ^ 16 = omega (arith, narrow_first rows good.1) in
      rw (rows_again rows rest few narrow (are_shared (width rows) rows good.1 good.0.alike), when_is is_batch rows (is_batch_to rows good.0)) refl;
}
