-- Frames are made by lengths alone, which a renaming keeps: rows that correspond share frames alike.
use Rattle.std.proofs.Common.{◌≡◌, ℕ, suc, ◌+◌, List, [], ◌∷◌, ◌++◌, length, Bool, true, false, refl, sym, ap, subst, ◌∙◌, length-append, inl, inr}
use Rattle.std.specs.Prelude.{flat_map, map, if◌then◌else◌, nat_lt, nat_le, ◌==◌, ◌&&◌}
use Rattle.std.specs.List.{AllZip}
use Rattle.ae_base.specs.Atoms.{Atom}
use Rattle.ae_base.specs.Limits.{most_frame_bytes, most_frame_rows}
use Rattle.ae_base.specs.declared.atoms.AtomOf.TheVariants.{Null, Plain, Sealed}
use Rattle.ae_base.specs.declared.frames.FrameVersion.{FrameVersion}
use Rattle.ae_base.specs.declared.frames.FrameVersion.TheVariants.{V1, V2}
use Rattle.renaming_laws.specs.Renaming.{AreCells, PairsCells}
use Rattle.scalar.specs.Classes.{Class, Open, Det, Rnd, Pairing, Listing, Correspond, RowsCorrespond}
use Rattle.server_core.specs.Correspond.{RepliesCorrespond, classes_behind, class_of_sent}
use Rattle.wire_messages.specs.declared.replies.Reply.{Reply}
use Rattle.wire_messages.specs.declared.replies.Reply.TheVariants.{Described, Columns, Row, Ended, Refused}
use Rattle.wire_payloads.specs.Payloads.{Atoms, width}
use Rattle.wire_payloads.specs.declared.payloads.Payload.{Payload}
use Rattle.wire_payloads.specs.declared.payloads.Payload.TheVariants.{One}
use Rattle.wire_encoding.specs.Packing.{closed, gathered, payloads_of, rows_body, takes}
use Rattle.wire_encoding.specs.Spelling.{atom, blob, u16}
use Rattle.frame_laws.specs.Correspond.{PayloadsCorrespond}
use Rattle.frame_laws.specs.Laws.{RepliesAreCarriedAlike}

-- ---- lists

zip_push : {A B : Type 0} (P : A → B → Type 0) (xs : List A) (ys : List B) (x : A) (y : B) → AllZip P xs ys → P x y → AllZip P (xs ++ x ∷ []) (ys ++ y ∷ [])
zip_push P [] [] x y h k = (k, tt)
zip_push P [] (b ∷ ys) x y h k = absurd h
zip_push P (a ∷ xs) [] x y h k = absurd h
zip_push P (a ∷ xs) (b ∷ ys) x y h k = (h.0, zip_push P xs ys x y h.1 k)

blob_length : (xs ys : List ℕ) → length ys ≡ length xs → length (blob ys) ≡ length (blob xs)
blob_length xs ys e = length-append (u16 (length ys)) ys ∙ ap (λ n. length (u16 n) + n) e ∙ sym (length-append (u16 (length xs)) xs)

-- two numbers, and then bytes
numbered : (n w : ℕ) (bytes : List ℕ) → length (u16 n ++ u16 w ++ bytes) ≡ length (u16 n) + (length (u16 w) + length bytes)
numbered n w bytes = length-append (u16 n) (u16 w ++ bytes) ∙ ap (λ k. length (u16 n) + k) (length-append (u16 w) bytes)

-- whether a frame with so many rows has room for a row, beside a first row and in a body of these lengths
abbrev has_room : ℕ → ℕ → ℕ → ℕ → Bool
has_room rows row first body = nat_lt rows most_frame_rows && (row == first) && nat_le body most_frame_bytes

same_room : (a b c d w x y z : ℕ) → a ≡ w → b ≡ x → c ≡ y → d ≡ z → has_room a b c d ≡ has_room w x y z
same_room a b c d w x y z e f g h =
    ap (λ n. has_room n b c d) e ∙ ap (λ n. has_room w n c d) f ∙ ap (λ n. has_room w x n d) g ∙ ap (λ n. has_room w x y n) h

module _ (R : Pairing) (cells : PairsCells R) where
  -- ---- lengths

  cell_length : (a b : Atom) → AreCells a b → length (atom b) ≡ length (atom a)
  cell_length (Sealed x) (Sealed y) h = ap suc (blob_length x y h.0)
  cell_length Null b h = absurd h
  cell_length (Plain v) b h = absurd h
  cell_length (Sealed x) Null h = absurd h
  cell_length (Sealed x) (Plain v) h = absurd h

  atom_length : (c : Class) (a b : Atom) → Correspond R c a b → length (atom b) ≡ length (atom a)
  atom_length Open a b h = ap (λ x. length (atom x)) h.0
  atom_length (Det key ty) a b h =
      elim h [ inl nulls ↦ ap (λ x. length (atom x)) (nulls.1 ∙ sym nulls.0) | inr paired ↦ cell_length a b (cells (Det key ty) a b paired) ]
  atom_length (Rnd key ty) a b h =
      elim h [ inl nulls ↦ ap (λ x. length (atom x)) (nulls.1 ∙ sym nulls.0) | inr paired ↦ cell_length a b (cells (Rnd key ty) a b paired) ]

  row_length : (classes : List Class) (row other : Atoms) → RowsCorrespond R classes row other → (length other ≡ length row) × (length (flat_map atom other) ≡ length (flat_map atom row))
  row_length [] [] [] h = (refl, refl)
  row_length [] [] (b ∷ bs) h = absurd h
  row_length [] (a ∷ xs) bs h = absurd h
  row_length (c ∷ cs) [] bs h = absurd h
  row_length (c ∷ cs) (a ∷ xs) [] h = absurd h
  row_length (c ∷ cs) (a ∷ xs) (b ∷ bs) h =
      let first = atom_length c a b h.0 in
      let rest = row_length cs xs bs h.1 in (
        ap suc rest.0,
        length-append (atom b) (flat_map atom bs)
            ∙ ap (λ n. n + length (flat_map atom bs)) first
            ∙ ap (λ n. length (atom a) + n) rest.1
            ∙ sym (length-append (atom a) (flat_map atom xs)),
      )

  rows_length : (classes : List Class) (rows others : List Atoms) → AllZip (RowsCorrespond R classes) rows others
      → (length others ≡ length rows) × (length (flat_map (flat_map atom) others) ≡ length (flat_map (flat_map atom) rows))
  rows_length classes [] [] h = (refl, refl)
  rows_length classes [] (other ∷ others) h = absurd h
  rows_length classes (row ∷ rows) [] h = absurd h
  rows_length classes (row ∷ rows) (other ∷ others) h =
      let first = (row_length classes row other h.0).1 in
      let rest = rows_length classes rows others h.1 in (
        ap suc rest.0,
        length-append (flat_map atom other) (flat_map (flat_map atom) others)
            ∙ ap (λ n. n + length (flat_map (flat_map atom) others)) first
            ∙ ap (λ n. length (flat_map atom row) + n) rest.1
            ∙ sym (length-append (flat_map atom row) (flat_map (flat_map atom) rows)),
      )

  same_width : (classes : List Class) (rows others : List Atoms) → AllZip (RowsCorrespond R classes) rows others → width others ≡ width rows
  same_width classes [] [] h = refl
  same_width classes [] (other ∷ others) h = absurd h
  same_width classes (row ∷ rows) [] h = absurd h
  same_width classes (row ∷ rows) (other ∷ others) h = (row_length classes row other h.0).0

  body_length : (classes : List Class) (rows others : List Atoms) → AllZip (RowsCorrespond R classes) rows others → length (rows_body others) ≡ length (rows_body rows)
  body_length classes rows others h =
      let bytes = flat_map (flat_map atom) rows in
      let more = flat_map (flat_map atom) others in
      let n = rows_length classes rows others h in
      numbered (length others) (width others) more
      ∙ ap (λ k. length (u16 k) + (length (u16 (width others)) + length more)) n.0
      ∙ ap (λ k. length (u16 (length rows)) + (length (u16 k) + length more)) (same_width classes rows others h)
      ∙ ap (λ k. length (u16 (length rows)) + (length (u16 (width rows)) + k)) n.1
      ∙ sym (numbered (length rows) (width rows) bytes)

  same_takes : (classes : List Class) (rows others : List Atoms) (row other : Atoms) → AllZip (RowsCorrespond R classes) rows others
      → RowsCorrespond R classes row other → takes others other ≡ takes rows row
  same_takes classes [] [] row other h k = refl
  same_takes classes [] (start ∷ others) row other h k = absurd h
  same_takes classes (first ∷ rows) [] row other h k = absurd h
  same_takes classes (first ∷ rows) (start ∷ others) row other h k =
      same_room (length (start ∷ others)) (length other) (length start) (length (rows_body (start ∷ others ++ other ∷ [])))
      (length (first ∷ rows)) (length row) (length first) (length (rows_body (first ∷ rows ++ row ∷ [])))
      (rows_length classes (first ∷ rows) (start ∷ others) h).0
      (row_length classes row other k).0
      (row_length classes first start h.0).0
      (body_length classes (first ∷ rows ++ row ∷ []) (start ∷ others ++ other ∷ []) (zip_push (RowsCorrespond R classes) (first ∷ rows) (start ∷ others) row other h k))

  -- ---- frames

  either_way : (classes : List Class) (p q u v : List Payload) (s t : Bool) → t ≡ s → PayloadsCorrespond R classes p u → PayloadsCorrespond R classes q v
      → PayloadsCorrespond R classes (if s then p else q) (if t then u else v)
  either_way classes p q u v true true e h k = h
  either_way classes p q u v false false e h k = k
  either_way classes p q u v true false e h k = absurd cc
  either_way classes p q u v false true e h k = absurd cc

  closed_alike : (classes : List Class) (rows others : List Atoms) → AllZip (RowsCorrespond R classes) rows others → PayloadsCorrespond R classes (closed rows) (closed others)
  closed_alike classes [] [] h = tt
  closed_alike classes [] (other ∷ others) h = absurd h
  closed_alike classes (row ∷ rows) [] h = absurd h
  closed_alike classes (row ∷ rows) (other ∷ others) h = (h, tt)

  closed_then : (classes : List Class) (rows others : List Atoms) (us vs : List Payload) → AllZip (RowsCorrespond R classes) rows others → PayloadsCorrespond R classes us vs
      → PayloadsCorrespond R classes (closed rows ++ us) (closed others ++ vs)
  closed_then classes [] [] us vs h k = k
  closed_then classes [] (other ∷ others) us vs h k = absurd h
  closed_then classes (row ∷ rows) [] us vs h k = absurd h
  closed_then classes (row ∷ rows) (other ∷ others) us vs h k = (h, k)

  gathered_alike : (classes : List Class) (rows others : List Atoms) (xs ys : List Reply) → AllZip (RowsCorrespond R classes) rows others → RepliesCorrespond R classes xs ys
      → PayloadsCorrespond R classes (gathered rows xs) (gathered others ys)
  gathered_alike classes rows others [] [] h k = closed_alike classes rows others h
  gathered_alike classes rows others [] (y ∷ ys) h k = absurd k
  gathered_alike classes rows others (x ∷ xs) [] h k = absurd k
  gathered_alike classes rows others (Row row ∷ xs) (Row other ∷ ys) h k =
      either_way classes (gathered (rows ++ row ∷ []) xs) (closed rows ++ gathered (row ∷ []) xs)
      (gathered (others ++ other ∷ []) ys) (closed others ++ gathered (other ∷ []) ys) (takes rows row) (takes others other)
      (same_takes classes rows others row other h k.0)
      (gathered_alike classes (rows ++ row ∷ []) (others ++ other ∷ []) xs ys (zip_push (RowsCorrespond R classes) rows others row other h k.0) k.1)
      (closed_then classes rows others (gathered (row ∷ []) xs) (gathered (other ∷ []) ys) h (gathered_alike classes (row ∷ []) (other ∷ []) xs ys (k.0, tt) k.1))
  gathered_alike classes rows others (Row row ∷ xs) (Described d ∷ ys) h k = absurd k.0
  gathered_alike classes rows others (Row row ∷ xs) (Columns c ∷ ys) h k = absurd k.0
  gathered_alike classes rows others (Row row ∷ xs) (Ended done ∷ ys) h k = absurd k.0
  gathered_alike classes rows others (Row row ∷ xs) (Refused f ∷ ys) h k = absurd k.0
  gathered_alike classes rows others (Described d ∷ xs) (y ∷ ys) h k =
      subst (λ (z : Reply). PayloadsCorrespond R classes (gathered rows (Described d ∷ xs)) (gathered others (z ∷ ys))) (sym k.0)
      (closed_then classes rows others (One (Described d) ∷ gathered [] xs) (One (Described d) ∷ gathered [] ys) h (refl, gathered_alike classes [] [] xs ys tt k.1))
  gathered_alike classes rows others (Columns c ∷ xs) (y ∷ ys) h k =
      subst (λ (z : Reply). PayloadsCorrespond R classes (gathered rows (Columns c ∷ xs)) (gathered others (z ∷ ys))) (sym k.0)
      (closed_then classes rows others (One (Columns c) ∷ gathered [] xs) (One (Columns c) ∷ gathered [] ys) h (refl, gathered_alike (map class_of_sent c.columns) [] [] xs ys tt k.1))
  gathered_alike classes rows others (Ended done ∷ xs) (y ∷ ys) h k =
      subst (λ (z : Reply). PayloadsCorrespond R classes (gathered rows (Ended done ∷ xs)) (gathered others (z ∷ ys))) (sym k.0)
      (closed_then classes rows others (One (Ended done) ∷ gathered [] xs) (One (Ended done) ∷ gathered [] ys) h (refl, gathered_alike classes [] [] xs ys tt k.1))
  gathered_alike classes rows others (Refused f ∷ xs) (y ∷ ys) h k =
      subst (λ (z : Reply). PayloadsCorrespond R classes (gathered rows (Refused f ∷ xs)) (gathered others (z ∷ ys))) (sym k.0)
      (closed_then classes rows others (One (Refused f) ∷ gathered [] xs) (One (Refused f) ∷ gathered [] ys) h (refl, gathered_alike classes [] [] xs ys tt k.1))

  single_alike : (classes : List Class) (xs ys : List Reply) → RepliesCorrespond R classes xs ys → PayloadsCorrespond R classes (map One xs) (map One ys)
  single_alike classes [] [] k = tt
  single_alike classes [] (y ∷ ys) k = absurd k
  single_alike classes (x ∷ xs) [] k = absurd k
  single_alike classes (x ∷ xs) (y ∷ ys) k = (k.0, single_alike (classes_behind classes x) xs ys k.1)

  alike_in : (version : FrameVersion) (xs ys : List Reply) → RepliesCorrespond R [] xs ys → PayloadsCorrespond R [] (payloads_of version xs) (payloads_of version ys)
  alike_in V1 xs ys k = single_alike [] xs ys k
  alike_in V2 xs ys k = gathered_alike [] [] [] xs ys tt k

pub carried_alike : RepliesAreCarriedAlike
carried_alike entries renaming version replies others k = alike_in (Listing entries) renaming.cells version replies others k
