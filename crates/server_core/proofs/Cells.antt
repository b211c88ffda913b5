-- A state whose protected columns hold NULL and cells alone corresponds to itself, each cell paired with itself. So a call leaves such a state.
use Rattle.std.proofs.Common.{◌≡◌, inl, inr, ℕ, List, [], ◌∷◌, map, length, Option, Some, None, Bool, false, refl, sym, ap, ◌∙◌, subst, arith}
use Rattle.std.specs.Prelude.{IsTrue}
use Rattle.std.specs.List.{All, AllZip}
use Rattle.std.specs.Str.{bytes_eq}
use Rattle.std.proofs.lemmas.List.Elements.{All-nil, All-cons, All-head, All-tail}
use Rattle.std.proofs.lemmas.Slice.Eq.{bytes_eq-Decides}
use Rattle.ae_base.specs.Atoms.{Atom}
use Rattle.ae_base.specs.declared.atoms.AtomOf.TheVariants.{Null, Plain, Sealed}
use Rattle.ae_base.specs.declared.tables.ColumnDef.{ColumnDef}
use Rattle.ae_base.specs.declared.tables.TableDef.{TableDef}
use Rattle.ae_base.specs.declared.types.Enc.{Enc}
use Rattle.ae_base.specs.declared.types.Enc.TheVariants as enc
use Rattle.ae_base.specs.declared.types.Ty.{Ty}
use Rattle.sql_tree.specs.Bound.{Bound}
use Rattle.scalar.specs.Classes.{Class, IsNotNull, IsOneToOne, Correspond, RowsCorrespond, class_of}
use Rattle.engine.specs.Correspond.{Related, ArePairsWithin, IsWithinClass, ContentsCorrespond, class_of_column}
use Rattle.engine.specs.Typed.{param_classes}
use Rattle.engine.specs.WellTyped.{IsAtomOf, IsOf, IsTableOf, AreValuesOf}
use Rattle.transactions.specs.Correspond.{CountedCorrespond, SessionsCorrespond, StoresCorrespond}
use Rattle.transactions.specs.Counted.{Counted, Execution, execution}
use Rattle.transactions.specs.Stores.{Transaction, ask_of, world_of, transact}
use Rattle.transactions.specs.WellKept.{IsCountedWell, IsOpen, IsStore, MayAsk}
use Rattle.transactions.proofs.Interface.{asks_alike, transact_alike, transact_keeps}
use Rattle.server_core.specs.Serve.{State}
use Rattle.server_core.specs.States.{is_short, IsProtectedBy, IsTableProtected, IsOwnProtected, IsState}

-- ---- each cell is paired with itself alone, at every class

abbrev same_cell : Atom → Atom → Bool
same_cell (Sealed cell) (Sealed other) = bytes_eq cell other
same_cell (Sealed cell) Null = false
same_cell (Sealed cell) (Plain value) = false
same_cell Null b = false
same_cell (Plain value) b = false

abbrev pub own_cell : Class → Atom → Atom → Bool
own_cell c a b = same_cell a b

-- the cell of a pair
record Pair (a b : Atom) : Type 0 where
  cell : List ℕ
  left : a ≡ Sealed cell
  right : b ≡ Sealed cell

pair_of : (a b : Atom) → IsTrue (same_cell a b) → Pair a b
pair_of (Sealed cell) (Sealed other) h = record { cell = cell; left = refl; right = ap Sealed (sym ((bytes_eq-Decides cell other).0 h)) }
pair_of (Sealed cell) Null h = absurd cc
pair_of (Sealed cell) (Plain value) h = absurd cc
pair_of Null b h = absurd cc
pair_of (Plain value) b h = absurd cc

pub own_cells : (c : Class) (a b : Atom) → Related own_cell c a b → (x : List ℕ) × (a ≡ Sealed x)
own_cells c a b h = let p = pair_of a b h in (p.cell, p.left)

pub own_is_one_to_one : IsOneToOne (Related own_cell)
own_is_one_to_one = record {
  left_there = λ c a b h. let p = pair_of a b h in subst IsNotNull (sym p.left) tt;
  right_there = λ c a b h. let p = pair_of a b h in subst IsNotNull (sym p.right) tt;
  onto = λ key ty a b c d h k e. let p = pair_of a b h in let q = pair_of c d k in p.right ∙ sym p.left ∙ e ∙ q.left ∙ sym q.right;
  back = λ key ty a b c d h k e. let p = pair_of a b h in let q = pair_of c d k in p.left ∙ sym p.right ∙ e ∙ q.right ∙ sym q.left;
}

within_class : (c : Class) (a : Atom) (cell : List ℕ) → a ≡ Sealed cell → IsWithinClass c a
within_class c a cell e = rw e tt

pub own_is_within : ArePairsWithin (Related own_cell)
own_is_within = record {
  left = λ c a b h. let p = pair_of a b h in within_class c a p.cell p.left;
  right = λ c a b h. let p = pair_of a b h in within_class c b p.cell p.right;
}

-- ---- protected atoms and what corresponds to itself

is_itself : (cell : List ℕ) → IsTrue (same_cell (Sealed cell) (Sealed cell))
is_itself cell = (bytes_eq-Decides cell cell).1 refl

module _ (cell : List ℕ → Bool) where
  atom_itself : (e : Enc) (t : Ty) (a : Atom) → IsAtomOf cell t e a → IsProtectedBy e a → Correspond (Related own_cell) (class_of t e) a a
  atom_itself enc.Plain t Null o p = (refl, tt)
  atom_itself enc.Plain t (Plain value) o p = (refl, tt)
  atom_itself enc.Plain t (Sealed x) o p = absurd o.0
  atom_itself (enc.Det key) t Null o p = inl (refl, refl)
  atom_itself (enc.Det key) t (Plain value) o p = absurd (p tt)
  atom_itself (enc.Det key) t (Sealed x) o p = inr (is_itself x)
  atom_itself (enc.Rnd key) t Null o p = inl (refl, refl)
  atom_itself (enc.Rnd key) t (Plain value) o p = absurd (p tt)
  atom_itself (enc.Rnd key) t (Sealed x) o p = inr (is_itself x)

  -- the values of parameters
  pub params_themselves : (tys : List Ty) (encs : List Enc) (atoms : List Atom) → length encs ≡ length tys
      → AreValuesOf cell tys encs atoms → AllZip IsProtectedBy encs atoms → RowsCorrespond (Related own_cell) (param_classes tys encs) atoms atoms
  params_themselves [] [] [] n v p = tt
  params_themselves [] [] (a ∷ atoms) n v p = absurd p
  params_themselves [] (e ∷ encs) atoms n v p = absurd (omega (arith, n))
  params_themselves (t ∷ tys) [] atoms n v p = absurd (omega (arith, n))
  params_themselves (t ∷ tys) (e ∷ encs) [] n v p = absurd p
  params_themselves (t ∷ tys) (e ∷ encs) (a ∷ atoms) n v p =
      let m : length encs ≡ length tys = omega (arith, n) in
      (atom_itself e t a v.0 p.0, params_themselves tys encs atoms m v.1 p.1)

  row_itself : (columns : List ColumnDef) (row : List Atom) → AllZip (IsOf cell) columns row → AllZip (λ (column : ColumnDef) atom. IsProtectedBy column.enc atom) columns row
      → RowsCorrespond (Related own_cell) (map class_of_column columns) row row
  row_itself [] [] o p = tt
  row_itself [] (a ∷ row) o p = absurd o
  row_itself (c ∷ columns) [] o p = absurd o
  row_itself (c ∷ columns) (a ∷ row) o p = (atom_itself c.enc c.ty a o.0.1 p.0, row_itself columns row o.1 p.1)

  rows_themselves : (def : TableDef) (rows : List (List Atom)) → IsTableOf cell def rows → IsTableProtected def rows
      → AllZip (RowsCorrespond (Related own_cell) (map class_of_column def.columns)) rows rows
  rows_themselves def [] o p = tt
  rows_themselves def (row ∷ rows) o p =
      let Hidden = AllZip (λ (column : ColumnDef) atom. IsProtectedBy column.enc atom) def.columns in (
        row_itself def.columns row (All-head (AllZip (IsOf cell) def.columns) row rows o) (All-head Hidden row rows p),
        rows_themselves def rows (All-tail (AllZip (IsOf cell) def.columns) row rows o) (All-tail Hidden row rows p),
      )

  contents_themselves : (defs : List TableDef) (contents : List (List (List Atom))) → AllZip (IsTableOf cell) defs contents
      → AllZip IsTableProtected defs contents → ContentsCorrespond (Related own_cell) defs contents contents
  contents_themselves [] [] o p = tt
  contents_themselves [] (rows ∷ contents) o p = absurd o
  contents_themselves (def ∷ defs) [] o p = absurd o
  contents_themselves (def ∷ defs) (rows ∷ contents) o p = (rows_themselves def rows o.0 p.0, contents_themselves defs contents o.1 p.1)

  counted_itself : (c : Counted) → IsCountedWell cell c → AllZip IsTableProtected c.world.catalog.tables c.world.contents → CountedCorrespond (Related own_cell) c c
  counted_itself c w p = record { worlds = record { catalog = refl; contents = contents_themselves c.world.catalog.tables c.world.contents w.world.tables p }; counts = refl }

  sessions_themselves : (shared : Counted) (os : List (Option Transaction)) → All (IsOpen cell shared) os → All IsOwnProtected os → AllZip (SessionsCorrespond (Related own_cell)) os os
  sessions_themselves shared [] w p = tt
  sessions_themselves shared (None ∷ os) w p = (tt, sessions_themselves shared os (All-tail (IsOpen cell shared) None os w) (All-tail IsOwnProtected None os p))
  sessions_themselves shared (Some t ∷ os) w p =
      let stands = All-head (IsOpen cell shared) (Some t) os w in (
        record { own = counted_itself t.own stands.own (All-head IsOwnProtected (Some t) os p); version = refl; used = refl; changed = refl },
        sessions_themselves shared os (All-tail (IsOpen cell shared) (Some t) os w) (All-tail IsOwnProtected (Some t) os p),
      )

-- a state corresponds to itself
state_itself : (state : State) → IsState state → StoresCorrespond (Related own_cell) state state
state_itself state s = record {
  shared = counted_itself is_short state.shared s.store.shared s.shared;
  sessions = sessions_themselves is_short state.shared state.sessions s.store.sessions s.own;
}

-- ---- and the other way round

atom_protected : (e : Enc) (t : Ty) (a : Atom) → Correspond (Related own_cell) (class_of t e) a a → IsProtectedBy e a
atom_protected enc.Plain t a h = λ is. absurd is
atom_protected e t Null h = λ is. tt
atom_protected e t (Sealed x) h = λ is. tt
atom_protected (enc.Det key) t (Plain value) (inl h) = let z = h.0 in absurd cc
atom_protected (enc.Det key) t (Plain value) (inr h) = absurd cc
atom_protected (enc.Rnd key) t (Plain value) (inl h) = let z = h.0 in absurd cc
atom_protected (enc.Rnd key) t (Plain value) (inr h) = absurd cc

row_protected : (columns : List ColumnDef) (row : List Atom) → RowsCorrespond (Related own_cell) (map class_of_column columns) row row
    → AllZip (λ (column : ColumnDef) atom. IsProtectedBy column.enc atom) columns row
row_protected [] [] h = tt
row_protected [] (a ∷ row) h = absurd h
row_protected (c ∷ columns) [] h = absurd h
row_protected (c ∷ columns) (a ∷ row) h = (atom_protected c.enc c.ty a h.0, row_protected columns row h.1)

rows_protected : (def : TableDef) (rows : List (List Atom)) → AllZip (RowsCorrespond (Related own_cell) (map class_of_column def.columns)) rows rows → IsTableProtected def rows
rows_protected def [] h = All-nil (AllZip (λ (column : ColumnDef) atom. IsProtectedBy column.enc atom) def.columns)
rows_protected def (row ∷ rows) h =
    All-cons (AllZip (λ (column : ColumnDef) atom. IsProtectedBy column.enc atom) def.columns) row rows (row_protected def.columns row h.0) (rows_protected def rows h.1)

contents_protected : (defs : List TableDef) (contents : List (List (List Atom))) → ContentsCorrespond (Related own_cell) defs contents contents → AllZip IsTableProtected defs contents
contents_protected [] [] h = tt
contents_protected [] (rows ∷ contents) h = absurd h
contents_protected (def ∷ defs) [] h = absurd h
contents_protected (def ∷ defs) (rows ∷ contents) h = (rows_protected def rows h.0, contents_protected defs contents h.1)

own_protected : (os : List (Option Transaction)) → AllZip (SessionsCorrespond (Related own_cell)) os os → All IsOwnProtected os
own_protected [] h = All-nil IsOwnProtected
own_protected (None ∷ os) h = All-cons IsOwnProtected None os tt (own_protected os h.1)
own_protected (Some t ∷ os) h =
    All-cons IsOwnProtected (Some t) os (contents_protected t.own.world.catalog.tables t.own.world.contents h.0.own.worlds.contents) (own_protected os h.1)

state_protected : (state : State) → IsStore is_short state → StoresCorrespond (Related own_cell) state state → IsState state
state_protected state w h = record {
  store = w;
  shared = contents_protected state.shared.world.catalog.tables state.shared.world.contents h.shared.worlds.contents;
  own = own_protected state.sessions h.sessions;
}

-- ---- a call leaves a state

pub call_leaves : (state : State) (session : ℕ) (b : Bound) (encs : List Enc) (atoms : List Atom)
    → length encs ≡ length b.params → AreValuesOf is_short b.params encs atoms → AllZip IsProtectedBy encs atoms → IsState state
    → let e = execution b encs atoms in
    MayAsk is_short (world_of state session).world (ask_of e) → IsState (transact state session (ask_of e)).after
call_leaves state session b encs atoms n values cells s may =
    let e : Execution = execution b encs atoms in
    let asks = asks_alike (Related own_cell) b.statement e e (record { bound = refl; encs = refl; params = params_themselves is_short b.params encs atoms n values cells }) in
    let sim = transact_alike (Related own_cell) own_is_one_to_one own_is_within is_short state state session (ask_of e) (ask_of e) s.store (state_itself state s) asks may in
    state_protected (transact state session (ask_of e)).after (transact_keeps is_short state session (ask_of e) s.store may).0 sim.stores
