-- Two conversations of one shape side by side: what holds of both wherever the same keys are opened, bytes are drawn and outcomes are printed holds
-- of parameters that are sealed and of answers whose columns are opened. A conversation alone stands beside itself.
use Rattle.std.proofs.Common.{◌≡◌, ◌⊎◌, inl, inr, ℕ, ◌<◌, ◌≤◌, List, [], ◌∷◌, map, length, take, drop, Option, Some, None, Result, Ok, Err, Bool, false, refl, sym, ap, subst, arith}
use Rattle.std.specs.Prelude.{nat_lt}
use Rattle.std.proofs.lemmas.Bool.Decides.{nat_tests}
use Rattle.std.proofs.lemmas.List.{length-take-le}
use Rattle.std.proofs.lemmas.List.Elements.{All-take, All-drop}
use Rattle.ae_base.specs.Atoms.{Atom, plain_atom}
use Rattle.ae_base.specs.declared.atoms.AtomOf.TheVariants as atom
use Rattle.ae_base.specs.declared.keys.KeyMeta.{KeyMeta}
use Rattle.ae_base.specs.declared.types.Enc.{Enc}
use Rattle.ae_base.specs.declared.types.Enc.TheVariants as enc
use Rattle.ae_base.specs.declared.types.Ty.{Ty}
use Rattle.ae_base.specs.declared.values.Value.{Value}
use Rattle.ae_base.specs.declared.values.Value.TheVariants as value
use Rattle.ae_edge.specs.Vaults.{KeyMap}
use Rattle.aes_block.specs.Aes.{IsBlock}
use Rattle.aes_block.specs.Bytes.{AreBytes}
use Rattle.catalog.specs.Catalogs.{Catalog}
use Rattle.hmac_kdf.specs.Keys.{Keys}
use Rattle.engine.specs.declared.answers.ResultColumn.{ResultColumn}
use Rattle.wire_messages.specs.declared.columns.SentColumn.{SentColumn}
use Rattle.wire_messages.specs.declared.params.SentParam.{SentParam}
use Rattle.statement_analysis.specs.Describing.{keys_of}
use Rattle.server_core.specs.Serve.{sent_column, header}
use Rattle.conversation.specs.Cells.{det_atom, rnd_atom}
use Rattle.conversation.specs.Keys.{open_trusted, meta_of}
use Rattle.conversation.specs.Pending.{Use}
use Rattle.conversation.specs.Sessions.{titles_of}
use Rattle.conversation.specs.Talk.{Talk, Draws, Opens}
use Rattle.conversation.specs.Turns.{Onward, on_result, opening_by, drawing, opening_one, opening, sent_param, sealing_value, sealing, hearing, saying, rows_on, rested, reading}
use Rattle.conversation.specs.declared.faults.DriverFault.{DriverFault}
use Rattle.conversation.specs.declared.outcomes.Outcome.TheVariants as outcome
use Rattle.conversation.specs.declared.sessions.ColumnType.{ColumnType}
use Rattle.conversation.specs.declared.sessions.Session.{Session}
use Rattle.conversation.specs.declared.sessions.Session.TheVariants as session
use Rattle.plaintext_laws.specs.Batches.{encs_shown, why_unopened}
use Rattle.plaintext_laws.proofs.Sealed.{IsRndSeal, IsSealedBy}

-- ---- uses of parameters that differ in their values alone

-- NULL goes with NULL alone
abbrev pub AreBoth : Value → Value → Type 0
AreBoth value.Null value.Null = Unit {0}
AreBoth (value.Is d) (value.Is e) = Unit {0}
AreBoth v u = ⊥

abbrev pub with_value : Use → Value → Use
with_value u v = record { param = record { declaration = u.param.declaration; value = v }; enc = u.enc }

pub data AreUsesAlike : List Use → List Use → Type 0 where
  none_used : AreUsesAlike [] []
  one_used : (u : Use) (v : Value) (us xs : List Use) → AreBoth u.param.value v → AreUsesAlike us xs → AreUsesAlike (u ∷ us) (with_value u v ∷ xs)

pub same_both : (v : Value) → AreBoth v v
same_both value.Null = tt
same_both (value.Is d) = tt

pub same_uses : (us : List Use) → AreUsesAlike us us
same_uses [] = none_used
same_uses (u ∷ us) = one_used u u.param.value us us (same_both u.param.value) (same_uses us)

-- ---- what is sent and opened, where keys are answered so

abbrev pub encs_in : List Use → List Enc
encs_in us = map (λ (u : Use). u.enc) us

abbrev pub types_shown : List ResultColumn → List ColumnType
types_shown columns = map (λ (c : ResultColumn). record { ty = c.ty; enc = c.enc }) columns

-- what a vault answers where a key is opened by its trusted values
abbrev pub AnswersOf : KeyMap → List (List ℕ) → KeyMeta → Result Keys DriverFault → Type 0
AnswersOf keys trusted m r = open_trusted keys trusted m ≡ r

-- each parameter as it is sent
pub data AreSealedBy (IsKey : KeyMeta → Result Keys DriverFault → Type 0) (metas : List KeyMeta) : List Use → List SentParam → Type 0 where
  none_sealed : AreSealedBy IsKey metas [] []
  one_sealed : (u : Use) (a : Atom) (us : List Use) (sent : List SentParam) → IsSealedBy IsKey metas u.enc u.param.declaration.ty u.param.value a → AreSealedBy IsKey metas us sent
      → AreSealedBy IsKey metas (u ∷ us) (sent_param u a ∷ sent)

abbrev pub AreSealed : KeyMap → List (List ℕ) → List KeyMeta → List Use → List SentParam → Type 0
AreSealed keys trusted metas us sent = AreSealedBy (AnswersOf keys trusted) metas us sent

-- the key of a column, none for a plain one
abbrev pub OpensAt : (KeyMeta → Result Keys DriverFault → Type 0) → Enc → Option Keys → List KeyMeta → Type 0
OpensAt IsKey enc.Plain o metas = o ≡ None
OpensAt IsKey (enc.Det id) o metas = (ks : Keys) × IsKey (meta_of metas id) (Ok ks) × (o ≡ Some ks)
OpensAt IsKey (enc.Rnd id) o metas = (ks : Keys) × IsKey (meta_of metas id) (Ok ks) × (o ≡ Some ks)

abbrev pub AreOpened : (KeyMeta → Result Keys DriverFault → Type 0) → List KeyMeta → List ResultColumn → List (Option Keys) → Type 0
AreOpened IsKey metas [] [] = Unit {0}
AreOpened IsKey metas (c ∷ cs) (o ∷ os) = OpensAt IsKey c.enc o metas × AreOpened IsKey metas cs os
AreOpened IsKey metas cs os = ⊥

-- the fault where a key isn't opened; a plain encryption has no key
abbrev Refuses : (KeyMeta → Result Keys DriverFault → Type 0) → List KeyMeta → Enc → DriverFault → Type 0
Refuses IsKey metas enc.Plain f = ⊥
Refuses IsKey metas (enc.Det id) f = IsKey (meta_of metas id) (Err f)
Refuses IsKey metas (enc.Rnd id) f = IsKey (meta_of metas id) (Err f)

abbrev HasKey : (KeyMeta → Result Keys DriverFault → Type 0) → List KeyMeta → Enc → Type 0
HasKey IsKey metas enc.Plain = Unit {0}
HasKey IsKey metas (enc.Det id) = (ks : Keys) × IsKey (meta_of metas id) (Ok ks)
HasKey IsKey metas (enc.Rnd id) = (ks : Keys) × IsKey (meta_of metas id) (Ok ks)

-- the fault of the first key that isn't opened, if there is one
abbrev pub Unopened : (KeyMeta → Result Keys DriverFault → Type 0) → List KeyMeta → List Enc → Option DriverFault → Type 0
Unopened IsKey metas [] o = o ≡ None
Unopened IsKey metas (e ∷ es) o = (HasKey IsKey metas e × Unopened IsKey metas es o) ⊎ ((f : DriverFault) × Refuses IsKey metas e f × (o ≡ Some f))

sealed_has : (IsKey : KeyMeta → Result Keys DriverFault → Type 0) (metas : List KeyMeta) (e : Enc) (t : Ty) (v : Value) (a : Atom) → IsSealedBy IsKey metas e t v a → HasKey IsKey metas e
sealed_has IsKey metas enc.Plain t v a h = tt
sealed_has IsKey metas (enc.Det id) t v a h = (h.0, h.1)
sealed_has IsKey metas (enc.Rnd id) t v a h = (h.0, h.1)

opened_has : (IsKey : KeyMeta → Result Keys DriverFault → Type 0) (metas : List KeyMeta) (e : Enc) (o : Option Keys) → OpensAt IsKey e o metas → HasKey IsKey metas e
opened_has IsKey metas enc.Plain o h = tt
opened_has IsKey metas (enc.Det id) o h = (h.0, h.1)
opened_has IsKey metas (enc.Rnd id) o h = (h.0, h.1)

-- of a vault's keys it is the one that is told
pub unopened_is : (keys : KeyMap) (trusted : List (List ℕ)) (metas : List KeyMeta) (es : List Enc) (o : Option DriverFault)
    → Unopened (AnswersOf keys trusted) metas es o → why_unopened keys trusted metas es ≡ o
unopened_is keys trusted metas [] o h = sym h
unopened_is keys trusted metas (enc.Plain ∷ es) o (inl h) = unopened_is keys trusted metas es o h.1
unopened_is keys trusted metas (enc.Plain ∷ es) o (inr h) = absurd h.1
unopened_is keys trusted metas (enc.Det id ∷ es) o (inl h) = let e = h.0.1 in rw e (unopened_is keys trusted metas es o h.1)
unopened_is keys trusted metas (enc.Det id ∷ es) o (inr h) = let e = h.1 in rw e (sym h.2)
unopened_is keys trusted metas (enc.Rnd id ∷ es) o (inl h) = let e = h.0.1 in rw e (unopened_is keys trusted metas es o h.1)
unopened_is keys trusted metas (enc.Rnd id ∷ es) o (inr h) = let e = h.1 in rw e (sym h.2)

-- ---- what holds of both

module _ (trusted : List (List ℕ)) (IsKey : KeyMeta → Result Keys DriverFault → Type 0) (Good : Talk → Talk → Type 0)
    (opens : (m : KeyMeta) (f g : Result Keys DriverFault → Talk) → ((r : Result Keys DriverFault) → IsKey m r → Good (f r) (g r))
    → Good (opening_by trusted m f) (opening_by trusted m g)) (metas : List KeyMeta) where
  key_goes : (m : KeyMeta) (k j : Keys → Talk) (fails lacks : DriverFault → Talk) → ((ks : Keys) → IsKey m (Ok ks) → Good (k ks) (j ks))
      → ((f : DriverFault) → IsKey m (Err f) → Good (fails f) (lacks f))
      → Good (opening_by trusted m (on_result k fails)) (opening_by trusted m (on_result j lacks))
  key_goes m k j fails lacks h g = opens m (on_result k fails) (on_result j lacks) each
    where
      each : (r : Result Keys DriverFault) → IsKey m r → Good (on_result k fails r) (on_result j lacks r)
      each (Ok ks) i = h ks i
      each (Err f) i = g f i

  -- ---- columns that are opened

  column_goes : (e : Enc) (k j : Option Keys → Talk) (fails lacks : DriverFault → Talk)
      → ((o : Option Keys) → OpensAt IsKey e o metas → Good (k o) (j o)) → ((f : DriverFault) → Refuses IsKey metas e f → Good (fails f) (lacks f))
      → Good (opening_one trusted metas e k fails) (opening_one trusted metas e j lacks)
  column_goes enc.Plain k j fails lacks h g = h None refl
  column_goes (enc.Det id) k j fails lacks h g = key_goes (meta_of metas id) (λ ks. k (Some ks)) (λ ks. j (Some ks)) fails lacks (λ ks i. h (Some ks) (ks, i, refl)) g
  column_goes (enc.Rnd id) k j fails lacks h g = key_goes (meta_of metas id) (λ ks. k (Some ks)) (λ ks. j (Some ks)) fails lacks (λ ks i. h (Some ks) (ks, i, refl)) g

  -- all are opened, or a key isn't
  opening_goes : (columns : List ResultColumn) (k j : List (Option Keys) → Talk) (fails lacks : DriverFault → Talk)
      → ((os : List (Option Keys)) → Unopened IsKey metas (encs_shown columns) None → AreOpened IsKey metas columns os → Good (k os) (j os))
      → ((f : DriverFault) → Unopened IsKey metas (encs_shown columns) (Some f) → Good (fails f) (lacks f))
      → Good (opening trusted metas (types_shown columns) k fails) (opening trusted metas (types_shown columns) j lacks)
  opening_goes [] k j fails lacks h g = h [] refl tt
  opening_goes (c ∷ cs) k j fails lacks h g =
      column_goes c.enc (λ o. opening trusted metas (types_shown cs) (λ os. k (o ∷ os)) fails) (λ o. opening trusted metas (types_shown cs) (λ os. j (o ∷ os)) lacks) fails lacks
      (λ o i. opening_goes cs (λ os. k (o ∷ os)) (λ os. j (o ∷ os)) fails lacks
      (λ os none opened. h (o ∷ os) (inl (opened_has IsKey metas c.enc o i, none)) (i, opened))
      (λ f some. g f (inl (opened_has IsKey metas c.enc o i, some))))
      (λ f r. g f (inr (f, r, refl)))

  -- ---- parameters that are sealed

  module _ (draws : (f g : List ℕ → Talk) → ((iv vi : List ℕ) → IsBlock iv → IsBlock vi → Good (f iv) (g vi)) → Good (Draws f) (Draws g)) where
    drawing_goes : (ks : Keys) (t : Ty) (v u : Value) → AreBoth v u → (k j : Atom → Talk)
        → ((a b : Atom) → IsRndSeal ks t v a → IsRndSeal ks t u b → Good (k a) (j b)) → Good (drawing ks t v k) (drawing ks t u j)
    drawing_goes ks t value.Null value.Null both k j h = h atom.Null atom.Null refl refl
    drawing_goes ks t (value.Is d) (value.Is e) both k j h =
        draws (λ iv. k (rnd_atom ks t d iv)) (λ iv. j (rnd_atom ks t e iv)) (λ iv vi b c. h (rnd_atom ks t d iv) (rnd_atom ks t e vi) (iv, b, refl) (vi, c, refl))
    drawing_goes ks t v u both k j h = absurd both

    value_goes : (e : Enc) (t : Ty) (v u : Value) → AreBoth v u → (k j : Atom → Talk) (fails lacks : DriverFault → Talk)
        → ((a b : Atom) → IsSealedBy IsKey metas e t v a → IsSealedBy IsKey metas e t u b → Good (k a) (j b)) → ((f : DriverFault) → Refuses IsKey metas e f → Good (fails f) (lacks f))
        → Good (sealing_value trusted metas e t v k fails) (sealing_value trusted metas e t u j lacks)
    value_goes enc.Plain t v u both k j fails lacks h g = h (plain_atom v) (plain_atom u) refl refl
    value_goes (enc.Det id) t v u both k j fails lacks h g =
        key_goes (meta_of metas id) (λ ks. k (det_atom ks t v)) (λ ks. j (det_atom ks t u)) fails lacks (λ ks i. h (det_atom ks t v) (det_atom ks t u) (ks, i, refl) (ks, i, refl)) g
    value_goes (enc.Rnd id) t v u both k j fails lacks h g =
        key_goes (meta_of metas id) (λ ks. drawing ks t v k) (λ ks. drawing ks t u j) fails lacks (λ ks i. drawing_goes ks t v u both k j (λ a b x y. h a b (ks, i, x) (ks, i, y))) g

    -- all are sealed, or a key isn't opened
    pub sealing_goes : (us xs : List Use) → AreUsesAlike us xs → (k j : List SentParam → Talk) (fails lacks : DriverFault → Talk)
        → ((sent other : List SentParam) → Unopened IsKey metas (encs_in us) None → AreSealedBy IsKey metas us sent → AreSealedBy IsKey metas xs other → Good (k sent) (j other))
        → ((f : DriverFault) → Unopened IsKey metas (encs_in us) (Some f) → Good (fails f) (lacks f))
        → Good (sealing trusted metas us k fails) (sealing trusted metas xs j lacks)
    sealing_goes _ _ none_used k j fails lacks h g = h [] [] refl none_sealed none_sealed
    sealing_goes _ _ (one_used u v us xs both more) k j fails lacks h g =
        let x = with_value u v in
        let t = u.param.declaration.ty in
        value_goes u.enc t u.param.value v both (λ a. sealing trusted metas us (λ ps. k (sent_param u a ∷ ps)) fails) (λ b. sealing trusted metas xs (λ ps. j (sent_param x b ∷ ps)) lacks) fails lacks
        (λ a b s z. sealing_goes us xs more (λ ps. k (sent_param u a ∷ ps)) (λ ps. j (sent_param x b ∷ ps)) fails lacks
        (λ sent other none rest again. h (sent_param u a ∷ sent) (sent_param x b ∷ other)
        (inl (sealed_has IsKey metas u.enc t u.param.value a s, none)) (one_sealed u a us sent s rest) (one_sealed x b xs other z again))
        (λ f some. g f (inl (sealed_has IsKey metas u.enc t u.param.value a s, some))))
        (λ f r. g f (inr (f, r, refl)))

-- ---- an answer with columns

types_sent : (columns : List ResultColumn) → map (λ (c : SentColumn). let t : ColumnType = record { ty = c.ty; enc = c.enc } in t) (map sent_column columns) ≡ types_shown columns
types_sent [] = refl
types_sent (c ∷ cs) = ap (λ ts. record { ty = c.ty; enc = c.enc } ∷ ts) (types_sent cs)

-- rows that are read
abbrev pub read_by : Bool → Catalog → List ResultColumn → Onward → List (Option Keys) → Talk
read_by aloud here columns k os = hearing aloud (session.Reading (types_shown columns) os 0)
    (record { titles = titles_of (header here columns); rows = [] }) (rows_on aloud (λ comes. k comes (Some (header here columns).columns)))

-- rows that can't be
abbrev pub skipped_by : Bool → Catalog → List ResultColumn → Onward → DriverFault → Talk
skipped_by aloud here columns k f = saying aloud (Some (outcome.Failed f)) (rested aloud (k (outcome.Failed f) (Some (header here columns).columns)) (session.Skipping (types_shown columns) 0))

module _ (trusted : List (List ℕ)) (IsKey : KeyMeta → Result Keys DriverFault → Type 0) (Good : Talk → Talk → Type 0)
    (opens : (m : KeyMeta) (f g : Result Keys DriverFault → Talk) → ((r : Result Keys DriverFault) → IsKey m r → Good (f r) (g r)) → Good (opening_by trusted m f) (opening_by trusted m g)) where
  -- the keys of its columns are opened, or one isn't
  pub reading_goes : (aloud : Bool) (here : Catalog) (columns : List ResultColumn) (k j : Onward)
      → ((os : List (Option Keys)) → Unopened IsKey (keys_of here (encs_shown columns)) (encs_shown columns) None
      → AreOpened IsKey (keys_of here (encs_shown columns)) columns os → Good (read_by aloud here columns k os) (read_by aloud here columns j os))
      → ((f : DriverFault) → Unopened IsKey (keys_of here (encs_shown columns)) (encs_shown columns) (Some f) → Good (skipped_by aloud here columns k f) (skipped_by aloud here columns j f))
      → Good (reading aloud trusted (header here columns) k) (reading aloud trusted (header here columns) j)
  reading_goes aloud here columns k j h g =
      let by : Onward → List ColumnType → Talk = λ k types.
      opening trusted (keys_of here (encs_shown columns)) types
      (λ os. hearing aloud (session.Reading types os 0) (record { titles = titles_of (header here columns); rows = [] }) (rows_on aloud (λ comes. k comes (Some (header here columns).columns))))
      (λ f. saying aloud (Some (outcome.Failed f)) (rested aloud (k (outcome.Failed f) (Some (header here columns).columns)) (session.Skipping types 0))) in
      subst (λ types. Good (by k types) (by j types)) (sym (types_sent columns))
      (opening_goes trusted IsKey Good opens (keys_of here (encs_shown columns)) columns (read_by aloud here columns k)
      (read_by aloud here columns j) (skipped_by aloud here columns k) (skipped_by aloud here columns j) h g)

-- ---- random bytes

-- where 16 bytes are there, they are a block
pub sixteen : (bytes : List ℕ) → AreBytes bytes → nat_lt (length bytes) 16 ≡ false → IsBlock (take 16 bytes) × AreBytes (drop 16 bytes)
sixteen bytes a e =
    let le : 16 ≤ length bytes = grind (arith, nat_tests) in
    ((length-take-le 16 bytes le, All-take (λ b. b < 256) 16 bytes a), All-drop (λ b. b < 256) 16 bytes a)
