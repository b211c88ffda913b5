-- What a batch that is run quietly does over a server among other sessions: it isn't sent, or it breaks off, or it is answered and goes on.
use Rattle.std.proofs.Common.{
  ◌≡◌,
  ℕ,
  suc,
  ◌+◌,
  List,
  [],
  ◌∷◌,
  ◌++◌,
  map,
  length,
  take,
  drop,
  Option,
  Some,
  None,
  Result,
  Ok,
  Err,
  Bool,
  true,
  false,
  refl,
  sym,
  ap,
  subst,
  arith,
  append-nil,
  append_assoc,
}
use Rattle.std.specs.Prelude.{nat_lt, ◌==◌, ◌<◌, ◌≤◌, if◌then◌else◌}
use Rattle.std.proofs.lemmas.Bool.Decides.{nat_tests}
use Rattle.std.proofs.lemmas.List.{length-take-le}
use Rattle.std.proofs.lemmas.List.Elements.{All-take, All-drop}
use Rattle.ae_base.specs.Atoms.{Atom, plain_atom}
use Rattle.ae_base.specs.Results.{◌>>=◌}
use Rattle.ae_base.specs.declared.atoms.AtomOf.TheVariants as atom
use Rattle.ae_base.specs.declared.batches.Batch.{Batch}
use Rattle.ae_base.specs.declared.batches.ParamDecl.{ParamDecl}
use Rattle.ae_base.specs.declared.faults.SqlFault.{SqlFault}
use Rattle.ae_base.specs.declared.keys.KeyMeta.{KeyMeta}
use Rattle.ae_base.specs.declared.types.Enc.{Enc}
use Rattle.ae_base.specs.declared.types.Enc.TheVariants as enc
use Rattle.ae_base.specs.declared.types.Ty.{Ty}
use Rattle.ae_base.specs.declared.values.Value.{Value}
use Rattle.ae_base.specs.declared.values.Value.TheVariants as value
use Rattle.ae_edge.specs.Vaults.{KeyMap}
use Rattle.aes_block.specs.Aes.{IsBlock}
use Rattle.aes_block.specs.Bytes.{AreBytes}
use Rattle.catalog.specs.Catalogs.{Catalog}
use Rattle.engine.specs.Step.{Answer, Rows, Changed, Defined}
use Rattle.hmac_kdf.specs.Keys.{Keys}
use Rattle.statement_analysis.specs.Describing.{Meant, describe}
use Rattle.transactions.specs.Stores.{transact}
use Rattle.wire_messages.specs.Messages.{Description, Header}
use Rattle.wire_messages.specs.declared.params.SentParam.{SentParam}
use Rattle.wire_messages.specs.declared.replies.Done.TheVariants as done
use Rattle.wire_messages.specs.declared.replies.Reply.{Reply}
use Rattle.wire_messages.specs.declared.replies.Reply.TheVariants as reply
use Rattle.wire_messages.specs.declared.requests.Request.{Request}
use Rattle.wire_messages.specs.declared.requests.Request.TheVariants.{Describe, Execute}
use Rattle.server_core.specs.Serve.{State, answered, ask_of, catalog_of, described, executed, header, prepared, serve_all}
use Rattle.conversation.specs.Batches.{unless, why_unfit}
use Rattle.conversation.specs.Cells.{det_atom, rnd_atom, is_row_of, read_atoms}
use Rattle.conversation.specs.Drive.{End, BadReply, Dry, Listened, Passed, heard_one, listen, over, passed_by, passed_on, passing, stopped}
use Rattle.conversation.specs.Keys.{meta_of, open_key, open_trusted, trusted_meta}
use Rattle.conversation.specs.Pending.{Pending, Use, uses_of}
use Rattle.conversation.specs.Sessions as sessions
use Rattle.conversation.specs.Sessions.{titles_of, types_of, row_read}
use Rattle.conversation.specs.declared.answers.RowAnswer.TheVariants as answer
use Rattle.conversation.specs.Talk.{Talk, Asks, Draws, Heard, Notes, Opens, Said, described_outcome, heard_description, heard_next, nothing_broken, nothing_shown}
use Rattle.conversation.specs.Turns.{
  Onward,
  answered_on,
  asked,
  described_on,
  drawing,
  executing,
  on_result,
  opening,
  opening_by,
  opening_one,
  over_on,
  reading,
  rested,
  rows_on,
  running,
  sealing,
  sealing_value,
  sent_param,
}
use Rattle.conversation.specs.declared.faults.DriverFault.{DriverFault}
use Rattle.conversation.specs.declared.faults.DriverFault.TheVariants.{NotEncrypted}
use Rattle.conversation.specs.declared.outcomes.Listing.{Listing}
use Rattle.conversation.specs.declared.outcomes.Outcome.{Outcome}
use Rattle.conversation.specs.declared.outcomes.Outcome.TheVariants as outcome
use Rattle.conversation.specs.declared.sessions.ColumnType.{ColumnType}
use Rattle.conversation.specs.declared.sessions.Session.{Session}
use Rattle.conversation.specs.declared.sessions.Session.TheVariants as session
use Rattle.server_core.specs.Beside.{Beside, first_of, serve_beside}

-- ---- where a rotation is

-- the server among the others, the state that the others' requests alone have led to, and all requests so far
pub record Walk : Type 0 where
  pub beside : Beside
  pub alone : State
  pub so_far : List Request

-- the state in which the next request is served, and the one that the others alone lead to
abbrev pub now : Walk → State
now w = (serve_all w.beside.state (first_of w.beside.between)).1

abbrev pub next : Walk → Request → Walk
next w request = record {
  beside = (serve_beside w.beside request).after;
  alone = (serve_all w.alone (first_of w.beside.between)).1;
  so_far = w.so_far ++ first_of w.beside.between ++ request ∷ [];
}

-- so the walk may break off anywhere
abbrev pub StopsAt : (Walk → Passed Beside → Type 0) → Walk → Type 0
StopsAt R w = (entropy : List ℕ) (end : End) → R w (stopped [] entropy w.beside end)

-- and a request passes, before which it may break off
abbrev pub Passes : (Walk → Passed Beside → Type 0) → Type 0
Passes R = (w : Walk) (request : Request) (p : Passed Beside) → StopsAt R w → R (next w request) p → R w (passing (record { request = request; replies = (serve_beside w.beside request).replies }) p)

-- ---- what is opened, read and sealed

module _ (keys : KeyMap) (trusted : List (List ℕ)) (metas : List KeyMeta) where
  -- a key opens to these keys, by a value whose path is trusted
  abbrev pub OpensTo : ℕ → Keys → Type 0
  OpensTo id ks = open_trusted keys trusted (meta_of metas id) ≡ Ok ks

  -- an atom that is sent for a value under a type
  abbrev pub IsDrawn : Keys → Ty → Value → Atom → Type 0
  IsDrawn ks ty value.Null a = a ≡ atom.Null
  IsDrawn ks ty (value.Is datum) a = (iv : List ℕ) × IsBlock iv × (a ≡ rnd_atom ks ty datum iv)

  abbrev pub IsSent : Enc → Ty → Value → Atom → Type 0
  IsSent enc.Plain ty v a = a ≡ plain_atom v
  IsSent (enc.Det id) ty v a = (ks : Keys) × OpensTo id ks × (a ≡ det_atom ks ty v)
  IsSent (enc.Rnd id) ty v a = (ks : Keys) × OpensTo id ks × IsDrawn ks ty v a

  abbrev pub AreSent : List Use → List SentParam → Type 0
  AreSent [] [] = Unit {0}
  AreSent [] (p ∷ sent) = ⊥
  AreSent (u ∷ uses) [] = ⊥
  AreSent (u ∷ uses) (p ∷ sent) = ((a : Atom) × IsSent u.enc u.param.declaration.ty u.param.value a × (p ≡ sent_param u a)) × AreSent uses sent

  -- the key of a column, none for a plain one
  abbrev pub IsKeyOf : Enc → Option Keys → Type 0
  IsKeyOf enc.Plain o = o ≡ None
  IsKeyOf (enc.Det id) o = (ks : Keys) × OpensTo id ks × (o ≡ Some ks)
  IsKeyOf (enc.Rnd id) o = (ks : Keys) × OpensTo id ks × (o ≡ Some ks)

  abbrev pub AreKeysOf : List ColumnType → List (Option Keys) → Type 0
  AreKeysOf [] [] = Unit {0}
  AreKeysOf [] (o ∷ os) = ⊥
  AreKeysOf (c ∷ cs) [] = ⊥
  AreKeysOf (c ∷ cs) (o ∷ os) = IsKeyOf c.enc o × AreKeysOf cs os

-- rows are read to these values, counted from a number
abbrev pub AreRead : List ColumnType → List (Option Keys) → ℕ → List (List Atom) → List (List Value) → Type 0
AreRead columns os n [] [] = Unit {0}
AreRead columns os n [] (v ∷ values) = ⊥
AreRead columns os n (row ∷ rows) [] = ⊥
AreRead columns os n (row ∷ rows) (v ∷ values) = (is_row_of columns row ≡ true) × (read_atoms (n + 1) 1 columns os row ≡ Ok v) × AreRead columns os (n + 1) rows values

module _ (keys : KeyMap) (R : Walk → Passed Beside → Type 0) where
  -- whatever was taken and drawn before
  abbrev pub Goes : Walk → List Reply → Talk → Type 0
  Goes w queue t = (taken : ℕ) (entropy : List ℕ) → AreBytes entropy → R w (over serve_beside keys t taken entropy w.beside queue)

  -- ---- keys and parameters

  module _ (trusted : List (List ℕ)) (metas : List KeyMeta) (w : Walk) (queue : List Reply) (stops : StopsAt R w) where
    abbrev To : ℕ → Keys → Type 0
    To id ks = OpensTo keys trusted metas id ks

    opens : (id : ℕ) (k : Keys → Talk) (fails : DriverFault → Talk) → ((ks : Keys) → To id ks → Goes w queue (k ks)) → ((f : DriverFault) → Goes w queue (fails f))
        → Goes w queue (opening_by trusted (meta_of metas id) (on_result k fails))
    opens id k fails h g = at (trusted_meta trusted (meta_of metas id)) refl
      where
        on_key : (r : Result Keys DriverFault) → open_trusted keys trusted (meta_of metas id) ≡ r → Goes w queue (on_result k fails r)
        on_key (Ok ks) e = h ks e
        on_key (Err f) e = g f

        at : (t : Result KeyMeta DriverFault) → trusted_meta trusted (meta_of metas id) ≡ t → Goes w queue (on_result (λ told. Opens told (on_result k fails)) (λ e. on_result k fails (Err e)) t)
        at (Ok told) e taken entropy bytes = on_key (open_key keys told) (ap (λ t. t >>= open_key keys) e) taken entropy bytes
        at (Err fault) e taken entropy bytes = g fault taken entropy bytes

    draws : (f : List ℕ → Talk) → ((iv : List ℕ) → IsBlock iv → Goes w queue (f iv)) → Goes w queue (Draws f)
    draws f h taken entropy bytes = at (nat_lt (length entropy) 16) refl
      where
        at : (b : Bool) → nat_lt (length entropy) 16 ≡ b → R w (passed_by (λ iv left. over serve_beside keys (f iv) taken left w.beside queue) entropy w.beside b)
        at true e = stops entropy Dry
        at false e =
            let long : 16 ≤ length entropy = grind (arith, nat_tests) in
            h (take 16 entropy) (length-take-le 16 entropy long, All-take (λ (byte : ℕ). byte < 256) 16 entropy bytes) taken (drop 16 entropy) (All-drop (λ (byte : ℕ). byte < 256) 16 entropy bytes)

    drawn : (ks : Keys) (ty : Ty) (v : Value) (k : Atom → Talk) → ((a : Atom) → IsDrawn keys trusted metas ks ty v a → Goes w queue (k a)) → Goes w queue (drawing ks ty v k)
    drawn ks ty value.Null k h = h atom.Null refl
    drawn ks ty (value.Is datum) k h = draws (λ iv. k (rnd_atom ks ty datum iv)) (λ iv b. h (rnd_atom ks ty datum iv) (iv, b, refl))

    atom_sent : (e : Enc) (ty : Ty) (v : Value) (k : Atom → Talk) (fails : DriverFault → Talk)
        → ((a : Atom) → IsSent keys trusted metas e ty v a → Goes w queue (k a)) → ((f : DriverFault) → Goes w queue (fails f))
        → Goes w queue (sealing_value trusted metas e ty v k fails)
    atom_sent enc.Plain ty v k fails h g = h (plain_atom v) refl
    atom_sent (enc.Det id) ty v k fails h g = opens id (λ ks. k (det_atom ks ty v)) fails (λ ks o. h (det_atom ks ty v) (ks, o, refl)) g
    atom_sent (enc.Rnd id) ty v k fails h g = opens id (λ ks. drawing ks ty v k) fails (λ ks o. drawn ks ty v k (λ a d. h a (ks, o, d))) g

    sealed : (uses : List Use) (k : List SentParam → Talk) (fails : DriverFault → Talk)
        → ((sent : List SentParam) → AreSent keys trusted metas uses sent → Goes w queue (k sent)) → ((f : DriverFault) → Goes w queue (fails f))
        → Goes w queue (sealing trusted metas uses k fails)
    sealed [] k fails h g = h [] tt
    sealed (u ∷ uses) k fails h g =
        atom_sent u.enc u.param.declaration.ty u.param.value (λ a. sealing trusted metas uses (λ ps. k (sent_param u a ∷ ps)) fails) fails
        (λ a s. sealed uses (λ ps. k (sent_param u a ∷ ps)) fails (λ ps all. h (sent_param u a ∷ ps) ((a, s, refl), all)) g) g

    key_opened : (e : Enc) (k : Option Keys → Talk) (fails : DriverFault → Talk)
        → ((o : Option Keys) → IsKeyOf keys trusted metas e o → Goes w queue (k o)) → ((f : DriverFault) → Goes w queue (fails f))
        → Goes w queue (opening_one trusted metas e k fails)
    key_opened enc.Plain k fails h g = h None refl
    key_opened (enc.Det id) k fails h g = opens id (λ ks. k (Some ks)) fails (λ ks o. h (Some ks) (ks, o, refl)) g
    key_opened (enc.Rnd id) k fails h g = opens id (λ ks. k (Some ks)) fails (λ ks o. h (Some ks) (ks, o, refl)) g

    opened : (columns : List ColumnType) (k : List (Option Keys) → Talk) (fails : DriverFault → Talk) → ((os : List (Option Keys)) → AreKeysOf keys trusted metas columns os → Goes w queue (k os))
        → ((f : DriverFault) → Goes w queue (fails f)) → Goes w queue (opening trusted metas columns k fails)
    opened [] k fails h g = h [] tt
    opened (c ∷ columns) k fails h g =
        key_opened c.enc (λ o. opening trusted metas columns (λ os. k (o ∷ os)) fails) fails (λ o own. opened columns (λ os. k (o ∷ os)) fails (λ os all. h (o ∷ os) (own, all)) g) g

  -- ---- rows

  abbrev pub queue_of : List (List Atom) → ℕ → List Reply
  queue_of rows total = map reply.Row rows ++ reply.Ended (done.Answered total) ∷ []

  module _ (w : Walk) (stops : StopsAt R w) (columns : List ColumnType) (total : ℕ) where
    abbrev Heard_on : (Heard → Talk) → List ℕ → Listened → Type 0
    Heard_on f entropy l = R w (passed_on (λ heard n left. over serve_beside keys (f heard) n entropy w.beside left) entropy w.beside l)

    -- rows that aren't read are heard to their end
    skipped : (k : Session → Talk) → Goes w [] (k session.Idle) → (rows : List (List Atom)) (count : ℕ) (shown : Listing)
        → Goes w (queue_of rows total) (Notes (session.Skipping columns count) shown (over_on false k))
    skipped k h [] count shown taken entropy bytes = at (total == count)
      where
        at : (b : Bool) → Heard_on (over_on false k) entropy
            (heard_one (λ after more. listen nothing_broken [] after more (suc taken)) None taken []
            (heard_next shown (if b then Some (record { answer = answer.Over; after = session.Idle }) else None)))
        at true = h (suc taken) entropy bytes
        at false = stops entropy (BadReply taken)
    skipped k h (row ∷ rows) count shown taken entropy bytes = at (skipped k h rows (count + 1) shown (suc taken) entropy bytes) (is_row_of columns row)
      where
        at : R w (over serve_beside keys (Notes (session.Skipping columns (count + 1)) shown (over_on false k)) (suc taken) entropy w.beside (queue_of rows total))
            → (b : Bool) → Heard_on (over_on false k) entropy
            (heard_one (λ after more. listen nothing_broken (queue_of rows total) after more (suc taken)) None taken (queue_of rows total)
            (heard_next shown (if b then Some (record { answer = answer.Skipped; after = session.Skipping columns (count + 1) }) else None)))
        at more true = more
        at more false = stops entropy (BadReply taken)

    module _ (os : List (Option Keys)) (titles : List (List ℕ)) (k : Outcome → Session → Talk) where
      -- they are read to their end; where a cell fails the rest is skipped
      rows_read : (rows : List (List Atom)) (count : ℕ) (before : List (List Value))
          → ((values : List (List Value)) → AreRead columns os count rows values → Goes w [] (k (outcome.Rows (record { titles = titles; rows = before ++ values })) session.Idle))
          → ((shown : Listing) (f : DriverFault) → Goes w [] (k (outcome.Broken shown (Some f)) session.Idle))
          → Goes w (queue_of rows total) (Notes (session.Reading columns os count) (record { titles = titles; rows = before }) (rows_on false k))
      rows_read [] count before h g taken entropy bytes = at (total == count)
        where
          at : (b : Bool) → Heard_on (rows_on false k) entropy
              (heard_one (λ after more. listen nothing_broken [] after more (suc taken)) None taken []
              (heard_next (record { titles = titles; rows = before }) (if b then Some (record { answer = answer.Rows count; after = session.Idle }) else None)))
          at true =
              subst (λ rows. R w (over serve_beside keys (k (outcome.Rows (record { titles = titles; rows = rows })) session.Idle) (suc taken) entropy w.beside [])) (append-nil before)
              (h [] tt (suc taken) entropy bytes)
          at false = stops entropy (BadReply taken)
      rows_read (row ∷ rows) count before h g taken entropy bytes =
          at (λ fit v e.
          rows_read rows (count + 1) (before ++ v ∷ [])
          (λ values all. subst (λ rows. Goes w [] (k (outcome.Rows (record { titles = titles; rows = rows })) session.Idle)) (sym (append_assoc before (v ∷ []) values)) (h (v ∷ values) (fit, e, all)))
          g (suc taken) entropy bytes)
          (is_row_of columns row) refl
        where
          read : ((v : List Value) → read_atoms (count + 1) 1 columns os row ≡ Ok v
              → R w (over serve_beside keys (Notes (session.Reading columns os (count + 1)) (record { titles = titles; rows = before ++ v ∷ [] }) (rows_on false k))
              (suc taken) entropy w.beside (queue_of rows total)))
              → (r : Result (List Value) DriverFault) → read_atoms (count + 1) 1 columns os row ≡ r → Heard_on (rows_on false k) entropy
              (heard_one (λ after more. listen nothing_broken (queue_of rows total) after more (suc taken)) None taken (queue_of rows total)
              (heard_next (record { titles = titles; rows = before }) (Some (row_read columns os (count + 1) r))))
          read more (Ok v) e = more v e
          read more (Err f) e =
              skipped (k (outcome.Broken (record { titles = titles; rows = before }) (Some f)))
              (g (record { titles = titles; rows = before }) f) rows (count + 1) nothing_shown (suc taken) entropy bytes

          at : (is_row_of columns row ≡ true → (v : List Value) → read_atoms (count + 1) 1 columns os row ≡ Ok v
              → R w (over serve_beside keys (Notes (session.Reading columns os (count + 1)) (record { titles = titles; rows = before ++ v ∷ [] }) (rows_on false k))
              (suc taken) entropy w.beside (queue_of rows total)))
              → (b : Bool) → is_row_of columns row ≡ b → Heard_on (rows_on false k) entropy
              (heard_one (λ after more. listen nothing_broken (queue_of rows total) after more (suc taken)) None taken (queue_of rows total)
              (heard_next (record { titles = titles; rows = before })
              (if b then Some (row_read columns os (count + 1) (read_atoms (count + 1) 1 columns os row)) else None)))
          at more true fit = read (more fit) (read_atoms (count + 1) 1 columns os row) refl
          at more false fit = stops entropy (BadReply taken)

  -- ---- an answer

  module _ (passes : Passes R) (trusted : List (List ℕ)) (number : ℕ) (k : Onward) where
    -- each way to end goes on
    pub record OnRows (w : Walk) (shows : Header) (rows : List (List Atom)) : Type 0 where
      pub stops : StopsAt R w
      pub read : (os : List (Option Keys)) (values : List (List Value)) → AreKeysOf keys trusted shows.keys (types_of shows) os → AreRead (types_of shows) os 0 rows values
          → Goes w [] (k (outcome.Rows (record { titles = titles_of shows; rows = values })) (Some shows.columns) session.Idle)
      pub broken : (shown : Listing) (f : DriverFault) → Goes w [] (k (outcome.Broken shown (Some f)) (Some shows.columns) session.Idle)
      pub failed : (f : DriverFault) → Goes w [] (k (outcome.Failed f) (Some shows.columns) session.Idle)

    abbrev pub OnAnswer : Walk → Catalog → Result Answer SqlFault → Type 0
    OnAnswer w catalog (Ok (Rows columns rows)) = OnRows w (header catalog columns) rows
    OnAnswer w catalog (Ok (Changed count)) = Goes w [] (k (outcome.Changed count) None session.Idle)
    OnAnswer w catalog (Ok Defined) = Goes w [] (k outcome.Defined None session.Idle)
    OnAnswer w catalog (Err f) = Goes w [] (k (outcome.Refused f) None session.Idle)

    abbrev pub OnServed : Walk → State → Result (Meant × List Atom) SqlFault → Type 0
    OnServed w state (Ok ready) = OnAnswer w (catalog_of state number) (transact state number (ask_of ready)).answer
    OnServed w state (Err f) = Goes w [] (k (outcome.Refused f) None session.Idle)

    abbrev hears : Talk
    hears = Notes session.Sent nothing_shown (answered_on false trusted k)

    rows_heard : (w : Walk) (shows : Header) (rows : List (List Atom)) → OnRows w shows rows → Goes w (queue_of rows (length rows)) (reading false trusted shows k)
    rows_heard w shows rows h =
        opened trusted shows.keys w (queue_of rows (length rows)) h.stops (types_of shows)
        (λ os. Notes (session.Reading (types_of shows) os 0) (record { titles = titles_of shows; rows = [] }) (rows_on false (λ comes. k comes (Some shows.columns))))
        (λ f. rested false (k (outcome.Failed f) (Some shows.columns)) (session.Skipping (types_of shows) 0))
        (λ os own. rows_read w h.stops (types_of shows) (length rows) os (titles_of shows) (λ comes. k comes (Some shows.columns)) rows 0 [] (λ values all. h.read os values own all) h.broken)
        (λ f. skipped w h.stops (types_of shows) (length rows) (k (outcome.Failed f) (Some shows.columns)) (h.failed f) rows 0 nothing_shown)

    answer_heard : (w : Walk) (catalog : Catalog) (after : State) (x : Result Answer SqlFault) → OnAnswer w catalog x → Goes w (answered catalog x after).replies hears
    answer_heard w catalog after (Ok (Rows columns rows)) h taken entropy bytes = rows_heard w (header catalog columns) rows h (suc taken) entropy bytes
    answer_heard w catalog after (Ok (Changed count)) h taken entropy bytes = h (suc taken) entropy bytes
    answer_heard w catalog after (Ok Defined) h taken entropy bytes = h (suc taken) entropy bytes
    answer_heard w catalog after (Err f) h taken entropy bytes = h (suc taken) entropy bytes

    served_heard : (w : Walk) (state : State) (r : Result (Meant × List Atom) SqlFault) → OnServed w state r → Goes w (executed state number r).replies hears
    served_heard w state (Ok ready) h taken entropy bytes = let t = transact state number (ask_of ready) in answer_heard w (catalog_of state number) t.after t.answer h taken entropy bytes
    served_heard w state (Err f) h taken entropy bytes = h (suc taken) entropy bytes

    abbrev pub execute_of : ℕ → List ℕ → List SentParam → Request
    execute_of version text sent = Execute number version text sent

    executed_goes : (w : Walk) (version : ℕ) (text : List ℕ) (sent : List SentParam) → StopsAt R w
        → OnServed (next w (execute_of version text sent)) (now w) (prepared (catalog_of (now w) number) version text sent) → Goes w [] (Asks (execute_of version text sent) hears)
    executed_goes w version text sent stops h taken entropy bytes =
        passes w (execute_of version text sent) _ stops (served_heard (next w (execute_of version text sent)) (now w) (prepared (catalog_of (now w) number) version text sent) h taken entropy bytes)

    -- ---- a whole batch

    module _ (batch : Batch) where
      abbrev pub declared : List ParamDecl
      declared = map (λ p. p.declaration) batch.params

      abbrev pub describe_of : Request
      describe_of = Describe number batch.text declared

      abbrev pub pending_of : Description → List (Option Enc) → Pending
      pending_of d encs = record { batch = batch; version = d.version; keys = d.keys; encs = encs }

      pub record BatchGoes (w : Walk) : Type 0 where
        pub here : StopsAt R w
        pub unsent : (f : DriverFault) → Goes w [] (k (outcome.Failed f) None session.Idle)
        pub stops : StopsAt R (next w describe_of)
        pub refused : (f : SqlFault) → Goes (next w describe_of) [] (k (outcome.Refused f) None session.Idle)
        pub failed : (f : DriverFault) → Goes (next w describe_of) [] (k (outcome.Failed f) None session.Idle)
        pub executes : (d : Description) (encs : List (Option Enc)) (sent : List SentParam)
            → describe (catalog_of (now w) number) batch.text declared ≡ Ok d → sessions.encs_of batch.params d.params ≡ Some encs
            → AreSent keys trusted d.keys (uses_of (pending_of d encs)) sent
            → OnServed (next (next w describe_of) (execute_of d.version batch.text sent)) (now (next w describe_of)) (prepared (catalog_of (now (next w describe_of)) number) d.version batch.text sent)

      module _ (w : Walk) (h : BatchGoes w) where
        abbrev pub ready : Pending → Talk
        ready p = executing false trusted number (session.Pending p) k

        pending_goes : (d : Description) (encs : List (Option Enc)) → describe (catalog_of (now w) number) batch.text declared ≡ Ok d → sessions.encs_of batch.params d.params ≡ Some encs
            → Goes (next w describe_of) [] (ready (pending_of d encs))
        pending_goes d encs e n =
            sealed trusted d.keys (next w describe_of) [] h.stops (uses_of (pending_of d encs))
            (λ sent. Asks (execute_of d.version batch.text sent) hears) (λ f. k (outcome.Failed f) None session.Idle)
            (λ sent all. executed_goes (next w describe_of) d.version batch.text sent h.stops (h.executes d encs sent e n all)) h.failed

        readied_goes : (d : Description) (encs : List (Option Enc)) → describe (catalog_of (now w) number) batch.text declared ≡ Ok d
            → sessions.encs_of batch.params d.params ≡ Some encs → (o : Option (List ℕ))
            → let t = sessions.readied batch d encs o in Goes (next w describe_of) [] (described_on false ready k (Said (described_outcome t.answer) t.after))
        readied_goes d encs e n None = pending_goes d encs e n
        readied_goes d encs e n (Some name) = h.failed (NotEncrypted name)

        abbrev tells : Talk
        tells = Notes (session.Begun batch) nothing_shown (described_on false ready k)

        description_heard : (d : Description) → describe (catalog_of (now w) number) batch.text declared ≡ Ok d → (o : Option (List (Option Enc))) → sessions.encs_of batch.params d.params ≡ o
            → (taken : ℕ) (entropy : List ℕ) → AreBytes entropy
            → R (next w describe_of)
            (passed_on (λ heard n left. over serve_beside keys (described_on false ready k heard) n entropy (next w describe_of).beside left) entropy (next w describe_of).beside
            (heard_one (λ after more. listen nothing_broken [] after more (suc taken)) None taken [] (heard_description (sessions.described_as batch d o))))
        description_heard d e (Some encs) n taken entropy bytes = readied_goes d encs e n (sessions.first_open batch.forced batch.params encs) (suc taken) entropy bytes
        description_heard d e None n taken entropy bytes = h.stops entropy (BadReply taken)

        described_goes : (r : Result Description SqlFault) → describe (catalog_of (now w) number) batch.text declared ≡ r → Goes (next w describe_of) (described (now w) r).replies tells
        described_goes (Ok d) e taken entropy bytes = description_heard d e (sessions.encs_of batch.params d.params) refl taken entropy bytes
        described_goes (Err f) e taken entropy bytes = h.refused f (suc taken) entropy bytes

        begun_goes : (o : Option DriverFault) → why_unfit batch ≡ o
            → let t = sessions.begun number (unless o batch) in Goes w [] (asked false (λ after. Notes after nothing_shown (described_on false ready k)) k t.answer t.after)
        begun_goes (Some f) e taken entropy bytes = h.unsent f taken entropy bytes
        begun_goes None e taken entropy bytes = passes w describe_of _ h.here (described_goes (describe (catalog_of (now w) number) batch.text declared) refl taken entropy bytes)

        pub batch_goes : Goes w [] (running false trusted number batch session.Idle k)
        batch_goes = begun_goes (why_unfit batch) refl
