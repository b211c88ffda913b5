-- Over the server from the empty state each reply is awaited: whatever is asked, the server's replies are of their kinds, and its rows of their columns.
-- And where the vault's answers are keys, and the scripts proper, no refusal is of a parameter as it is sent: each suits what was described.
use Rattle.std.proofs.Common.{◌≡◌, ℕ, ◌+◌, ◌-◌, List, [], ◌∷◌, ◌++◌, map, length, Option, Some, None, Result, Ok, Err, Bool, true, false, cond, refl, sym, ap, ◌∙◌, subst, arith, eq-eqb}
use Rattle.std.specs.Prelude.{IfErr, ◌==◌}
use Rattle.std.specs.List.{All, AllZip}
use Rattle.std.proofs.lemmas.Bool.{eqb-true}
use Rattle.std.proofs.lemmas.List.{length-map}
use Rattle.std.proofs.lemmas.List.Elements.{All-append, All-nil, All-cons, All-head, All-tail}
use Rattle.ae_base.specs.Atoms.{Atom}
use Rattle.ae_base.specs.Results.{◌>>=◌}
use Rattle.ae_base.specs.Types.{IsType}
use Rattle.ae_base.specs.Values.{IsProper}
use Rattle.ae_base.specs.declared.batches.Batch.{Batch}
use Rattle.ae_base.specs.declared.batches.ParamDecl.{ParamDecl}
use Rattle.ae_base.specs.declared.keys.KeyMeta.{KeyMeta}
use Rattle.ae_base.specs.declared.faults.SqlFault.{SqlFault}
use Rattle.ae_base.specs.declared.faults.SqlFault.TheVariants.{Moved}
use Rattle.ae_base.specs.declared.values.Value.{Value}
use Rattle.aes_block.specs.Aes.{IsBlock}
use Rattle.hmac_kdf.specs.Keys.{Keys}
use Rattle.enc_types.specs.UsedAlone.{alone, is_used}
use Rattle.expression_binding.specs.Declarations.{type_of}
use Rattle.scalar.specs.Classes.{BothAnswer, RowsCorrespond}
use Rattle.engine.specs.BoundOn.{IsBoundOn}
use Rattle.engine.specs.Correspond.{Related, AnswersCorrespond, class_of_result}
use Rattle.catalog.specs.Catalogs.{Catalog}
use Rattle.transactions.specs.Counted.{Execution, execution}
use Rattle.transactions.specs.Stores.{ask_of, transaction_at, world_of, transact}
use Rattle.transactions.proofs.Interface.{asks_alike, may_ask, store_begun}
use Rattle.proper_value_laws.specs.Proper.{AreProperAnswers, IsProperAnswer, IsProperAtom, IsProperStore}
use Rattle.server_core.proofs.Interface.{parts_of, own_cell, own_cells, own_is_one_to_one, own_is_within}
use Rattle.engine.specs.Step.{Answer, Rows, Changed, Defined}
use Rattle.engine.specs.Typed.{param_classes}
use Rattle.engine.specs.WellTyped.{AreValuesOf, AreResults, IsAnswerOf}
use Rattle.engine.specs.declared.answers.ResultColumn.{ResultColumn}
use Rattle.wire_messages.specs.Exchanges.{Served}
use Rattle.wire_messages.specs.declared.params.SentParam.{SentParam}
use Rattle.wire_messages.specs.declared.replies.Done.TheVariants.{Answered}
use Rattle.wire_messages.specs.declared.replies.Done.TheVariants as done_as
use Rattle.wire_messages.specs.declared.replies.Reply.{Reply}
use Rattle.wire_messages.specs.declared.replies.Reply.TheVariants.{Row, Ended}
use Rattle.wire_messages.specs.declared.replies.Reply.TheVariants as reply
use Rattle.statement_analysis.specs.Describing.{Meant, understood, description}
use Rattle.statement_analysis.specs.Params.{declaration_of, suited}
use Rattle.server_core.specs.Serve.{State, catalog_of, header, sent_column, refused, described, answered, executed}
use Rattle.server_core.specs.States.{any_cell}
use Rattle.conversation.specs.Batches.{why_unfit, unless}
use Rattle.conversation.specs.Cells.{read_atoms}
use Rattle.conversation.specs.Pending.{Pending, uses_of}
use Rattle.conversation.specs.Keys.{trusted_meta}
use Rattle.ae_base.specs.declared.types.Enc.{Enc}
use Rattle.wire_messages.specs.Messages.{Description}
use Rattle.conversation.specs.Sessions as conversation
use Rattle.conversation.specs.Sessions.{begun, first_open, row_read, titles_of}
use Rattle.conversation.specs.Talk.{Talk, Draws, Opens, Heard, Got, Said, hear, described_outcome, heard_next, nothing_shown, with_row}
use Rattle.conversation.specs.Turns as turns
use Rattle.conversation.specs.Turns.{Accepted, on_result, opening_by, asked, described_on, describing, executing, running, hearing, saying, rested, answered_on, rows_on, reading, over_on}
use Rattle.conversation.specs.declared.faults.DriverFault.{DriverFault}
use Rattle.conversation.specs.declared.faults.DriverFault.TheVariants.{StillPending, NothingPending, NotEncrypted}
use Rattle.conversation.specs.declared.outcomes.Listing.{Listing}
use Rattle.conversation.specs.declared.outcomes.Outcome as outcomes
use Rattle.conversation.specs.declared.outcomes.Outcome.TheVariants as outcome
use Rattle.conversation.specs.declared.sessions.Session.{Session}
use Rattle.conversation.specs.declared.sessions.Session.TheVariants as session
use Rattle.script_lang.specs.Limits.{HasParams, HasProperParams}
use Rattle.wire_messages.specs.declared.requests.Request.TheVariants as request
use Rattle.plaintext_laws.specs.Awaits.{IsHeardBy, IsHeard}
use Rattle.plaintext_laws.specs.Below.{LawsBelow}
use Rattle.plaintext_laws.specs.PlainOutcomes.{IsPlainFault, IsPlainRefusal}
use Rattle.plaintext_laws.specs.Batches.{declarations_of}
use Rattle.plaintext_laws.specs.Suits.{IsPlainReply, IsVaultAnswer}
use Rattle.plaintext_laws.proofs.Agreement.{whole_count}
use Rattle.plaintext_laws.proofs.Between.{HoldsBatch, HoldsIn, Goes, stays_so, goes_by, resting}
use Rattle.plaintext_laws.proofs.Causes.{understood_plain, transact_plain}
use Rattle.plaintext_laws.proofs.ItsOwn.{are_own, IsOwnState}
use Rattle.plaintext_laws.proofs.ProperValues.{read_values, sent_proper, sent_types_proper}
use Rattle.plaintext_laws.proofs.Saying.{Says}
use Rattle.plaintext_laws.proofs.Sending.{told_among}
use Rattle.plaintext_laws.proofs.Suiting.{encs_alone, suits, is_held}
use Rattle.plaintext_laws.proofs.Sound.{AreProperValues, AreTyped, IsProperShown, Leaves, sent_types, stays_proper}
use Rattle.plaintext_laws.proofs.Used.{atoms_in, uses_sendable}
use Rattle.plaintext_laws.proofs.Rows.{IsAt, row_awaited, count_rows}
use Rattle.plaintext_laws.proofs.Walk.{AreSealedBy, types_shown, same_uses, sealing_goes, reading_goes}

-- ---- rows of their columns

module _ (columns : List ResultColumn) (total : ℕ) where
  abbrev Typed : List (List Atom) → Type 0
  Typed rows = All (AllZip (IsAt any_cell) columns) rows

  abbrev Paired : List (List Atom) → Type 0
  Paired rows = AllZip (RowsCorrespond (Related own_cell) (map class_of_result columns)) rows rows

  abbrev queue_of : List (List Atom) → List Reply
  queue_of rows = map Row rows ++ Ended (Answered total) ∷ []

  -- what isn't read is skipped to its end
  skipped : (P : Heard → List Reply → Type 0) (rows : List (List Atom)) → Typed rows → Paired rows → (shown : Listing) (count : ℕ) → total ≡ count + length rows → P (Said None session.Idle) []
      → IsHeard P (queue_of rows) (session.Skipping (types_shown columns) count) shown
  skipped P [] t c shown count e h =
      let same : total ≡ count = omega (arith, e) in
      let s = eq-eqb total count same in
      rw s h
  skipped P (row ∷ rows) t c shown count e h =
      let x = row_awaited any_cell (Related own_cell) own_cells columns row row (All-head (AllZip (IsAt any_cell) columns) row rows t) c.0 in
      let s : total ≡ (count + 1) + length rows = e ∙ sym (count_rows count row rows) in
      rw x (skipped P rows (All-tail (AllZip (IsAt any_cell) columns) row rows t) c.1 shown (count + 1) s h)

-- where the scripts are proper the vault's answers are keys, and no refusal is of a parameter as it is sent
module _ (laws : LawsBelow) (Proper : Type 0) where
  abbrev pub IsAnswer : KeyMeta → Result Keys DriverFault → Type 0
  IsAnswer m r = Proper → IsVaultAnswer r

  abbrev pub FineReply : Reply → Type 0
  FineReply reply = Proper → IsPlainReply reply

  abbrev pub Fine : outcomes.Outcome → Type 0
  Fine comes = Proper → IsPlainRefusal comes

  abbrev pub Goes_on : Talk → State → List Reply → Type 0
  Goes_on t state queue = Says IsAnswer FineReply Fine t state queue

  -- what a request brings
  abbrev Answers : Talk → Served State → Type 0
  Answers t s = All FineReply s.replies × Goes_on t s.after s.replies

  one_fine : (r : Reply) → FineReply r → All FineReply (r ∷ [])
  one_fine r h = All-cons FineReply r [] h (All-nil FineReply)

  rows_fine : (rows : List (List Atom)) (last : Reply) → FineReply last → All FineReply (map Row rows ++ last ∷ [])
  rows_fine [] last h = one_fine last h
  rows_fine (row ∷ rows) last h = All-cons FineReply (Row row) (map Row rows ++ last ∷ []) (λ is. tt) (rows_fine rows last h)

  module _ (now : State) (queue : List Reply) where
    -- by the values that are trusted
    opens : (trusted : List (List ℕ)) (m : KeyMeta) (f g : Result Keys DriverFault → Talk) → ((r : Result Keys DriverFault) → IsAnswer m r → Goes_on (f r) now queue)
        → Goes_on (opening_by trusted m f) now queue
    opens trusted m f g h = at (trusted_meta trusted m)
      where
        at : (t : Result KeyMeta DriverFault) → Goes_on (on_result (λ told. Opens told f) (λ e. f (Err e)) t) now queue
        at (Ok told) = h
        at (Err fault) = h (Err fault) (λ is. tt)

    draws : (f g : List ℕ → Talk) → ((iv vi : List ℕ) → IsBlock iv → IsBlock vi → Goes_on (f iv) now queue) → Goes_on (Draws f) now queue
    draws f g h = λ iv n b. h iv iv (n, b) (n, b)

    -- aloud or quietly
    says : (aloud : Bool) (t : Talk) (comes : outcomes.Outcome) → Fine comes → Goes_on t now queue → Goes_on (saying aloud (Some comes) t) now queue
    says true t comes p h = (p, h)
    says false t comes p h = h

    says_nothing : (aloud : Bool) (t : Talk) → Goes_on t now queue → Goes_on (saying aloud None t) now queue
    says_nothing true t h = h
    says_nothing false t h = h

    hears : (aloud : Bool) (before : Session) (shown : Listing) (f : Heard → Talk)
        → IsHeard (λ heard left. Goes_on (f heard) now left) queue before shown → Goes_on (hearing aloud before shown f) now queue
    hears true before shown f h = h
    hears false before shown f h = h

  -- no refusal of a parameter as it is sent; and where the scripts are proper, values and types are
  pub record IsToldOf (comes : outcomes.Outcome) (accepted : Accepted) : Type 0 where
    pub plain : Fine comes
    pub types : Proper → AreTyped accepted
    pub shown : Proper → IsProperShown comes

  told_none : (comes : outcomes.Outcome) → Fine comes → IsProperShown comes → IsToldOf comes None
  told_none comes p shown = record { plain = p; types = λ is. tt; shown = λ is. shown }

  -- a state's cells stand for themselves; and where the scripts are proper, what is stored is
  pub record Stands (state : State) : Type 0 where
    pub own : IsOwnState state
    pub proper : Proper → IsProperStore state

  -- ---- rows

  module _ (columns : List ResultColumn) (total : ℕ) (aloud : Bool) (now : State) (k : outcomes.Outcome → Session → Talk)
      (go : (comes : outcomes.Outcome) → Fine comes → (Proper → IsProperShown comes) → Goes_on (k comes session.Idle) now []) (os : List (Option Keys)) where
    abbrev P : Heard → List Reply → Type 0
    P heard left = Goes_on (rows_on aloud k heard) now left

    -- what isn't read
    rows_skip : (comes : outcomes.Outcome) → Fine comes → IsProperShown comes → (rows : List (List Atom))
        → Typed columns total rows → Paired columns total rows → (count : ℕ) → total ≡ count + length rows
        → Goes_on (rested aloud (k comes) (session.Skipping (types_shown columns) count)) now (queue_of columns total rows)
    rows_skip comes p values rows t c count e =
        hears now (queue_of columns total rows) aloud (session.Skipping (types_shown columns) count) nothing_shown (over_on aloud (k comes))
        (skipped columns total (λ heard left. Goes_on (over_on aloud (k comes) heard) now left) rows t c
        nothing_shown count e (says_nothing now [] aloud (k comes session.Idle) (go comes p (λ is. values))))

    on_read : (rest : List Reply) (shown : Listing) (n : ℕ) (r : Result (List Value) DriverFault)
        → ((values : List Value) → r ≡ Ok values → IsHeard P rest (session.Reading (types_shown columns) os n) (with_row shown values))
        → ((f : DriverFault) → P (Said (Some (outcome.Broken shown (Some f))) (session.Skipping (types_shown columns) n)) rest)
        → IsHeardBy (λ after more. IsHeard P rest after more) (λ heard. P heard rest) (heard_next shown (Some (row_read (types_shown columns) os n r)))
    on_read rest shown n (Ok values) h g = h values refl
    on_read rest shown n (Err f) h g = g f

    -- all rows are heard, and then their end
    read : (rows : List (List Atom)) → Typed columns total rows → Paired columns total rows
        → (Proper → All (All IsProperAtom) rows) → (shown : Listing) → (Proper → AreProperValues shown.rows) → (count : ℕ) → total ≡ count + length rows
        → IsHeard P (queue_of columns total rows) (session.Reading (types_shown columns) os count) shown
    read [] t c atoms shown values count e =
        let same : total ≡ count = omega (arith, e) in
        let s = eq-eqb total count same in
        rw s (says now [] aloud (k (outcome.Rows shown) session.Idle) (outcome.Rows shown) (λ is. tt) (go (outcome.Rows shown) (λ is. tt) values))
    read (row ∷ rows) t c atoms shown values count e =
        let x = row_awaited any_cell (Related own_cell) own_cells columns row row (All-head (AllZip (IsAt any_cell) columns) row rows t) c.0 in
        let s : total ≡ (count + 1) + length rows = e ∙ sym (count_rows count row rows) in
        let more = All-tail (AllZip (IsAt any_cell) columns) row rows t in
        rw x (on_read (queue_of columns total rows) shown (count + 1) (read_atoms (count + 1) 1 (types_shown columns) os row)
        (λ found is_read.
        read rows more c.1 (λ is. All-tail (All IsProperAtom) row rows (atoms is)) (with_row shown found)
        (λ is. All-append (All IsProper) shown.rows (found ∷ []) (values is)
        (All-cons (All IsProper) found []
        (read_values laws.seals.the_one (count + 1) 1 (types_shown columns) os row found is_read (All-head (All IsProperAtom) row rows (atoms is))) (All-nil (All IsProper))))
        (count + 1) s)
        (λ f.
        let comes : outcomes.Outcome = outcome.Broken shown (Some f) in
        says now (queue_of columns total rows) aloud (rested aloud (k comes) (session.Skipping (types_shown columns) (count + 1)))
        comes (λ is. tt) (rows_skip comes (λ is. tt) tt rows more c.1 (count + 1) s)))

  -- whatever the result of a turn, the conversation goes on so; H holds of what its session holds
  abbrev pub Onward : (Option Pending → Type 0) → State → ℕ → turns.Onward → Type 0
  Onward H state n k = (comes : outcomes.Outcome) (accepted : Accepted) (after : Option Pending) (now : State) → Stands now → Goes Proper state n now after → H after → IsToldOf comes accepted
      → Goes_on (k comes accepted (resting after)) now []

  module _ (H : Option Pending → Type 0) (none : H None) (trusted : List (List ℕ)) (state : State) (n : ℕ) (stands : Stands state) (aloud : Bool) (k : turns.Onward) (go : Onward H state n k) where
    abbrev here : Catalog
    here = catalog_of state n

    abbrev answering : Talk
    answering = hearing aloud session.Sent nothing_shown (answered_on aloud trusted k)

    -- nothing is asked of the server
    pub prints : (comes : outcomes.Outcome) → Fine comes → IsProperShown comes → (after : Option Pending) → HoldsIn Proper state.shared (transaction_at state n) after → H after
        → Goes_on (saying aloud (Some comes) (k comes None (resting after))) state []
    prints comes p shown after h held =
        says state [] aloud (k comes None (resting after)) comes p (go comes None after state stands (stays_so Proper state n after h) held (told_none comes p shown))

    -- a refusal is heard
    refused_awaits : (f : SqlFault) → Fine (outcome.Refused f) → Answers answering (refused state f)
    refused_awaits f p =
        (one_fine (reply.Refused f) p, hears state (reply.Refused f ∷ []) aloud session.Sent nothing_shown (answered_on aloud trusted k) (prints (outcome.Refused f) p tt None tt none))

    -- ---- an answer

    module _ (now : State) (onward : (comes : outcomes.Outcome) (accepted : Accepted) → IsToldOf comes accepted → Goes_on (k comes accepted session.Idle) now []) where
      rows_await : (columns : List ResultColumn) (rows : List (List Atom)) → AreResults any_cell columns rows → AllZip (RowsCorrespond (Related own_cell) (map class_of_result columns)) rows rows
          → (Proper → AreProperAnswers columns rows) → Goes_on (reading aloud trusted (header here columns) k) now (map Row rows ++ Ended (Answered (length rows)) ∷ [])
      rows_await columns rows t c proper =
          let queue : List Reply = map Row rows ++ Ended (Answered (length rows)) ∷ [] in
          let accepted : Accepted = Some (map sent_column columns) in
          let goes : (comes : outcomes.Outcome) → Fine comes → (Proper → IsProperShown comes) → Goes_on (k comes accepted session.Idle) now [] =
          λ comes p shown. onward comes accepted (record { plain = p; types = λ is. sent_types columns (proper is).types; shown = shown }) in
          reading_goes trusted IsAnswer (λ t u. Goes_on t now queue) (opens now queue trusted) aloud here columns k k
          (λ os none_failed opened.
          hears now queue aloud (session.Reading (types_shown columns) os 0) (record { titles = titles_of (header here columns); rows = [] }) (rows_on aloud (λ comes. k comes accepted))
          (read columns (length rows) aloud now (λ comes. k comes accepted) goes os rows t c (λ is. (proper is).values)
          (record { titles = titles_of (header here columns); rows = [] }) (λ is. All-nil (All IsProper)) 0 (whole_count rows)))
          (λ f some.
          says now queue aloud (rested aloud (k (outcome.Failed f) accepted) (session.Skipping (types_shown columns) 0)) (outcome.Failed f) (λ is. tt)
          (rows_skip columns (length rows) aloud now (λ comes. k comes accepted) goes [] (outcome.Failed f) (λ is. tt) tt rows t c 0 (whole_count rows)))

      one_reply : (queue : List Reply) (reply : Reply) (comes : outcomes.Outcome) → queue ≡ reply ∷ []
          → hear session.Sent nothing_shown reply ≡ Got (Said (Some comes) session.Idle) → Fine comes → IsProperShown comes
          → Goes_on answering now queue
      one_reply queue reply comes e h p shown =
          hears now queue aloud session.Sent nothing_shown (answered_on aloud trusted k)
          (rw (e, h) (says now [] aloud (k comes None session.Idle) comes p (onward comes None (told_none comes p shown))))

      answer_awaits : (x : Result Answer SqlFault) → IfErr x IsPlainFault → IsAnswerOf any_cell x → BothAnswer (AnswersCorrespond (Related own_cell)) x x
          → (Proper → IsProperAnswer x) → Answers answering (answered here x now)
      answer_awaits (Ok (Rows columns rows)) b t c proper =
          let queue : List Reply = map Row rows ++ Ended (Answered (length rows)) ∷ [] in (
            All-cons FineReply (reply.Columns (header here columns)) queue (λ is. tt) (rows_fine rows (Ended (Answered (length rows))) (λ is. tt)),
            hears now (reply.Columns (header here columns) ∷ queue) aloud session.Sent nothing_shown (answered_on aloud trusted k) (rows_await columns rows t c.1 proper),
          )
      answer_awaits (Ok (Changed count)) b t c proper =
          (one_fine (Ended (done_as.Changed count)) (λ is. tt), one_reply _ (Ended (done_as.Changed count)) (outcome.Changed count) refl refl (λ is. tt) tt)
      answer_awaits (Ok Defined) b t c proper = (one_fine (Ended done_as.Defined) (λ is. tt), one_reply _ (Ended done_as.Defined) outcome.Defined refl refl (λ is. tt) tt)
      answer_awaits (Err f) b t c proper = (one_fine (reply.Refused f) (λ is. b), one_reply _ (reply.Refused f) (outcome.Refused f) refl refl (λ is. b) tt)

    -- ---- what is pending is executed, whatever values are sent

    -- their types are types, and the values proper
    record AreProperSent (sent : List SentParam) (atoms : List Atom) : Type 0 where
      types : All (λ (d : ParamDecl). IsType d.ty) (map declaration_of sent)
      values : All IsProperAtom atoms

    step_awaits : (text : List ℕ) (sent : List SentParam) (meant : Meant) (atoms : List Atom)
        → understood here text (map declaration_of sent) ≡ Ok meant → suited meant.encs sent ≡ Ok atoms → (Proper → AreProperSent sent atoms)
        → let done = transact state n (ask_of (execution meant.bound meant.encs atoms)) in
        Answers answering (answered here done.answer done.after)
    step_awaits text sent meant atoms u s sends =
        let b = meant.bound in
        let declarations = map declaration_of sent in
        let parts = parts_of here text declarations meant u in
        let bound = laws.bound here parts.statement declarations b parts.binds in
        let typings = laws.typings b meant.encs parts.infers in
        let types : map type_of declarations ≡ b.params = sym bound.params in
        let many : length b.params ≡ length sent = ap length bound.params ∙ length-map declarations type_of ∙ length-map sent declaration_of in
        let owns = are_own meant.encs sent atoms (typings.0 ∙ many) s in
        let on : IsBoundOn here b meant.encs atoms = record {
          placed = bound.placed;
          tables = bound.tables;
          definable = bound.definable;
          encs = typings.0;
          values = owns.count ∙ sym many;
        } in
        let admitted = laws.admitted b meant.encs bound.placed parts.infers in
        let values : AreValuesOf any_cell b.params meant.encs atoms = subst (λ tys. AreValuesOf any_cell tys meant.encs atoms) types owns.typed in
        let pairs : RowsCorrespond (Related own_cell) (param_classes b.params meant.encs) atoms atoms = subst
        (λ tys. RowsCorrespond (Related own_cell) (param_classes tys meant.encs) atoms atoms) types owns.paired in
        let e : Execution = record { bound = b; encs = meant.encs; params = atoms } in
        let may = may_ask any_cell (world_of state n).world b.statement e (record { bound = on; typed = admitted; values = values }) in
        let alike_asked = asks_alike (Related own_cell) b.statement e e (record { bound = refl; encs = refl; params = pairs }) in
        let kept = laws.keeps_stores any_cell state n (ask_of e) stands.own.typed may in
        let sim = laws.simulates any_cell own_cell state state n (ask_of e) (ask_of e) own_is_one_to_one own_is_within stands.own.typed stands.own.paired alike_asked may in
        let done = transact state n (ask_of e) in
        let stays : Proper → Leaves IsProperStore done = λ is. stays_proper laws state n text declarations meant atoms (stands.proper is) (sends is).types (sends is).values u in
        let after : Stands done.after = record { own = record { typed = kept.0; paired = sim.stores }; proper = λ is. (stays is).state } in
        answer_awaits done.after
        (λ comes accepted told. go comes accepted None done.after after (goes_by Proper state n e (store_begun any_cell state stands.own.typed)) none told)
        done.answer (transact_plain state n (ask_of e)) kept.1 sim.answers
        (λ is. (stays is).answer)

    -- what is sent suits what it means
    record IsSuited (text : List ℕ) (sent : List SentParam) : Type 0 where
      meant : Meant
      means : understood here text (map declaration_of sent) ≡ Ok meant
      atoms : List Atom
      suits : suited meant.encs sent ≡ Ok atoms
      proper : AreProperSent sent atoms

    suits_await : (text : List ℕ) (sent : List SentParam) (meant : Meant) → (Proper → IsSuited text sent)
        → understood here text (map declaration_of sent) ≡ Ok meant → (r : Result (List Atom) SqlFault) → suited meant.encs sent ≡ r
        → Answers answering (executed state n (r >>= λ atoms. Ok (meant, atoms)))
    suits_await text sent meant f u (Ok atoms) s = step_awaits text sent meant atoms u s (λ is. so (f is))
      where
        so : IsSuited text sent → AreProperSent sent atoms
        so x =
            let i : Ok meant ≡ Ok x.meant = sym u ∙ x.means in
            let m : meant ≡ x.meant = cc in
            let j : Ok x.atoms ≡ Ok atoms = sym x.suits ∙ ap (λ (m : Meant). suited m.encs sent) (sym m) ∙ s in
            let a : x.atoms ≡ atoms = cc in
            subst (AreProperSent sent) a x.proper
    suits_await text sent meant f u (Err e) s = refused_awaits e (λ is. never (f is))
      where
        never : IsSuited text sent → IsPlainFault e
        never x =
            let i : Ok meant ≡ Ok x.meant = sym u ∙ x.means in
            let m : meant ≡ x.meant = cc in
            let j : Err e ≡ Ok x.atoms = sym s ∙ ap (λ (m : Meant). suited m.encs sent) m ∙ x.suits in
            absurd cc

    means_await : (text : List ℕ) (sent : List SentParam) → (Proper → IsSuited text sent) → (r : Result Meant SqlFault) → IfErr r IsPlainFault → understood here text (map declaration_of sent) ≡ r
        → Answers answering (executed state n (r >>= λ meant. suited meant.encs sent >>= λ atoms. Ok (meant, atoms)))
    means_await text sent f (Ok meant) b u = suits_await text sent meant f u (suited meant.encs sent) refl
    means_await text sent f (Err e) b u = refused_awaits e (λ is. b)

    asked_awaits : (p : Pending) → HoldsBatch Proper here p → (sent : List SentParam) → AreSealedBy IsAnswer p.keys (uses_of p) sent → (t : Bool) → (p.version == here.version) ≡ t
        → let moved : SqlFault = Moved (record { seen = p.version; now = here.version }) in
        Answers answering (executed state n (cond t (understood here p.batch.text (map declaration_of sent)) (Err moved) >>= λ meant. suited meant.encs sent >>= λ atoms. Ok (meant, atoms)))
    asked_awaits p h sent sealed true e =
        means_await p.batch.text sent
        (λ is.
        let d = h.same (eqb-true p.version here.version e) in
        let s = suits laws IsAnswer (λ m ks answer. answer is) here p (h.sendable is) d sent sealed in
        let sendable = uses_sendable p.batch.params p.encs (h.sendable is) in
        let proper : AreProperSent sent (atoms_in sent) = record {
          types = sent_types_proper IsAnswer p.keys (uses_of p) sent sendable sealed;
          values = sent_proper IsAnswer p.keys (uses_of p) sent sendable sealed;
        } in
        record { meant = record { bound = alone d.meant.bound; encs = encs_alone d.meant }; means = s.understood; atoms = atoms_in sent; suits = s.suited; proper = proper })
        (understood here p.batch.text (map declaration_of sent)) (understood_plain here p.batch.text (map declaration_of sent)) refl
    asked_awaits p h sent sealed false e = refused_awaits (Moved (record { seen = p.version; now = here.version })) (λ is. tt)

    pub pending_awaits : (p : Pending) → HoldsBatch Proper here p → Goes_on (executing aloud trusted n (session.Pending p) k) state []
    pending_awaits p h =
        let onward : Session → Talk = λ after. hearing aloud after nothing_shown (answered_on aloud trusted k) in
        let sends : List SentParam → Talk = λ params. asked aloud onward k (Ok (request.Execute n p.version p.batch.text params)) session.Sent in
        let fails : DriverFault → Talk = λ f. asked aloud onward k (Err f) session.Idle in
        sealing_goes trusted IsAnswer (λ t u. Goes_on t state []) (opens state [] trusted) p.keys (draws state []) (uses_of p) (uses_of p) (same_uses (uses_of p)) sends sends fails fails
        (λ sent other none_failed s z. asked_awaits p h sent s (p.version == here.version) refl)
        (λ f some. prints (outcome.Failed f) (λ is. tt) tt None tt none)

    pub executing_awaits : (before : Option Pending) → HoldsIn Proper state.shared (transaction_at state n) before → Goes_on (executing aloud trusted n (resting before) k) state []
    executing_awaits (Some p) h = pending_awaits p h
    executing_awaits None h = prints (outcome.Failed NothingPending) (λ is. tt) tt None tt none

    -- ---- a batch is described

    module _ (batch : Batch) (params : HasParams batch) (proper : Proper → HasProperParams batch) (ready : Pending → Talk)
        (ready_awaits : (p : Pending) → HoldsBatch Proper here p → Goes_on (ready p) state []) where
      readied_awaits : (d : Description) (encs : List (Option Enc)) → HoldsBatch Proper here (record { batch = batch; version = d.version; keys = d.keys; encs = encs }) → (o : Option (List ℕ))
          → let t = conversation.readied batch d encs o in
          Goes_on (described_on aloud ready k (Said (described_outcome t.answer) t.after)) state []
      readied_awaits d encs h None =
          let p : Pending = record { batch = batch; version = d.version; keys = d.keys; encs = encs } in
          says_nothing state [] aloud (ready p) (ready_awaits p h)
      readied_awaits d encs h (Some name) = prints (outcome.Failed (NotEncrypted name)) (λ is. tt) tt None tt none

      abbrev awaiting : Talk
      awaiting = hearing aloud (session.Begun batch) nothing_shown (described_on aloud ready k)

      described_awaits : why_unfit batch ≡ None → (r : Result Meant SqlFault) → IfErr r IsPlainFault → understood here batch.text (declarations_of batch) ≡ r
          → Answers awaiting (described state (r >>= λ meant. Ok (description here (declarations_of batch) meant)))
      described_awaits fit (Ok meant) b e =
          let h = is_held laws Proper here batch params proper fit meant e in
          let found = h.0 in
          let d = description here (declarations_of batch) meant in
          let encs = told_among (is_used meant.bound) 0 meant.encs in (
            one_fine (reply.Described d) (λ is. tt),
            hears state (reply.Described d ∷ []) aloud (session.Begun batch) nothing_shown (described_on aloud ready k)
                (rw found (readied_awaits d encs h.1 (first_open batch.forced batch.params encs))),
          )
      described_awaits fit (Err f) b e = (
        one_fine (reply.Refused f) (λ is. b),
        hears state (reply.Refused f ∷ []) aloud (session.Begun batch) nothing_shown (described_on aloud ready k) (prints (outcome.Refused f) (λ is. b) tt None tt none),
      )

      begun_awaits : (o : Option DriverFault) → why_unfit batch ≡ o
          → let t = begun n (unless o batch) in Goes_on (asked aloud (λ after. hearing aloud after nothing_shown (described_on aloud ready k)) k t.answer t.after) state []
      begun_awaits (Some f) e = prints (outcome.Failed f) (λ is. tt) tt None tt none
      begun_awaits None e = described_awaits e (understood here batch.text (declarations_of batch)) (understood_plain here batch.text (declarations_of batch)) refl

      pub describing_awaits : (before : Option Pending) → HoldsIn Proper state.shared (transaction_at state n) before → H before → Goes_on (describing aloud n batch (resting before) ready k) state []
      describing_awaits None h held = begun_awaits (why_unfit batch) refl
      describing_awaits (Some p) h held = prints (outcome.Failed StillPending) (λ is. tt) tt (Some p) h held

    -- a whole batch, aloud or quietly
    pub running_awaits : (batch : Batch) → HasParams batch → (Proper → HasProperParams batch) → (before : Option Pending) → HoldsIn Proper state.shared (transaction_at state n) before → H before
        → Goes_on (running aloud trusted n batch (resting before) k) state []
    running_awaits batch params proper before h held = describing_awaits batch params proper (λ p. executing aloud trusted n (session.Pending p) k) pending_awaits before h held
