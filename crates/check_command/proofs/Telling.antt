-- What a server replies to a batch that is begun is awaited, and tells its description or why there is none.
use Rattle.std.proofs.Common.{◌≡◌, ◌<◌, ◌≤◌, arith, ℕ, List, [], ◌∷◌, length, Option, Some, None, Result, Ok, Err, true, refl, sym, ap, ◌∙◌, subst}
use Rattle.std.specs.Prelude.{IfOk, unwrap_or, slice_index_or}
use Rattle.std.proofs.lemmas.List.{length-map}
use Rattle.ae_base.specs.declared.batches.Batch.{Batch}
use Rattle.ae_base.specs.declared.batches.Param.{Param}
use Rattle.ae_base.specs.declared.faults.SqlFault.{SqlFault}
use Rattle.ae_base.specs.declared.types.Enc.{Enc}
use Rattle.enc_types.specs.Laws.{TypingsAreOfColumns}
use Rattle.enc_types.specs.UsedAlone.{is_used}
use Rattle.expression_binding.specs.Declarations.{type_of}
use Rattle.resolve.specs.Laws.{BoundStatementsAre}
use Rattle.wire_messages.specs.Messages.{Description}
use Rattle.wire_messages.specs.declared.replies.Reply.{Reply}
use Rattle.wire_messages.specs.declared.replies.Reply.TheVariants as reply
use Rattle.statement_analysis.specs.Describing.{Meant, understood, description, describe}
use Rattle.server_core.specs.Serve.{State, catalog_of, described}
use Rattle.conversation.specs.Pending.{Pending, uses_of}
use Rattle.conversation.specs.Sessions as held
use Rattle.conversation.specs.Sessions.{encs_of, first_open, readied, described_as, described_params}
use Rattle.conversation.specs.declared.answers.DescribeAnswer.{DescribeAnswer}
use Rattle.conversation.specs.declared.answers.DescribeAnswer.TheVariants as answer
use Rattle.conversation.specs.declared.outcomes.DescribedParam.{DescribedParam}
use Rattle.conversation.specs.declared.outcomes.Outcome.{Outcome}
use Rattle.std.specs.declared.alloc.AllocError.{AllocError}
use Rattle.conversation.specs.declared.sessions.Session.{Session}
use Rattle.conversation.specs.declared.sessions.Session.TheVariants as session
use Rattle.conversation.specs.declared.sessions.Turn.{Turn}
use Rattle.plaintext_laws.specs.Batches.{declarations_of, execution_of, pending}
use Rattle.plaintext_laws.proofs.Interface.{told_among, encs_found}
use Rattle.plaintext_laws.proofs.Interface.{parts_of}
use Rattle.check_command.proofs.Following.{bind_ok}
use Rattle.conversation.specs.declared.faults.Halt.{Halt}
use Rattle.conversation.specs.declared.faults.Halt.TheVariants as halt
use Rattle.driver.specs.Calls.{Takes}
use Rattle.check_command.specs.Check.{HasNoTransaction, checked, defines}
use Rattle.check_command.specs.Asked.{ComesTo, IsAsked, IsBegun, IsDefinition, OrShort, said_of, unforced}

-- it is awaited, and says so
abbrev pub IsHeardAs : State → ℕ → Batch → Option (Turn DescribeAnswer) → Type 0
IsHeardAs state number batch (Some turn) = IsAsked state number batch turn.after turn.answer
IsHeardAs state number batch None = ⊥

-- where nothing is forced, all may be sent
none_open : (ps : List Param) (es : List (Option Enc)) → first_open [] ps es ≡ None
none_open [] es = refl
none_open (p ∷ ps) [] = refl
none_open (p ∷ ps) (e ∷ es) = none_open ps es

module _ (bound : BoundStatementsAre) (typings : TypingsAreOfColumns) (state : State) (number : ℕ) (batch : Batch) (s : Session) (b : IsBegun batch s) where
  -- each declared parameter has an encryption, where it is used
  found : (meant : Meant) → understood (catalog_of state number) batch.text (declarations_of batch) ≡ Ok meant
      → encs_of batch.params (description (catalog_of state number) (declarations_of batch) meant).params ≡ Some (told_among (is_used meant.bound) 0 meant.encs)
  found meant e =
      let parts = parts_of (catalog_of state number) batch.text (declarations_of batch) meant e in
      let over_all = bound (catalog_of state number) parts.statement (declarations_of batch) meant.bound parts.binds in
      let long : length meant.encs ≡ length batch.params =
      (typings meant.bound meant.encs parts.infers).0 ∙ ap length over_all.params ∙ length-map (declarations_of batch) type_of ∙ length-map batch.params (λ (q : Param). q.declaration) in
      encs_found meant.bound 0 batch.params meant.encs long b.params.1

  told_encs : (d : Description) → describe (catalog_of state number) batch.text (declarations_of batch) ≡ Ok d → (es : List (Option Enc)) × (encs_of batch.params d.params ≡ Some es)
  told_encs d e =
      let h = bind_ok (understood (catalog_of state number) batch.text (declarations_of batch)) (λ meant. Ok (description (catalog_of state number) (declarations_of batch) meant)) d e in
      let is : description (catalog_of state number) (declarations_of batch) h.0 ≡ d = cc in
      (told_among (is_used h.0.bound) 0 h.0.encs, ap (λ (x : Description). encs_of batch.params x.params) (sym is) ∙ found h.0 h.1)

  described_so : (d : Description) → describe (catalog_of state number) batch.text (declarations_of batch) ≡ Ok d
      → (o : Option (List (Option Enc))) → encs_of batch.params d.params ≡ o → (es : List (Option Enc)) → o ≡ Some es
      → IsHeardAs state number batch (described_as batch d o)
  described_so d e (Some xs) i es s =
      let p : record { batch = batch; version = d.version; keys = d.keys; encs = xs } ≡ pending (unforced batch) d =
      ap (λ (o : Option (List (Option Enc))). let v : Pending = record { batch = batch; version = d.version; keys = d.keys; encs = unwrap_or o [] } in v) (sym i)
      ∙ ap (λ (names : List (List ℕ)). let v : Pending = record
      { batch = record { text = batch.text; params = batch.params; forced = names }; version = d.version; keys = d.keys; encs = unwrap_or (encs_of batch.params d.params) [] } in v) b.forced in
      let open_none : first_open batch.forced batch.params xs ≡ None = ap (λ names. first_open names batch.params xs) b.forced ∙ none_open batch.params xs in
      subst (λ o. IsHeardAs state number batch (Some (readied batch d xs o))) (sym open_none) (b.fit, (d, e, ap session.Pending p, ap (λ (v : Pending). described_params d.keys (uses_of v)) p))
  described_so d e None i es s = absurd cc

  pub hears : (r : Result Description SqlFault) → describe (catalog_of state number) batch.text (declarations_of batch) ≡ r
      → (x : Reply) → x ∷ [] ≡ (described state r).replies → IsHeardAs state number batch (held.described (session.Begun batch) x)
  hears (Ok d) e x h =
      let i : x ≡ reply.Described d = cc in
      let t = told_encs d e in
      subst (λ y. IsHeardAs state number batch (held.described (session.Begun batch) y)) (sym i) (described_so d e (encs_of batch.params d.params) refl t.0 t.1)
  hears (Err f) e x h =
      let i : x ≡ reply.Refused f = cc in
      subst (λ y. IsHeardAs state number batch (held.described (session.Begun batch) y)) (sym i) (b.fit, e)

answers_of : (state : State) (number : ℕ) (batch : Batch) (o : Option (Turn DescribeAnswer)) (r : Result DescribeAnswer Halt) (old after : Session)
    → IsHeardAs state number batch o → Takes r o old after → OrShort (IsAsked state number batch after) r
answers_of state number batch (Some turn) (Ok x) old after h e =
    let i : turn ≡ record { answer = x; after = after } = cc in
    subst (λ (t : Turn DescribeAnswer). IsAsked state number batch t.after t.answer) i h
answers_of state number batch None r old after h e = absurd h
answers_of state number batch (Some turn) (Err halt.BadReply) old after h e = let i = e.0 in absurd cc
answers_of state number batch (Some turn) (Err halt.OutOfMemory) old after h e = tt
answers_of state number batch (Some turn) (Err halt.EntropyFault) old after h e = absurd e
answers_of state number batch (Some turn) (Err halt.VaultFault) old after h e = absurd e

pub told_answers : BoundStatementsAre → TypingsAreOfColumns → (state : State) (number : ℕ) (batch : Batch) (s : Session) → IsBegun batch s → (x : Reply) → x ∷ [] ≡ said_of state number batch
    → (r : Result DescribeAnswer Halt) (after : Session) → Takes r (held.described s x) s after → OrShort (IsAsked state number batch after) r
told_answers bound typings state number batch s b x t r after h =
    answers_of state number batch (held.described s x) r s after
    (subst (λ y. IsHeardAs state number batch (held.described y x)) (sym b.begun)
    (hears bound typings state number batch s b (describe (catalog_of state number) batch.text (declarations_of batch)) refl x t)) h

-- the one that there is
pub alone_is : (replies : List Reply) (x : Reply) → 1 ≤ length replies → length replies < 2 → x ≡ slice_index_or replies 0 x → x ∷ [] ≡ replies
alone_is [] x one two e = absurd (omega (arith, one))
alone_is (y ∷ []) x one two e = let i : x ≡ y = e in rw i refl
alone_is (y ∷ z ∷ more) x one two e = absurd (omega (arith, two))

-- a definition that is described is executed; what it forces is nothing to that
module _ (state now : State) (number : ℕ) (batch : Batch) (s : Session) (params : List DescribedParam) (same : now ≡ state)
    (asked : IsAsked state number batch s (answer.Ready params)) (definition : defines batch.text ≡ true) where
  pub defined_as : HasNoTransaction state → IsDefinition now number s
  defined_as alone = subst (λ w. IsDefinition w number s) (sym same)
      (record { alone = alone; batch = unforced batch; description = asked.1.0; described = asked.1.1; holds = asked.1.2; defines = definition })

  checked_as : checked state number batch ≡ execution_of [] [] state number (pending (unforced batch) asked.1.0)
  checked_as = let fit = asked.0 in let e = asked.1.1 in rw (fit, e, definition) refl

  pub comes_as : (r : Result Outcome AllocError) (after : State) → ((p : Pending) → s ≡ session.Pending p → IfOk r (ComesTo (execution_of [] [] now number p) after))
      → IfOk r (ComesTo (checked state number batch) after)
  comes_as r after h = subst (λ c. IfOk r (ComesTo c after)) (sym checked_as)
      (subst (λ w. IfOk r (ComesTo (execution_of [] [] w number (pending (unforced batch) asked.1.0)) after)) same (h _ asked.1.2))
