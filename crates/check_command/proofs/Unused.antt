-- A definition uses no parameter: its result where it is executed without any is its meaning.
use Rattle.std.proofs.Common.{◌≡◌, ◌⊎◌, inl, inr, ℕ, suc, ◌+◌, ◌-◌, List, [], ◌∷◌, map, Option, Some, None, Result, Ok, Err, true, false, refl, sym, ap, ◌∙◌, subst, eq-eqb}
use Rattle.std.specs.Prelude.{slice_index_or, unwrap_or, IfOk}
use Rattle.ae_base.specs.Atoms.{Atom, plain_atom}
use Rattle.ae_base.specs.Results.{◌>>=◌}
use Rattle.ae_base.specs.declared.batches.Batch.{Batch}
use Rattle.ae_base.specs.declared.batches.Param.{Param}
use Rattle.ae_base.specs.declared.batches.ParamDecl.{ParamDecl}
use Rattle.ae_base.specs.declared.faults.SqlFault.{SqlFault}
use Rattle.ae_base.specs.declared.types.Enc.{Enc}
use Rattle.sql_tree.specs.Bound.{BoundStatement, Bound}
use Rattle.sql_tree.specs.Bound as bound
use Rattle.sql_tree.specs.Statements.{Statement}
use Rattle.sql_tree.specs.Statements as tree
use Rattle.sql_tree.specs.Sorts.{is_written_defining, target}
use Rattle.sql_tree.specs.Uses.{uses}
use Rattle.semantic_checks.specs.Checks.{check_of}
use Rattle.catalog.specs.Catalogs.{Catalog}
use Rattle.catalog.specs.Definitions.{defined_by}
use Rattle.enc_types.specs.UsedAlone.{used_among, is_used, alone}
use Rattle.resolve.specs.Bind.{bind, bound_over}
use Rattle.resolve.specs.Bind as binding
use Rattle.resolve.specs.Definitions.{bind_definition, new_sites}
use Rattle.resolve.specs.Laws.{PreparedAlone}
use Rattle.engine.specs.Step.{Answer, Defined, outcome, done_by, step}
use Rattle.engine.specs.Worlds.{World}
use Rattle.transactions.specs.Counted.{Counted, CountedOutcome, Execution, changed_by, counted, raised_at, execution}
use Rattle.transactions.specs.Stores.{Ask, Executes, ask_by, ask_of, Transaction, Transacted, transaction_at, transacted, transact}
use Rattle.wire_messages.specs.Messages.{Description}
use Rattle.wire_messages.specs.declared.params.UsedParam.{UsedParam}
use Rattle.wire_messages.specs.declared.replies.Reply.{Reply}
use Rattle.wire_messages.specs.declared.requests.Request.{Request}
use Rattle.wire_messages.specs.declared.requests.Request.TheVariants.{Execute}
use Rattle.statement_analysis.specs.Describing.{Meant, understood, used_from, description}
use Rattle.server_core.specs.Serve.{State, catalog_of, answered, serve}
use Rattle.wire_messages.specs.Exchanges.{Served}
use Rattle.conversation.specs.declared.outcomes.Outcome as comes_to
use Rattle.std.specs.declared.alloc.AllocError.{AllocError}
use Rattle.conversation.specs.Pending.{Pending, Use, uses_in, uses_of}
use Rattle.conversation.specs.declared.sessions.Session.{Session}
use Rattle.conversation.specs.declared.sessions.Session.TheVariants as session
use Rattle.conversation.specs.Sessions.{encs_of, with_enc}
use Rattle.plaintext_laws.specs.Batches.{Came, declarations_of, pending}
use Rattle.plaintext_laws.specs.Batches as plain
use Rattle.plaintext_laws.proofs.Interface.{parts_of, understood_alone, transact_alone}
use Rattle.check_command.proofs.Executing.{same_there}
use Rattle.check_command.proofs.Following.{bind_ok}
use Rattle.check_command.specs.Asked.{AnswersAs, ComesTo, IsDefinition}
use Rattle.check_command.specs.Check.{HasNoTransaction, defines, reads_definition}

-- ---- the bound statement

abbrev pub IsDefining : BoundStatement → Type 0
IsDefining (bound.Definition d) = Unit {0}
IsDefining (bound.Insert insert) = ⊥
IsDefining (bound.Update update) = ⊥
IsDefining (bound.Delete delete) = ⊥
IsDefining (bound.Select query) = ⊥
IsDefining (bound.Control control) = ⊥

bound_so : (b c : Bound) → (let r : Result Bound SqlFault = Ok b in r ≡ Ok c) → IsDefining b.statement → IsDefining c.statement
bound_so b c e h = let i : b ≡ c = cc in subst (λ (x : Bound). IsDefining x.statement) i h

named_defines : (catalog : Catalog) (s : Statement) (declarations : List ParamDecl) (b : Bound)
    → is_written_defining s ≡ true → binding.resolution catalog s declarations ≡ Ok b → IsDefining b.statement
named_defines catalog (tree.Definition definition) declarations b d e =
    let p = bind_ok (bind_definition catalog definition) (λ made. Ok (bound_over declarations (new_sites made) (bound.Definition made))) b e in
    bound_so _ b p.2 tt
named_defines catalog (tree.Insert table columns rows) declarations b d e = absurd cc
named_defines catalog (tree.Update table assignments filter) declarations b d e = absurd cc
named_defines catalog (tree.Delete table filter) declarations b d e = absurd cc
named_defines catalog (tree.Select query) declarations b d e = absurd cc
named_defines catalog (tree.Control control) declarations b d e = absurd cc

bind_defines : (catalog : Catalog) (s : Statement) (declarations : List ParamDecl) (b : Bound) → is_written_defining s ≡ true → bind catalog s declarations ≡ Ok b → IsDefining b.statement
unfolding bind
bind_defines catalog s declarations b d e =
    let p = bind_ok (binding.resolution catalog s declarations) (λ bound. check_of bound >>= λ fine. Ok bound) b e in
    let q = bind_ok (check_of p.0) (λ fine. Ok p.0) b p.2 in
    bound_so p.0 b q.2 (named_defines catalog s declarations p.0 d p.1)

-- ---- it uses no parameter

unused : (s : BoundStatement) (b : Bound) → b.statement ≡ s → IsDefining s → (place : ℕ) → uses place b ≡ false
unused (bound.Definition d) b e h place = rw e refl
unused (bound.Insert insert) b e h place = absurd h
unused (bound.Update update) b e h place = absurd h
unused (bound.Delete delete) b e h place = absurd h
unused (bound.Select query) b e h place = absurd h
unused (bound.Control control) b e h place = absurd h

module _ (b : Bound) (none : (place : ℕ) → uses place b ≡ false) where
  used_none : {A : Type 0} (place : ℕ) (xs : List A) → used_among (is_used b) place xs ≡ []
  used_none place [] = refl
  used_none place (x ∷ xs) = let u = none place in rw u (used_none (suc place) xs)

  none_told : (place : ℕ) (ds : List ParamDecl) (es : List Enc) → used_from place b ds es ≡ []
  none_told place [] es = refl
  none_told place (d ∷ ds) [] = refl
  none_told place (d ∷ ds) (e ∷ es) = let u = none place in rw u (none_told (place + 1) ds es)

no_encs : (ps : List Param) → (es : List (Option Enc)) × (encs_of ps [] ≡ Some es) × (uses_in ps es ≡ [])
no_encs [] = ([], refl, refl)
no_encs (p ∷ ps) = let h = no_encs ps in (None ∷ h.0, ap (with_enc None) h.1, h.2)

no_uses : (ps : List Param) (used : List UsedParam) → used ≡ [] → uses_in ps (unwrap_or (encs_of ps used) []) ≡ []
no_uses ps used e = let h = no_encs ps in let i = h.1 in rw e (rw i (h.2))

-- ---- it is executed as a statement outside transactions

asks_so : (s : BoundStatement) (e : Execution) → IsDefining s → ask_by s e ≡ Executes e
asks_so (bound.Definition d) e h = refl
asks_so (bound.Insert insert) e h = absurd h
asks_so (bound.Update update) e h = absurd h
asks_so (bound.Delete delete) e h = absurd h
asks_so (bound.Select query) e h = absurd h
asks_so (bound.Control control) e h = absurd h

-- it changes no rows
no_rows : (s : BoundStatement) → IsDefining s → target s ≡ None
no_rows (bound.Definition d) h = refl
no_rows (bound.Insert insert) h = absurd h
no_rows (bound.Update update) h = absurd h
no_rows (bound.Delete delete) h = absurd h
no_rows (bound.Select query) h = absurd h
no_rows (bound.Control control) h = absurd h

-- it is done, or refused
abbrev AnswersDone : Result Answer SqlFault → Type 0
AnswersDone a = (a ≡ Ok Defined) ⊎ ((f : SqlFault) × (a ≡ Err f))

made : (w : World) (r : Result Catalog SqlFault) (g : Catalog → World) → AnswersDone (outcome w (r >>= λ catalog. Ok (record { answer = Defined; world = g catalog }))).answer
made w (Ok catalog) g = inl refl
made w (Err f) g = inr (f, refl)

done_so : (w : World) (b : Bound) (es : List Enc) (xs : List Atom) (s : BoundStatement) → IsDefining s → AnswersDone (outcome w (done_by w b es s xs)).answer
done_so w b es xs (bound.Definition d) h = made w (defined_by w.catalog d) _
done_so w b es xs (bound.Insert insert) h = absurd h
done_so w b es xs (bound.Update update) h = absurd h
done_so w b es xs (bound.Delete delete) h = absurd h
done_so w b es xs (bound.Select query) h = absurd h
done_so w b es xs (bound.Control control) h = absurd h

-- it is done, or refused, which leaves the state; no session gets a transaction by it, or loses one
pub record IsDone (state : State) (t : Transacted) : Type 0 where
  pub done : (t.answer ≡ Ok Defined) ⊎ ((f : SqlFault) × (t.answer ≡ Err f) × (t.after ≡ state))
  pub sessions : t.after.sessions ≡ state.sessions

abbrev outside : Counted → BoundStatement → Result Answer SqlFault → World → CountedOutcome
outside c s a w = let o = counted c s a w in record { answer = o.answer; after = raised_at o.after (changed_by s o.answer) }

outside_so : (c : Counted) (s : BoundStatement) (a : Result Answer SqlFault) (w : World) → target s ≡ None → AnswersDone a
    → ((outside c s a w).answer ≡ Ok Defined) ⊎ ((f : SqlFault) × ((outside c s a w).answer ≡ Err f) × ((outside c s a w).after ≡ c))
outside_so c s a w t (inl e) = rw (e, t) (inl refl)
outside_so c s a w t (inr h) = let e = h.1 in rw e (inr (h.0, refl, refl))

abbrev no_transaction : Option Transaction
no_transaction = None

-- no session has a transaction, nor has this one
pub alone_at : (state : State) (number : ℕ) → HasNoTransaction state → transaction_at state number ≡ None
alone_at state number h = ap (λ (slots : List (Option Transaction)). slice_index_or slots (number - 1) no_transaction) h ∙ same_there no_transaction 64 (number - 1)

transacts_so : (state : State) (number : ℕ) (e : Execution) → HasNoTransaction state → IsDefining e.bound.statement → IsDone state (transact state number (ask_of e))
transacts_so state number e idle h =
    subst (λ (ask : Ask). IsDone state (transact state number ask)) (sym (asks_so e.bound.statement e h))
    (subst (λ (o : Option Transaction). IsDone state (transacted state number o (Executes e))) (sym (alone_at state number idle)) outside_done)
  where
    outside_done : IsDone state (transacted state number None (Executes e))
    outside_done =
        let c = state.shared in
        let w = c.world in
        let s = e.bound.statement in
        let o = step w e.bound e.encs e.params in
        let d = outside_so c s o.answer o.world (no_rows s h) (done_so w e.bound e.encs e.params s h) in
        record { done = elim d [ inl x ↦ inl x | inr x ↦ inr (x.0, x.1, ap (λ (after : Counted). let v : State = record state { shared = after } in v) x.2) ]; sessions = refl }

-- ---- its result

-- a definition that is understood is one that is bound
pub defining_of : (catalog : Catalog) (batch : Batch) (meant : Meant) → defines batch.text ≡ true → understood catalog batch.text (declarations_of batch) ≡ Ok meant → IsDefining meant.bound.statement
defining_of catalog batch meant defining e =
    let parts = parts_of catalog batch.text (declarations_of batch) meant e in
    bind_defines catalog parts.statement (declarations_of batch) meant.bound (ap reads_definition (sym parts.reads) ∙ defining) parts.binds

abbrev pub atoms_of : Batch → List Atom
atoms_of batch = map (λ (q : Param). plain_atom q.value) batch.params

pub definition_done : (state : State) (number : ℕ) (batch : Batch) (meant : Meant) → HasNoTransaction state
    → defines batch.text ≡ true → understood (catalog_of state number) batch.text (declarations_of batch) ≡ Ok meant
    → IsDone state (transact state number (ask_of (execution meant.bound meant.encs (atoms_of batch))))
definition_done state number batch meant idle defining e = transacts_so state number
    (execution meant.bound meant.encs (atoms_of batch)) idle (defining_of (catalog_of state number) batch meant defining e)

-- it uses no parameter, the reply says what it means, and the state after it is that
pub record ExecutesAs (state : State) (number : ℕ) (p : Pending) (c : Came) : Type 0 where
  pub unused : uses_of p ≡ []
  pub replies : AnswersAs (serve state (Execute number p.version p.batch.text [])).replies c.comes
  pub after : c.state ≡ (serve state (Execute number p.version p.batch.text [])).after
  pub sessions : c.state.sessions ≡ state.sessions

answers_so : (catalog : Catalog) (state : State) (t : Transacted) → IsDone state t
    → AnswersAs (answered catalog t.answer t.after).replies (plain.answered [] [] catalog t.answer) × (t.after ≡ (answered catalog t.answer t.after).after)
answers_so catalog state t d = elim d.done [
  | inl e ↦ rw e ((_, refl, refl), refl)
  | inr h ↦ let e = h.1 in rw e ((_, refl, refl), refl)
]

module _ (law : PreparedAlone) (state : State) (number : ℕ) (batch : Batch) (meant : Meant) (idle : HasNoTransaction state) (defining : defines batch.text ≡ true)
    (e : understood (catalog_of state number) batch.text (declarations_of batch) ≡ Ok meant) where
  abbrev here : Catalog
  here = catalog_of state number

  abbrev d : Description
  d = description here (declarations_of batch) meant

  abbrev p : Pending
  p = pending batch d

  none_used : (place : ℕ) → uses place meant.bound ≡ false
  none_used = unused meant.bound.statement meant.bound refl (defining_of here batch meant defining e)

  no_use : uses_of p ≡ []
  no_use = no_uses batch.params d.params (none_told meant.bound none_used 0 (declarations_of batch) meant.encs)

  alone_is : understood here batch.text [] ≡ Ok (record { bound = alone meant.bound; encs = [] })
  alone_is =
      let u = understood_alone law here batch.text (declarations_of batch) meant (parts_of here batch.text (declarations_of batch) meant e) in
      ap (understood here batch.text) (sym (used_none meant.bound none_used 0 (declarations_of batch))) ∙ u
      ∙ ap (λ (es : List Enc). let v : Meant = record { bound = alone meant.bound; encs = es } in Ok v) (used_none meant.bound none_used 0 meant.encs)

  abbrev did : Transacted
  did = transact state number (ask_of (execution meant.bound meant.encs (atoms_of batch)))

  -- and does the same without its parameters
  alone_does : transact state number (ask_of (execution (alone meant.bound) [] [])) ≡ did
  alone_does =
      let es = used_none meant.bound none_used 0 meant.encs in
      let xs = used_none meant.bound none_used 0 (atoms_of batch) in
      ap (λ es. transact state number (ask_of (execution (alone meant.bound) es []))) (sym es)
      ∙ ap (λ xs. transact state number (ask_of (execution (alone meant.bound) (used_among (is_used meant.bound) 0 meant.encs) xs))) (sym xs)
      ∙ transact_alone state number meant.bound meant.encs (atoms_of batch)

  serves_so : serve state (Execute number p.version p.batch.text []) ≡ answered here did.answer did.after
  serves_so =
      let v = eq-eqb here.version here.version refl in
      let a = alone_is in
      rw (v, a) (ap (λ (t : Transacted). answered here t.answer t.after) alone_does)

  means_so : plain.execution_of [] [] state number p ≡ plain.came_by [] [] here did
  means_so =
      let v = eq-eqb here.version here.version refl in
      ap (λ us. plain.executed_with [] [] state number p (plain.why_unopened [] [] p.keys (map (λ (u : Use). u.enc) us))) no_use
      ∙ rw (v, e) refl

  runs_so : ExecutesAs state number p (plain.execution_of [] [] state number p)
  runs_so =
      let done = definition_done state number batch meant idle defining e in
      let a = answers_so here state did done in
      let s = serves_so in
      let m = means_so in
      subst (ExecutesAs state number p) (sym m) (record {
        unused = no_use;
        replies = subst (λ (x : Served State). AnswersAs x.replies (plain.answered [] [] here did.answer)) (sym s) a.0;
        after = a.1 ∙ ap (λ (x : Served State). x.after) (sym s);
        sessions = done.sessions;
      })

pub runs_definition : PreparedAlone → (state : State) (number : ℕ) (s : Session) → IsDefinition state number s → (p : Pending) → s ≡ session.Pending p
    → ExecutesAs state number p (plain.execution_of [] [] state number p)
runs_definition law state number s h p e =
    let here = catalog_of state number in
    let q = bind_ok (understood here h.batch.text (declarations_of h.batch)) (λ meant. Ok (description here (declarations_of h.batch) meant)) h.description h.described in
    let is : description here (declarations_of h.batch) q.0 ≡ h.description = cc in
    let held : session.Pending (pending h.batch h.description) ≡ session.Pending p = sym h.holds ∙ e in
    let same : pending h.batch h.description ≡ p = cc in
    subst (λ (x : Pending). ExecutesAs state number x (plain.execution_of [] [] state number x)) (ap (pending h.batch) is ∙ same) (runs_so law state number h.batch q.0 h.alone h.defines q.1)

-- ---- its one reply

-- what the reply says, and the state after it
pub record Replied (state now : State) (seen : List Reply) (c : Came) : Type 0 where
  pub says : AnswersAs seen c.comes
  pub after : c.state ≡ now
  pub sessions : now.sessions ≡ state.sessions

pub replies_so : PreparedAlone → (state now : State) (number : ℕ) (s : Session) → IsDefinition state number s → (p : Pending) → s ≡ session.Pending p
    → (r : Request) (replies seen : List Reply) → r ≡ Execute number p.version p.batch.text [] → serve state r ≡ record { replies = replies; after = now } → seen ≡ replies
    → Replied state now seen (plain.execution_of [] [] state number p)
replies_so law state now number s d p holds r replies seen i t e =
    let h = runs_definition law state number s d p holds in
    let c = plain.execution_of [] [] state number p in
    let same : serve state (Execute number p.version p.batch.text []) ≡ record { replies = replies; after = now } = ap (serve state) (sym i) ∙ t in
    let after : c.state ≡ now = h.after ∙ ap (λ (x : Served State). x.after) same in
    record {
      says = subst (λ xs. AnswersAs xs c.comes) (ap (λ (x : Served State). x.replies) same ∙ sym e) h.replies;
      after = after;
      sessions = ap (λ (x : State). x.sessions) (sym after) ∙ h.sessions;
    }

pub comes_so : (c : Came) (now : State) (r : Result comes_to.Outcome AllocError) → c.state ≡ now → IfOk r (λ comes. c.comes ≡ comes) → IfOk r (ComesTo c now)
comes_so c now (Ok comes) w h = (h, w)
comes_so c now (Err e) w h = tt
