-- What a session's call leaves of the state that the code keeps.
use Rattle.std.proofs.Common.{◌≡◌, ℕ, ◌-◌, List, set, refl, ap, sym, subst, ◌∙◌, Option, Some, None, Result, Ok, Err, Bool, true, false}
use Rattle.std.specs.Prelude.{take, if◌then◌else◌}
use Rattle.ae_base.specs.declared.faults.SqlFault.{SqlFault}
use Rattle.ae_base.specs.declared.faults.SqlFault.TheVariants as fault
use Rattle.ae_base.specs.declared.refusals.Refusal.{Refusal}
use Rattle.ae_base.specs.declared.refusals.Refusal.TheVariants.{Fault, OutOfMemory}
use Rattle.engine.specs.Answers.{answer_of}
use Rattle.engine.specs.declared.answers.Answer as code
use Rattle.engine.specs.Step.{Defined}
use Rattle.sql_tree.specs.Kinds.{is_definition}
use Rattle.transactions.specs.Answers.{GivesCounted, StepsIn, StepsWhere, Transacts}
use Rattle.transactions.specs.Counted.{Counted, CountedOutcome, Execution, counted_step, alone}
use Rattle.transactions.specs.Forgotten.{forgotten_in, forgotten}
use Rattle.transactions.specs.Noted.{IsHeld}
use Rattle.transactions.specs.Stores.{
  Transaction,
  Store,
  Transacted,
  Begins,
  Commits,
  Executes,
  refused,
  begun_over,
  transaction_at,
  with_transaction,
  stepped_in,
  why_not,
  taken_over,
  committed,
  executed_in,
  transacted,
  transact,
}
use Rattle.transactions.proofs.Padding.{set_twice}
use Rattle.transactions.proofs.Seen.{set_back}

abbrev pub store_of : Counted → List (Option Transaction) → Store
store_of shared sessions = record { shared = shared; sessions = sessions }

-- a state that is left can stand
pub held_after : {K : Type 0} (result : Result (code.Answer K) (Refusal SqlFault)) (old new : Store) (t : Transacted) → Transacts result old new t → IsHeld old → IsHeld t.after → IsHeld new
held_after (Ok answer) old new t g s h = subst IsHeld (ap (λ (x : Transacted). x.after) g) h
held_after (Err (Fault f)) old new t g s h = subst IsHeld (ap (λ (x : Transacted). x.after) g) h
held_after (Err OutOfMemory) old new t g s h = subst IsHeld (sym g) s

module _ (store : Store) (session : ℕ) where
  abbrev k : ℕ
  k = session - 1

  -- a slot that was empty is emptied
  pub emptied : (sessions : List (Option Transaction)) → transaction_at store session ≡ None → sessions ≡ set store.sessions k None → sessions ≡ store.sessions
  emptied sessions is e = e ∙ ap (set store.sessions k) (sym is) ∙ sym (set_back store.sessions k None)

  -- one that was taken out is put back
  pub put_back : (sessions : List (Option Transaction)) (t : Transaction) → transaction_at store session ≡ Some t → sessions ≡ set (set store.sessions k None) k (Some t) → sessions ≡ store.sessions
  put_back sessions t is e = e ∙ set_twice store.sessions k None (Some t) ∙ ap (set store.sessions k) (sym is) ∙ sym (set_back store.sessions k None)

  -- ---- outside transactions

  pub alone_transacts : {K : Type 0} (result : Result (code.Answer K) (Refusal SqlFault)) (e : Execution) (shared : Counted) (sessions : List (Option Transaction))
      → transaction_at store session ≡ None → sessions ≡ set store.sessions k None
      → GivesCounted result store.shared shared (alone store.shared e) → Transacts result store (store_of shared sessions) (transact store session (Executes e))
  alone_transacts (Ok answer) e shared sessions is s g =
      ap (λ o. transacted store session o (Executes e)) is
      ∙ ap (λ (o : CountedOutcome). let t : Transacted = record { answer = o.answer; after = store_of o.after store.sessions } in t) g
      ∙ ap (λ xs. let t : Transacted = record { answer = Ok (answer_of answer); after = store_of shared xs } in t) (sym (emptied sessions is s))
  alone_transacts (Err (Fault f)) e shared sessions is s g =
      ap (λ o. transacted store session o (Executes e)) is
      ∙ ap (λ (o : CountedOutcome). let t : Transacted = record { answer = o.answer; after = store_of o.after store.sessions } in t) g.0
      ∙ ap (λ xs. let t : Transacted = record { answer = Err f; after = store_of shared xs } in t) (sym (emptied sessions is s))
  alone_transacts (Err OutOfMemory) e shared sessions is s g = ap (λ c. store_of c sessions) g ∙ ap (store_of store.shared) (emptied sessions is s)

  -- ---- in a transaction

  set_in : (sessions : List (Option Transaction)) (t u : Transaction) → sessions ≡ set (set store.sessions k None) k (Some u) → u ≡ t → sessions ≡ set store.sessions k (Some t)
  set_in sessions t u e same = e ∙ set_twice store.sessions k None (Some u) ∙ ap (λ x. set store.sessions k (Some x)) same

  in_transacts : {K : Type 0} (result : Result (code.Answer K) (Refusal SqlFault)) (e : Execution) (t u : Transaction) (sessions : List (Option Transaction)) → transaction_at store session ≡ Some t
      → sessions ≡ set (set store.sessions k None) k (Some u) → is_definition e.bound.statement ≡ false
      → StepsIn result t u e → Transacts result store (store_of store.shared sessions) (executed_in store session t e)
  in_transacts (Ok answer) e t u sessions is s d g =
      let o = counted_step t.own e in
      ap (λ b. let x : Transacted = if b then refused store fault.InTransaction else record { answer = o.answer; after = with_transaction store session (Some (stepped_in t e o)) } in x) d
      ∙ ap (λ a. let x : Transacted = record { answer = a; after = with_transaction store session (Some (stepped_in t e o)) } in x) g.0
      ∙ ap (λ xs. let x : Transacted = record { answer = Ok (answer_of answer); after = store_of store.shared xs } in x) (sym (set_in sessions (stepped_in t e o) u s g.1))
  in_transacts (Err (Fault f)) e t u sessions is s d g =
      let o = counted_step t.own e in
      ap (λ b. let x : Transacted = if b then refused store fault.InTransaction else record { answer = o.answer; after = with_transaction store session (Some (stepped_in t e o)) } in x) d
      ∙ ap (λ a. let x : Transacted = record { answer = a; after = with_transaction store session (Some (stepped_in t e o)) } in x) g.0
      ∙ ap (λ xs. let x : Transacted = record { answer = Err f; after = store_of store.shared xs } in x) (sym (set_in sessions (stepped_in t e o) u s g.1))
  in_transacts (Err OutOfMemory) e t u sessions is s d g = ap (store_of store.shared) (put_back sessions t is (s ∙ ap (λ x. set (set store.sessions k None) k (Some x)) g))

  where_transacts : {K : Type 0} (b : Bool) (result : Result (code.Answer K) (Refusal SqlFault)) (e : Execution)
      (t u : Transaction) (sessions : List (Option Transaction)) → is_definition e.bound.statement ≡ b → transaction_at store session ≡ Some t
      → sessions ≡ set (set store.sessions k None) k (Some u) → StepsWhere b result t u e → Transacts result store (store_of store.shared sessions) (executed_in store session t e)
  where_transacts true (Ok answer) e t u sessions d is s g = absurd g
  where_transacts true (Err (Fault f)) e t u sessions d is s g =
      let o = counted_step t.own e in
      ap (λ b. let x : Transacted = if b then refused store fault.InTransaction else record { answer = o.answer; after = with_transaction store session (Some (stepped_in t e o)) } in x) d
      ∙ ap (λ f. let x : Transacted = record { answer = Err f; after = store } in x) (sym g.0)
      ∙ ap (λ xs. let x : Transacted = record { answer = Err f; after = store_of store.shared xs } in x) (sym (put_back sessions t is (s ∙ ap (λ x. set (set store.sessions k None) k (Some x)) g.1)))
  where_transacts true (Err OutOfMemory) e t u sessions d is s g = absurd g
  where_transacts false result e t u sessions d is s g = in_transacts result e t u sessions is s d g

  pub steps_transacts : {K : Type 0} (result : Result (code.Answer K) (Refusal SqlFault)) (e : Execution) (t u : Transaction) (sessions : List (Option Transaction))
      → transaction_at store session ≡ Some t
      → sessions ≡ set (set store.sessions k None) k (Some u) → StepsWhere (is_definition e.bound.statement) result t u e
      → Transacts result store (store_of store.shared sessions) (transact store session (Executes e))
  steps_transacts result e t u sessions is s g =
      subst (λ o. Transacts result store (store_of store.shared sessions) (transacted store session o (Executes e)))
      (sym is) (where_transacts (is_definition e.bound.statement) result e t u sessions refl is s g)

  -- ---- BEGIN, COMMIT and ROLLBACK

  pub begins : (sessions : List (Option Transaction)) (t : Transaction) → transaction_at store session ≡ None → sessions ≡ set store.sessions k (Some t) → t ≡ begun_over store.shared
      → transact store session Begins ≡ record { answer = Ok Defined; after = store_of store.shared sessions }
  begins sessions t is s e =
      ap (λ o. transacted store session o Begins) is
      ∙ ap (λ xs. let x : Transacted = record { answer = Ok Defined; after = store_of store.shared xs } in x) (sym (s ∙ ap (λ x. set store.sessions k (Some x)) e))

  pub commits : (t : Transaction) (shared : Counted) (sessions : List (Option Transaction))
      → transaction_at store session ≡ Some t → sessions ≡ set store.sessions k None → why_not store.shared t ≡ None → shared ≡ taken_over store.shared t
      → transact store session Commits ≡ record { answer = Ok Defined; after = store_of shared sessions }
  commits t shared sessions is s w e =
      ap (λ o. transacted store session o Commits) is ∙ ap (committed store session t) w
      ∙ ap (λ c. let x : Transacted = record { answer = Ok Defined; after = store_of c (set store.sessions k None) } in x) (sym e)
      ∙ ap (λ xs. let x : Transacted = record { answer = Ok Defined; after = store_of shared xs } in x) (sym s)

  -- ---- what is forgotten

  pub forgets : (used : ℕ) (t u : Transaction) (sessions : List (Option Transaction)) → transaction_at store session ≡ Some t → u ≡ record {
    own = t.own;
    version = t.version;
    used = take used t.used;
    changed = t.changed;
  }
      → sessions ≡ set (set store.sessions k None) k (Some u) → store_of store.shared sessions ≡ forgotten store session used
  forgets used t u sessions is e s =
      ap (store_of store.shared) (s ∙ set_twice store.sessions k None (Some u) ∙ ap (λ x. set store.sessions k (Some x)) e)
      ∙ ap (λ o. with_transaction store session (forgotten_in used o)) (sym is)
