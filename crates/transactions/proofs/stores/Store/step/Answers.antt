-- In a transaction, or outside.
use Rattle.std.proofs.Common.{◌≡◌, ◌-◌, set, Some, sym, ap, subst, ◌∙◌}
use Rattle.sql_tree.specs.Bound.{bound_of}
use Rattle.sql_tree.specs.OnTables.{IsOnTables}
use Rattle.catalog.specs.Definitions.{MayDefine}
use Rattle.transactions.specs.Answers.{Transacts}
use Rattle.transactions.specs.Counted.{execution}
use Rattle.transactions.specs.Noted.{IsNotedIn}
use Rattle.transactions.specs.Stores.{Store, Executes, transact, world_of}
use Rattle.transactions.proofs.Storing.{store_of, held_after, alone_transacts, steps_transacts}
use Rattle.transactions.proofs.Tracking.{noted_apart, noted_at, transact_held}
use Rattle.transactions.proofs.stores.Store.step.Goals as goal

pub step_in-answer-requires-clause-apart : goal.step_in-answer-requires-clause-apart
step_in-answer-requires-clause-apart g c =
    let old : Store = store_of c.self.inside.shared c.self.inside.slots.transactions in
    noted_apart old.shared c.in-Some.transaction (subst (IsNotedIn old.shared) (sym c.take.ensures.value ∙ c.in-Some.is) (noted_at old c.args.session c.self.invariant))

pub invariant_of-self : goal.invariant_of-self
invariant_of-self g c =
    let old : Store = store_of c.self.inside.shared c.self.inside.slots.transactions in
    let same : old ≡ c.args.self.now = c.self.view_is in
    let n = c.args.session in
    let b = bound_of c.args.bound in
    let e = execution b c.args.encs.now c.args.params.now in
    let done = steps_transacts old n c.step_in-answer.result e c.in-Some.transaction c.step_in-answer.new.transaction c.put.new.self.transactions (sym c.take.ensures.value ∙ c.in-Some.is)
    (c.put.ensures ∙ ap (λ xs. set xs (n - 1) (Some c.step_in-answer.new.transaction)) c.take.ensures.after) c.step_in-answer.ensures in
    held_after c.step_in-answer.result old (store_of old.shared c.put.new.self.transactions) (transact old n (Executes e)) done c.self.invariant
    (transact_held old n (Executes e) c.self.invariant
    (subst (λ (s : Store). IsOnTables (world_of s n).world.catalog.tables b × MayDefine (world_of s n).world.catalog b.statement) (sym same) (c.requires.tables, c.requires.definable)))

pub invariant_of-self-in-None : goal.invariant_of-self-in-None
invariant_of-self-in-None g c =
    let old : Store = store_of c.self.inside.shared c.self.inside.slots.transactions in
    let same : old ≡ c.args.self.now = c.self.view_is in
    let n = c.args.session in
    let b = bound_of c.args.bound in
    let e = execution b c.args.encs.now c.args.params.now in
    let done = alone_transacts old n c.execute_alone.result e c.execute_alone.new.self c.take.new.self.transactions
    (sym c.take.ensures.value ∙ c.in-None.is) c.take.ensures.after c.execute_alone.ensures in
    held_after c.execute_alone.result old (store_of c.execute_alone.new.self c.take.new.self.transactions) (transact old n (Executes e)) done c.self.invariant
    (transact_held old n (Executes e) c.self.invariant
    (subst (λ (s : Store). IsOnTables (world_of s n).world.catalog.tables b × MayDefine (world_of s n).world.catalog b.statement) (sym same) (c.requires.tables, c.requires.definable)))

pub returns-in-Some : goal.returns-in-Some
returns-in-Some g c =
    let old : Store = store_of c.self.inside.shared c.self.inside.slots.transactions in
    let same : old ≡ c.args.self.now = c.self.view_is in
    let n = c.args.session in
    let e = execution (bound_of c.args.bound) c.args.encs.now c.args.params.now in
    subst (λ (s : Store). Transacts c.step_in-answer.result s (store_of old.shared c.put.new.self.transactions) (transact s n (Executes e))) same
    (steps_transacts old n c.step_in-answer.result e c.in-Some.transaction c.step_in-answer.new.transaction c.put.new.self.transactions (sym c.take.ensures.value ∙ c.in-Some.is)
    (c.put.ensures ∙ ap (λ xs. set xs (n - 1) (Some c.step_in-answer.new.transaction)) c.take.ensures.after) c.step_in-answer.ensures)

pub returns-in-None : goal.returns-in-None
returns-in-None g c =
    let old : Store = store_of c.self.inside.shared c.self.inside.slots.transactions in
    let same : old ≡ c.args.self.now = c.self.view_is in
    let n = c.args.session in
    let e = execution (bound_of c.args.bound) c.args.encs.now c.args.params.now in
    subst (λ (s : Store). Transacts c.execute_alone.result s (store_of c.execute_alone.new.self c.take.new.self.transactions) (transact s n (Executes e))) same
    (alone_transacts old n c.execute_alone.result e c.execute_alone.new.self c.take.new.self.transactions (sym c.take.ensures.value ∙ c.in-None.is) c.take.ensures.after c.execute_alone.ensures)
