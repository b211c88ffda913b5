-- The same is lent after it.
use Rattle.std.specs.Prelude.{None}
use Rattle.conversation.specs.Talk.{Stops}
use Rattle.script_run.proofs.Lent.{leads_in, leads_same, only_same}
use Rattle.script_run.proofs.runs.rotate_lent.Goals as goal

pub run_rotation-requires : goal.run_rotation-requires
run_rotation-requires g c = c.requires

pub returns-clause-leads : goal.returns-clause-leads
returns-clause-leads g c = λ k. let l = leads_same _ _ _ _ _ (c.run_rotation.ensures.leads k) in leads_in _ _ _ _ _ _ _ l.version (c.run_rotation.ensures.leads k)

pub returns-clause-leaves : goal.returns-clause-leaves
returns-clause-leaves g c = c.run_rotation.ensures.leaves

pub returns-clause-same_out : goal.returns-clause-same_out
returns-clause-same_out g c = let l = leads_same _ _ _ _ _ (c.run_rotation.ensures.leads (λ comes after. Stops None)) in only_same _ _ l.out

pub returns-clause-same_entropy : goal.returns-clause-same_entropy
returns-clause-same_entropy g c = let l = leads_same _ _ _ _ _ (c.run_rotation.ensures.leads (λ comes after. Stops None)) in only_same _ _ l.entropy

pub returns-clause-same_vault : goal.returns-clause-same_vault
returns-clause-same_vault g c = let l = leads_same _ _ _ _ _ (c.run_rotation.ensures.leads (λ comes after. Stops None)) in only_same _ _ l.vault

pub returns-clause-same_wire : goal.returns-clause-same_wire
returns-clause-same_wire g c = let l = leads_same _ _ _ _ _ (c.run_rotation.ensures.leads (λ comes after. Stops None)) in l.wire
