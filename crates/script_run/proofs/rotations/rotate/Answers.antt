-- It is run, and what it came to is printed.
use Rattle.conversation.specs.Talk.{Prints}
use Rattle.driver.specs.Clients.{session_of}
use Rattle.script_run.proofs.Going.{leads_then}
use Rattle.script_run.proofs.Leaving.{leaves_still}
use Rattle.script_run.proofs.Rotating.{rotating_begins}
use Rattle.script_run.proofs.rotations.rotate.Goals as goal

pub run_rotation-requires : goal.run_rotation-requires
run_rotation-requires g c = c.requires

pub returns-in-Ok-clause-leads : goal.returns-in-Ok-clause-leads
returns-in-Ok-clause-leads g c = λ k.
    let e = rotating_begins c.args.driver.now.trusted c.args.number c.args.old.now c.args.new.now (λ comes after. Prints comes (k after)) (session_of c.args.driver.now c.args.number) in
    let p = c.rotated_as.ensures in
    let h = c.print.ensures.leads (k (session_of c.run_rotation.new.driver c.args.number)) in
    rw e (leads_then _ _ _ (λ o. k _) _ _ _ (c.in-Ok.ensures.leads (λ comes after. Prints comes (k after))) (rw p at h))

pub returns-in-Err-clause-leads : goal.returns-in-Err-clause-leads
returns-in-Err-clause-leads g c = λ k.
    let e = rotating_begins c.args.driver.now.trusted c.args.number c.args.old.now c.args.new.now (λ comes after. Prints comes (k after)) (session_of c.args.driver.now c.args.number) in
    rw e (c.in-Err.ensures.leads (λ comes after. Prints comes (k after)))

pub returns-in-Ok-clause-leaves : goal.returns-in-Ok-clause-leaves
returns-in-Ok-clause-leaves g c = leaves_still _ _ _ _ _ _ c.in-Ok.ensures.leaves c.print.ensures.keys

pub returns-in-Err-clause-leaves : goal.returns-in-Err-clause-leaves
returns-in-Err-clause-leaves g c = tt
