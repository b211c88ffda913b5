-- The frame that stands next, or less than one, or none.
use Rattle.std.proofs.Common.{◌≤◌, ℕ, List, length, take, subst, inr}
use Rattle.tap_reading.specs.Reading.{SpellsFrame}
use Rattle.view_command.proofs.Standing.{is_next}
use Rattle.view_command.proofs.held.put_next.Goals as goal

pub returns-in-Ok-clause-turns : goal.returns-in-Ok-clause-turns
returns-in-Ok-clause-turns g c =
    let m = c.in-One.frame in
    let d = subst (λ (l : List ℕ). (c.in-One.used ≤ length l) × SpellsFrame m (take c.in-One.used l)) c.as_slice.ensures c.in-One.ensures in
    record { frame = m; next = is_next c.args.held.now m c.in-One.used d.0 d.1; passes = c.in-Ok.ensures.passes; put = c.in-Ok.ensures.content }

pub returns-in-Err-Failed-clause-turns : goal.returns-in-Err-Failed-clause-turns
returns-in-Err-Failed-clause-turns g c =
    let m = c.in-One.frame in
    let d = subst (λ (l : List ℕ). (c.in-One.used ≤ length l) × SpellsFrame m (take c.in-One.used l)) c.as_slice.ensures c.in-One.ensures in
    record { frame = m; used = c.in-One.used; next = is_next c.args.held.now m c.in-One.used d.0 d.1; put = c.in-Err-Failed.ensures.content }

pub returns-in-One-clause-turns : goal.returns-in-One-clause-turns
returns-in-One-clause-turns g c =
    let m = c.in-One.frame in
    let d = subst (λ (l : List ℕ). (c.in-One.used ≤ length l) × SpellsFrame m (take c.in-One.used l)) c.as_slice.ensures c.in-One.ensures in
    inr (record { frame = m; used = c.in-One.used; next = is_next c.args.held.now m c.in-One.used d.0 d.1; put = c.in-Err-OutOfMemory.ensures.content })
