-- The names differ, and are few.
use Rattle.std.proofs.Common.{◌≤◌, length, map, sym, subst, arith}
use Rattle.std.specs.Prelude.{List, IsTrue}
use Rattle.ae_base.specs.Names.{all_differ}
use Rattle.ae_base.specs.declared.batches.Param.{Param}
use Rattle.column_rotate.proofs.Named.{names_differ, names_few}
use Rattle.column_rotate.proofs.parameters.params_of.Goals as goal

pub unreachable-requires : goal.unreachable-requires
unreachable-requires c =
    let r = c.requires in
    let few = names_few 1 c.args.columns.now c.args.values.now in
    let fit = subst (λ (ps : List Param). (length ps ≤ 128) × IsTrue (all_differ (map (λ (p : Param). p.declaration.name) ps))) (sym c.in_ok-listed.ensures)
    (omega (arith, few, r), names_differ 1 c.args.columns.now c.args.values.now (omega (arith, r))) in
    let s = c.from_seq.ensures.exactly.1 fit in
    let n = rw c.in-None.is at s in
    cc
