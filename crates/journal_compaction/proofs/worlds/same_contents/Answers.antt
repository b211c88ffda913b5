-- The next table.
use Rattle.std.proofs.Common.{rules, IsTrue}
use Rattle.journal_compaction.proofs.Equalities.{differ_in, more_same}
use Rattle.journal_compaction.proofs.worlds.same_contents.Goals as goal

pub returns-then-not-branch : goal.returns-then-not-branch
returns-then-not-branch c = (
  λ t. cc,
  λ e. absurd (differ_in _ c.args.tables.now c.args.others.now c.tables.i c.index-tables-i.result c.index-others-i.result e c.tables.invariant.long c.tables-test.true c.index-tables-i.is
      c.index-others-i.is (λ h. let t = c.in_ok-same_rows.ensures.1 h in let f = c.if-not-branch.true in cc)),
)

pub tables-preserved : goal.tables-preserved
tables-preserved c =
    let t : IsTrue c.in_ok-same_rows.field-0 = search rules in
    record {
      same =
          more_same _ c.args.tables.now c.args.others.now c.tables.i c.index-tables-i.result c.index-others-i.result
          c.tables.invariant.same c.tables.invariant.long c.tables-test.true c.index-tables-i.is
          c.index-others-i.is (c.in_ok-same_rows.ensures.0 t);
      long = c.tables.invariant.long;
    }
