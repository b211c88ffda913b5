-- The next row.
use Rattle.std.proofs.Common.{rules, IsTrue}
use Rattle.journal_compaction.proofs.Equalities.{differ_in, more_same}
use Rattle.journal_compaction.proofs.worlds.same_lent.Goals as goal

pub returns-then-not-equals : goal.returns-then-not-equals
returns-then-not-equals c = (
  λ t. cc,
  λ e. absurd (differ_in _ c.args.rows.now c.args.others.now c.rows.i c.index-rows-i.result c.index-others-i.result e c.rows.invariant.long c.rows-test.true c.index-rows-i.is c.index-others-i.is
      (λ h. let t = c.equals.ensures.1 h in let f = c.if-not-equals.true in cc)),
)

pub rows-preserved : goal.rows-preserved
rows-preserved c =
    let t : IsTrue c.equals.result = search rules in
    record {
      same =
          more_same _ c.args.rows.now c.args.others.now c.rows.i c.index-rows-i.result c.index-others-i.result c.rows.invariant.same c.rows.invariant.long c.rows-test.true c.index-rows-i.is
          c.index-others-i.is (c.equals.ensures.0 t);
      long = c.rows.invariant.long;
    }
