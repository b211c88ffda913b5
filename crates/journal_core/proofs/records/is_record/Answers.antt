-- One frame more, or one that is none.
use Rattle.std.proofs.Common.{rules, ◌<◌, length, sym, ap, subst, arith, IsTrue, false}
use Rattle.std.proofs.lemmas.List.{take_rest}
use Rattle.journal_core.specs.Records.{IsRecord}
use Rattle.journal_core.proofs.Frames.{HasRead, more_read, none_other}
use Rattle.journal_core.proofs.records.is_record.Goals as goal

pub frames-preserved : goal.frames-preserved
frames-preserved c =
    let rest = c.frames.rest.now in
    let used = c.in-Execute.used in
    record {
      read = subst (HasRead c.args.bytes.now) (sym (take_rest rest used)) (more_read c.args.bytes.now rest used c.frames.invariant.read c.in-Execute.ensures.1);
      some = c.frames.invariant.some;
    }

pub returns-in-Other : goal.returns-in-Other
returns-in-Other c =
    let rest = c.frames.rest.now in
    let long : 0 < length c.frames.rest.now = search rules in
    let not : IsTrue false → IsRecord c.args.bytes.now = search rules in
    (not, λ r. absurd (none_other c.one_reading.ensures.requests c.args.bytes.now rest c.frames.invariant.read (λ e. absurd (omega (arith, long, ap length e))) c.in-Other.ensures r))
