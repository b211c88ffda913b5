-- One entry more.
use Rattle.std.proofs.Common.{rules, ◌≤◌, ℕ, List, IsTrue, length, subst, arith}
use Rattle.std.specs.List.{All}
use Rattle.std.proofs.lemmas.List.{take_all}
use Rattle.std.proofs.lemmas.List.Elements.{All-more}
use Rattle.journal_core.specs.Records.{IsRecord}
use Rattle.journal_compaction.proofs.checking.are_records.Goals as goal

pub entries-preserved : goal.entries-preserved
entries-preserved c =
    let x = c.entry-item.result in
    let t : IsTrue c.in_ok-is_record.field-0 = search rules in
    let yes = rw c.as_slice.ensures at c.in_ok-is_record.ensures in
    All-more IsRecord c.args.entries.now c.entries.entry-index x c.entries-test.true c.entries.invariant (subst (λ (w : List ℕ). IsRecord w) c.entry-item.is (yes.0 t))

pub returns : goal.returns
returns c =
    let all : length c.args.entries.now ≤ c.entries.entry-index = omega arith in
    λ t. subst (λ (l : List (List ℕ)). All IsRecord l) (take_all c.entries.entry-index c.args.entries.now all) c.entries.invariant
