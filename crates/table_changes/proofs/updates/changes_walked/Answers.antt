-- Each row has the columns of its table.
use Rattle.std.proofs.Common.{◌≡◌, ◌∙◌, length, sym, subst}
use Rattle.std.specs.List.{All}
use Rattle.table_changes.proofs.Finding.{all_seen}
use Rattle.table_changes.proofs.updates.changes_walked.Goals as goal

pub changes-requires-clause-wide : goal.changes-requires-clause-wide
changes-requires-clause-wide g c =
    rw c.as_slice.ensures
    (all_seen (λ row. length row ≡ length c.args.columns.now) (λ row. row.now) c.in_ok-rows.rows
    (subst (All (λ row. length row ≡ length c.args.columns.now)) (sym (c.in_ok-rows.ensures ∙ c.rows.ensures)) c.requires.wide))
