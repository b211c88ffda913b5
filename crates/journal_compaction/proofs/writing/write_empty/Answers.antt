-- All is put, and synced.
use Rattle.std.proofs.Common.{◌+◌, ◌≤◌, [], ◌∷◌, ◌++◌, subst, ℕ}
use Rattle.journal_core.specs.Appends.{most_bytes}
use Rattle.journal_compaction.specs.Writing.{opened}
use Rattle.journal_compaction.proofs.Putting.{are_entries, journal_put, unmade, unput}
use Rattle.journal_compaction.proofs.writing.write_empty.Goals as goal

pub returns-in-Done-clause-content : goal.returns-in-Done-clause-content
returns-in-Done-clause-content g c =
    journal_put c.journals_are_read_back.ensures c.sync.result c.args.records.now _ _ _
    (are_entries c.args.records.now c.requires.records (subst (λ (n : ℕ). n + 1 ≤ most_bytes) c.requires.gate c.requires.room)) c.requires.empty c.in-Done.ensures.content c.sync.ensures.content

pub returns-in-Failed-clause-content : goal.returns-in-Failed-clause-content
returns-in-Failed-clause-content g c = unput c.args.records.now (opened c.args.records.now ++ 0 ∷ []) _ _ c.in-Failed.ensures.content

pub returns-in-OutOfMemory-clause-content : goal.returns-in-OutOfMemory-clause-content
returns-in-OutOfMemory-clause-content g c = unmade c.args.records.now (opened c.args.records.now ++ 0 ∷ []) _ _ c.in-OutOfMemory.ensures.content
