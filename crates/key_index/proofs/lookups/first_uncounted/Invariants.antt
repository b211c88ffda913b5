-- The ledger is the new one.
use Rattle.key_index.proofs.lookups.first_uncounted.Given as goal

abbrev pub ghosts-first_from : goal.ghosts-first_from
ghosts-first_from g a = record { name = a.blank.name; parts = a.blank.parts }
