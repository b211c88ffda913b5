-- The ledger is the new one.
use Rattle.store_tests.proofs.joins.join_by_keys.Given as goal

abbrev pub ghosts-joined_numbers : goal.ghosts-joined_numbers
ghosts-joined_numbers g a = record { name = a.blank.name; parts = a.blank.parts }
