use Rattle.std.proofs.Common.{◌≡◌, IsTrue, length, map}
use Rattle.std.specs.List.{list_all}
use Rattle.std.specs.Str.{chars}
use Rattle.sql_tree.specs.Reading.{is_capital}
use Rattle.sql_tree.specs.Tokens.{in_capitals, named_in}
use Rattle.sql_tree.proofs.words.named_among.Given as goal

abbrev pub invariant-loop-table : goal.invariant-loop-table
invariant-loop-table l =
    IsTrue (list_all (λ entry. list_all is_capital entry.0.now) l.table)
    × (named_in (map (λ entry. (entry.0.now, entry.1)) l.table) (in_capitals (chars l.word)) ≡ named_in (map (λ entry. (entry.0.now, entry.1)) l.initial.table) (in_capitals (chars l.word)))

abbrev pub decreases-loop-table : goal.decreases-loop-table
decreases-loop-table l = length l.table
