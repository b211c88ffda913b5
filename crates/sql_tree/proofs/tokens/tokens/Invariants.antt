use Rattle.std.proofs.Common.{◌≤◌, ◌-◌, length}
use Rattle.sql_tree.proofs.Progress.{SoFar}
use Rattle.sql_tree.proofs.tokens.tokens.Given as goal

abbrev pub invariant-loop-at : goal.invariant-loop-at
invariant-loop-at l = record { so_far : SoFar l.most l.bytes l.at l.tokens l.wide; within : l.at ≤ length l.bytes }

abbrev pub decreases-loop-at : goal.decreases-loop-at
decreases-loop-at l = length l.initial.bytes - l.at
