-- The classes so far are those of the columns so far.
use Rattle.std.proofs.Common.{◌≡◌, map, take}
use Rattle.tap_listing.specs.Frames.{class_of_column}
use Rattle.tap_listing.proofs.frames.classes_of.Given as goal

abbrev pub invariant-loop-column : goal.invariant-loop-column
invariant-loop-column l = l.classes.items ≡ map class_of_column (take l.column-index l.columns)
