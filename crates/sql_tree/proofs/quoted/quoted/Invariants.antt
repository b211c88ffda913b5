use Rattle.std.proofs.Common.{◌-◌, length}
use Rattle.sql_tree.proofs.Quotes.{IsReadTo}
use Rattle.sql_tree.proofs.quoted.quoted.Given as goal

abbrev pub invariant-bytes : goal.invariant-bytes
invariant-bytes l = IsReadTo l.quote l.bytes l.text.items l.at

abbrev pub decreases-bytes : goal.decreases-bytes
decreases-bytes l = length l.bytes - l.at
