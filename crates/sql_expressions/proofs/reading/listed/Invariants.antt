use Rattle.std.proofs.Common.{length, map}
use Rattle.sql_expressions.proofs.Listing.{Lists}
use Rattle.sql_expressions.proofs.reading.listed.Given as goal

abbrev pub invariant-items : goal.invariant-items
invariant-items g l = Lists g.R.Reader.reading l.fn.tokens (map g.R.Reader.view l.items) l.tokens

abbrev pub decreases-items : goal.decreases-items
decreases-items g l = length l.tokens
