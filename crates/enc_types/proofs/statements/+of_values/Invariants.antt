use Rattle.std.proofs.Common.{length}
use Rattle.enc_types.proofs.statements.+of_values.Given as goal

abbrev pub decreases-of_values : goal.decreases-of_values
decreases-of_values l = length l.named.now
