-- What was inferred is what a typed statement holds.
use Rattle.sql_tree.specs.Bound.{bound_of}
use Rattle.inference.proofs.Inferring.{is_inferred}
use Rattle.inference.proofs.infer.infer.Goals as goal

pub new-requires : goal.new-requires
new-requires c = is_inferred (bound_of c.args.bound) c.in-Ok.encs c.in-Ok.ensures.inferred
