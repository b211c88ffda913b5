-- A clash is a fault.
use Rattle.sql_tree.specs.Bound.{bound_of}
use Rattle.statement_analysis.proofs.Typings.{clash_where}
use Rattle.statement_analysis.proofs.meaning.typed.Goals as goal

pub returns-in-Err-Fault-clause-exact : goal.returns-in-Err-Fault-clause-exact
returns-in-Err-Fault-clause-exact c =
    let clashes = rw c.in-Err-Fault.field-0-is at c.in-Err-Fault.ensures.encs in
    clash_where (bound_of c.args.bound) c.in-Err-Fault.clash clashes
