-- The state in which nothing is defined can stand.
use Rattle.std.proofs.Common.{sym, subst}
use Rattle.server_core.specs.States.{IsState}
use Rattle.server_core.proofs.Beginning.{empty_is_state}
use Rattle.server_core.proofs.server.Server.new.Goals as goal

pub invariant_of-result : goal.invariant_of-result
invariant_of-result c = subst IsState (sym c.new.ensures) (empty_is_state c.definitions_keep_catalogs.ensures)
