use Rattle.server_core.specs.States.{any_cell}
use Rattle.server_core.proofs.Allowed.{may_be_asked}
use Rattle.server_core.proofs.Beginning.{empty_is_store}
use Rattle.server_core.proofs.laws.requests_may_be_asked.Goals as goal

pub returns : goal.returns
returns c = (
  empty_is_store any_cell c.definitions_keep_catalogs.ensures,
  may_be_asked c.bound_statements_are.ensures c.typings_are_of_columns.ensures c.typed_statements_are_admitted.ensures c.transactions_keep_stores.ensures,
)
