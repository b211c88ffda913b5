-- The columns so far, with those that are left, are all, and those so far are of types.
use Rattle.std.proofs.Common.{◌≡◌, ◌++◌, map}
use Rattle.std.specs.List.{All}
use Rattle.ae_base.specs.Types.{IsType}
use Rattle.server_core.specs.Serve.{sent_column}
use Rattle.server_core.proofs.columns.sent_columns.Given as goal

abbrev pub invariant-loop-column : goal.invariant-loop-column
invariant-loop-column l = record {
  sent : l.sent ++ map sent_column l.column-iterator.rest.items ≡ map sent_column l.fn.columns;
  proper : All (λ column. IsType column.ty) l.sent;
}
