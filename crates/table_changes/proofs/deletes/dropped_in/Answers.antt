-- What the filter reads is there.
use Rattle.std.proofs.Common.{length}
use Rattle.std.specs.Option.{option_map}
use Rattle.sql_tree.specs.Conditions.{condition_of}
use Rattle.table_changes.proofs.Dropping.{filter_wide}
use Rattle.table_changes.proofs.deletes.dropped_in.Goals as goal

pub dropped_walked-requires : goal.dropped_walked-requires
dropped_walked-requires g c = filter_wide c.args.width (length c.args.params.now) (option_map condition_of c.args.filter.now) c.args.table.now.rows c.requires.wide c.requires.filter

pub dropped_found-requires-clause-placed : goal.dropped_found-requires-clause-placed
dropped_found-requires-clause-placed g c = filter_wide c.args.width (length c.args.params.now) (option_map condition_of c.args.filter.now) c.args.table.now.rows c.requires.wide c.requires.filter
