use Rattle.catalog.proofs.Kept.{nothing_kept, defined_by-kept}
use Rattle.catalog.proofs.laws.definitions_keep_catalogs.Goals as goal

pub returns : goal.returns
returns c = (nothing_kept, defined_by-kept)
