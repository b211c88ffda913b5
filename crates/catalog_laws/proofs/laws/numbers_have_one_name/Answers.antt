-- One list has each key that was ever given.
use Rattle.catalog_laws.proofs.Names.{one_name}
use Rattle.catalog_laws.proofs.laws.numbers_have_one_name.Goals as goal

pub returns : goal.returns
returns c = one_name c.definitions_are_followed.ensures.none
