-- What follows a catalog gives no number again.
use Rattle.catalog_laws.proofs.Numbers.{numbers_not_reused}
use Rattle.catalog_laws.proofs.laws.key_numbers_are_not_reused.Goals as goal

pub returns : goal.returns
returns c = numbers_not_reused c.requests_may_be_asked.ensures c.ids_are_not_reused.ensures c.catalogs_follow.ensures
