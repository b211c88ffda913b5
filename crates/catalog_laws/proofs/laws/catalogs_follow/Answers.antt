-- Each definition and each COMMIT is followed.
use Rattle.catalog_laws.proofs.Following.{catalogs_follow}
use Rattle.catalog_laws.proofs.laws.catalogs_follow.Goals as goal

pub returns : goal.returns
returns c = catalogs_follow c.definitions_are_followed.ensures.none c.definitions_are_followed.ensures.several
