-- What the laws of scripts need of the crates below, as one record.
use Rattle.catalog.specs.Laws.{DefinitionsKeepCatalogs}
use Rattle.cell_codec.specs.Laws.{SealedIsReadBack, SealedIsCell, SealedHasShape, DerivedAreKeys, IvIsBlock}
use Rattle.enc_types.specs.Laws.{TypingsAreOfColumns}
use Rattle.engine.specs.Laws.{TypedStatementsAreAdmitted}
use Rattle.key_store.specs.Laws.{OpenedAreDerived, OpenedAreWhole}
use Rattle.proper_value_laws.specs.Laws.{ProperValuesStay, TextsAreProper}
use Rattle.resolve.specs.Laws.{BoundStatementsAre, PreparedAlone}
use Rattle.transactions.specs.Laws.{TransactionsKeepStores, TransactionsSimulate}
use Rattle.value_norm.specs.Laws.{NormIsBounded}
use Rattle.value_norm.specs.Reading.{ValueIsTheOne}

-- keys that are opened, and values that are sealed under them and read back
pub record SealLaws : Type 0 where
  pub opened : OpenedAreDerived
  pub whole : OpenedAreWhole
  pub back : SealedIsReadBack
  pub cell : SealedIsCell
  pub shape : SealedHasShape
  pub derived : DerivedAreKeys
  pub vector : IvIsBlock
  pub bounded : NormIsBounded
  pub the_one : ValueIsTheOne

pub record LawsBelow : Type 0 where
  pub bound : BoundStatementsAre
  pub prepared : PreparedAlone
  pub typings : TypingsAreOfColumns
  pub admitted : TypedStatementsAreAdmitted
  pub keeps_stores : TransactionsKeepStores
  pub simulates : TransactionsSimulate
  pub catalogs : DefinitionsKeepCatalogs
  pub texts : TextsAreProper
  pub proper : ProperValuesStay
  pub seals : SealLaws
