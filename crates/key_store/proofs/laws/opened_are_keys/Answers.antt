use Rattle.key_store.proofs.Opened.{derived, names_aside, whole}
use Rattle.key_store.proofs.laws.opened_are_keys.Goals as goal

pub returns-clause-derived : goal.returns-clause-derived
returns-clause-derived c = derived

pub returns-clause-names : goal.returns-clause-names
returns-clause-names c = names_aside

pub returns-clause-whole : goal.returns-clause-whole
returns-clause-whole c = whole
