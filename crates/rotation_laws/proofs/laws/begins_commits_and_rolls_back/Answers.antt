use Rattle.std.proofs.Common.{refl}
use lib.Utf8.{encode}
use Rattle.sql_grammar.specs.Texts.{statement_in, tree_of}
use Rattle.rotation_laws.proofs.laws.begins_commits_and_rolls_back.Goals as goal

pub returns : goal.returns
unfolding statement_in tree_of encode
returns c = record { begun = refl; committed = refl; rolled_back = refl }
