-- The characters of the borrowed text are the path's.
use Rattle.std.proofs.Common.{ap, ◌∙◌, arith}
use Rattle.std.specs.List.{list_all}
use Rattle.ae_edge.specs.KeyFiles.{is_path_character}
use Rattle.ae_edge.proofs.KeyPaths.{path_exactly}
use Rattle.ae_edge.proofs.adapters.key_files.is_key_path.Goals as goal

pub returns-then-count-le-MOST_CHARACTERS : goal.returns-then-count-le-MOST_CHARACTERS
returns-then-count-le-MOST_CHARACTERS c =
    path_exactly c.args.path.now _ (omega arith) (omega arith)
    (c.has_path_characters.ensures ∙ ap (list_all is_path_character) c.as_str.ensures.characters)
