-- The first name, and then the rest.
use Rattle.std.proofs.Common.{◌∙◌}
use Rattle.column_rotate.proofs.Spelled.{first_names_at}
use Rattle.column_rotate.proofs.texts.push_names.Goals as goal

pub returns-in_ok-push_more_names-in-len1-up : goal.returns-in_ok-push_more_names-in-len1-up
returns-in_ok-push_more_names-in-len1-up c =
    first_names_at c.args.columns.now c.column-item.result _ _ _ _ c.in-len1-up.len_at_least c.column-item.is (c.as_str.ensures.characters ∙ c.title.ensures)
    c.in_ok-push_name-in-len1-up.ensures c.in_ok-push_more_names-in-len1-up.ensures
