-- The first parameter, and then the rest.
use Rattle.column_rotate.proofs.Spelled.{first_placeholders_at}
use Rattle.column_rotate.proofs.texts.push_placeholders.Goals as goal

pub returns-in_ok-push_more_placeholders-in-len1-up : goal.returns-in_ok-push_more_placeholders-in-len1-up
returns-in_ok-push_more_placeholders-in-len1-up c =
    first_placeholders_at c.args.columns.now _ _ _ c.in-len1-up.len_at_least c.in_ok-push_str-in-len1-up.ensures.bytes c.in_ok-push_more_placeholders-in-len1-up.ensures
