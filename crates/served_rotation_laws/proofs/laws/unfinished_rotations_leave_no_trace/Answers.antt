use Rattle.served_rotation_laws.proofs.Traceless.{traceless}
use Rattle.served_rotation_laws.proofs.laws.unfinished_rotations_leave_no_trace.Goals as goal

pub returns : goal.returns
returns c = traceless c.proper_tables_stay.ensures c.texts_parse.ensures c.begins_commits_and_rolls_back.ensures c.reading_is_whole.ensures
