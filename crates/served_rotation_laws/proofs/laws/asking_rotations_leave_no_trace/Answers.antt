use Rattle.served_rotation_laws.proofs.Traceless.{asking}
use Rattle.served_rotation_laws.proofs.laws.asking_rotations_leave_no_trace.Goals as goal

pub returns : goal.returns
returns c = asking c.proper_tables_stay.ensures c.texts_parse.ensures c.begins_commits_and_rolls_back.ensures c.reading_is_whole.ensures
