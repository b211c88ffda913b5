use Rattle.recording_laws.proofs.Replays.{are_journals}
use Rattle.recording_laws.proofs.laws.records_are_journals.Goals as goal

pub returns : goal.returns
returns c = are_journals c.requests_may_be_asked.ensures
