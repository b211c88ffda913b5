use Rattle.recording_laws.proofs.Replays.{replayed}
use Rattle.recording_laws.proofs.laws.replay_law.Goals as goal

pub returns : goal.returns
returns c = replayed c.requests_may_be_asked.ensures
