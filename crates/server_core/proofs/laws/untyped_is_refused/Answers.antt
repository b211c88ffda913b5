-- What is inferred of the bound statement decides.
use Rattle.server_core.proofs.Untyped.{described_by_typing}
use Rattle.server_core.proofs.laws.untyped_is_refused.Goals as goal

pub returns : goal.returns
returns c = described_by_typing c.inferred_exactly.ensures.exact c.inferred_exactly.ensures.first
