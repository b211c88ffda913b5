-- The records were served, or the first that isn't.
use Rattle.std.proofs.Common.{refl}
use Rattle.journal_compaction.proofs.finding.serve_found.Goals as goal

pub returns-in-Served-clause-content : goal.returns-in-Served-clause-content
returns-in-Served-clause-content g c = (refl, rw c.new-server.ensures at c.in-Served.ensures.call.content)

pub returns-in-Refused-clause-content : goal.returns-in-Refused-clause-content
returns-in-Refused-clause-content g c = rw c.new-server.ensures at c.in-Refused.ensures.call.content

pub returns-in-DiskFault-clause-content : goal.returns-in-DiskFault-clause-content
returns-in-DiskFault-clause-content g c = c.in-DiskFault.ensures.call.content

pub returns-in-OutOfMemory-clause-content : goal.returns-in-OutOfMemory-clause-content
returns-in-OutOfMemory-clause-content g c = c.in-OutOfMemory.ensures.call.content
