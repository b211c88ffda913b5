-- By what the session holds.
use Rattle.driver.proofs.replies.answered.Goals as goal

pub returns-in-Sent-clause-answered : goal.returns-in-Sent-clause-answered
returns-in-Sent-clause-answered g c = λ beside. let h = c.sent_answered.ensures.answered beside in rw c.in-Sent.is h

pub returns-in-Sent-clause-kept : goal.returns-in-Sent-clause-kept
returns-in-Sent-clause-kept g c = λ none. c.sent_answered.ensures.kept (rw c.in-Sent.is at none)

pub returns-in-Sent-clause-accepted : goal.returns-in-Sent-clause-accepted
returns-in-Sent-clause-accepted g c = rw c.in-Sent.is c.sent_answered.ensures.accepted
