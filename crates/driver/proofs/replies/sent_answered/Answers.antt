-- By the reply.
use Rattle.driver.proofs.replies.sent_answered.Goals as goal

pub returns-in-Columns-clause-answered : goal.returns-in-Columns-clause-answered
returns-in-Columns-clause-answered g c = λ beside. let h = c.shown.ensures.answered beside in rw c.in-Columns.is h

pub returns-in-Ended-clause-answered : goal.returns-in-Ended-clause-answered
returns-in-Ended-clause-answered g c = λ beside. rw c.in-Ended.is (c.sent_ended.ensures _ _)

pub returns-in-Refused-clause-answered : goal.returns-in-Refused-clause-answered
returns-in-Refused-clause-answered g c = λ beside. rw c.in-Refused.is (c.sent_refused.ensures _ _)

pub returns-in-Columns-clause-kept : goal.returns-in-Columns-clause-kept
returns-in-Columns-clause-kept g c = λ none. let shown = rw c.in-Columns.is at none in cc

pub returns-in-Columns-clause-accepted : goal.returns-in-Columns-clause-accepted
returns-in-Columns-clause-accepted g c = rw c.in-Columns.is c.shown.ensures.accepted
