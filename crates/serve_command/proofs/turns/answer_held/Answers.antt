-- One request more is answered, or what was taken ends there.
use Rattle.std.proofs.Common.{◌∙◌}
use Rattle.serve_command.proofs.Turning.{drains_refused, drains_unread, drains_waits, stands_more, stands_whole, stops_after}
use Rattle.serve_command.proofs.turns.answer_held.Goals as goal

pub advance-requires : goal.advance-requires
advance-requires g c =
    let a = c.in-Answered.ensures.turns in
    record { waits = a.waits; whole = stands_whole c.requests.feed a.request c.in-Answered.used c.requests.invariant.way a.next }

pub requests-preserved : goal.requests-preserved
requests-preserved g c =
    let e = c.advance.ensures in
    record {
      way = rw e c.requests.invariant.way;
      stands = λ taken first short s. rw e
          (stands_more g.A.Answering.answers taken c.requests.feed first _ (c.requests.invariant.stands taken first short s) c.in-Answered.used _ short c.in-Answered.ensures.turns);
      ready = c.in-Answered.ensures.ready;
      names = c.in-Answered.ensures.same ∙ c.requests.invariant.names;
      counts = c.in-Answered.ensures.counts ∙ c.requests.invariant.counts;
    }

pub returns-in-Waits-clause-drains : goal.returns-in-Waits-clause-drains
returns-in-Waits-clause-drains g c = λ taken first short s.
    drains_waits g.A.Answering.answers g.A.Answering.stops taken c.requests.feed first _ _ (c.requests.invariant.stands taken first short s) c.in-Waits.ensures.turns

pub returns-in-Refused-clause-drains : goal.returns-in-Refused-clause-drains
returns-in-Refused-clause-drains g c = λ taken first short s. drains_refused g.A.Answering.answers g.A.Answering.stops
    taken c.requests.feed first _ _ (c.requests.invariant.stands taken first short s) c.in-Refused.place c.in-Refused.ensures.turns

pub returns-in-OutOfMemory-clause-drains : goal.returns-in-OutOfMemory-clause-drains
returns-in-OutOfMemory-clause-drains g c = λ taken first short s. drains_unread g.A.Answering.answers g.A.Answering.stops
    taken c.requests.feed first _ _ (c.requests.invariant.stands taken first short s) c.in-OutOfMemory.ensures.turns

pub returns-in-Stopped-clause-drains : goal.returns-in-Stopped-clause-drains
returns-in-Stopped-clause-drains g c = λ taken first short s. stops_after g.A.Answering.answers taken c.requests.feed
    first _ (c.requests.invariant.stands taken first short s) (g.A.Answering.stops c.in-Stopped.stop) _ c.in-Stopped.ensures.turns
