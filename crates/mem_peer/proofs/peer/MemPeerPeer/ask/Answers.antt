-- The next answer and the refusal are both answers to the request.
use Rattle.mem_peer.proofs.MemAnswers.{given, refused}
use Rattle.mem_peer.proofs.peer.MemPeerPeer.ask.Goals as goal

pub returns-then-next_suits-clause-answer : goal.returns-then-next_suits-clause-answer
returns-then-next_suits-clause-answer c =
    given c.args.request.now c.give.result _ _ _ _ (c.next_suits.ensures.0 c.if-next_suits.true) c.give.ensures

pub returns-else-next_suits-clause-answer : goal.returns-else-next_suits-clause-answer
returns-else-next_suits-clause-answer c = refused c.args.request.now c.refuse.result _ _ c.refuse.ensures
