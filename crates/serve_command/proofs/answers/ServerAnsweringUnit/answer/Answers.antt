-- The request was served, and frames of its replies were put.
use Rattle.std.proofs.Common.{List, subst}
use Rattle.ae_edge.specs.Streams.{PutsAll}
use Rattle.wire_encoding.specs.Packing.{packed}
use Rattle.wire_messages.specs.declared.replies.Reply.{Reply}
use Rattle.serve_command.proofs.Serving.{answers_put, counts_put}
use Rattle.serve_command.proofs.answers.ServerAnsweringUnit.answer.Goals as goal

pub returns-in-Ok-clause-answered : goal.returns-in-Ok-clause-answered
returns-in-Ok-clause-answered g c =
    let out = (g.W.Sink.seen c.args.out.now).content in
    let out_after = (g.W.Sink.seen c.put_replies.new.out).content in
    let put = subst (λ (l : List Reply). PutsAll (packed c.args.asked.now.version l) c.put_replies.result out out_after) c.as_slice.ensures c.put_replies.ensures.content in
    answers_put c.put_replies.result c.args.asked.now (record { state = c.args.self.now; out = out }) (record { state = c.serve.new.self; out = out_after }) c.in-Ok.replies
    c.in-Ok.ensures.served put

pub returns-in-Ok-clause-counts : goal.returns-in-Ok-clause-counts
returns-in-Ok-clause-counts g c = counts_put c.put_replies.result _ _ c.put_replies.ensures.counts
