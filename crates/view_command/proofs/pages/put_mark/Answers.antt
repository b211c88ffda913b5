-- Only a page has the part.
use Rattle.std.proofs.Common.{List, ℕ, ◌∙◌, subst}
use Rattle.ae_edge.specs.Devices.{Calls}
use Rattle.ae_edge.specs.Streams.{CountsPutAll, PutsAll}
use Rattle.ae_edge.proofs.Interface.{calls_none}
use Rattle.view_command.proofs.Paged.{mark_of_page, no_mark}
use Rattle.view_command.proofs.pages.put_mark.Goals as goal

pub returns-then-page : goal.returns-then-page
returns-then-page g c =
    subst (λ (l : List ℕ). Calls (PutsAll l c.put_all.result) (CountsPutAll c.put_all.result) (g.W.Sink.seen c.args.out.now) (g.W.Sink.seen c.put_all.new.sink))
    (c.as_bytes.ensures.value ∙ mark_of_page c.args.page c.args.html.now c.if-page.true) c.put_all.ensures.call

pub returns-else-page : goal.returns-else-page
returns-else-page g c = calls_none _ (g.W.Sink.seen c.args.out.now) (no_mark c.args.page c.args.html.now _ c.if-page.false)
