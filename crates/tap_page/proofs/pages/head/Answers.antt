-- The text is that of the lines.
use Rattle.std.proofs.Common.{refl}
use Rattle.tap_page.specs.Page.{page_head}
use Rattle.tap_page.proofs.pages.head.Goals as goal

pub returns : goal.returns
unfolding page_head
returns c = refl
