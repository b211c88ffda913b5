-- The text is that of the lines.
use Rattle.std.proofs.Common.{refl}
use Rattle.tap_page.specs.Page.{page_foot}
use Rattle.tap_page.proofs.pages.foot.Goals as goal

pub returns : goal.returns
unfolding page_foot
returns c = refl
