-- What is known of the sites of some rules, and the steps by which it was found.
use Rattle.std.specs.Prelude.{◌≡◌, List, Option, Some, None, true, reverse}
use Rattle.std.specs.List.{list_all}
use Rattle.ae_base.specs.declared.types.Ty.{Ty}
use Rattle.ae_base.specs.declared.types.Enc.{Enc}
use Rattle.sql_tree.specs.declared.bound.ColumnSite.{ColumnSite}
use Rattle.enc_types.specs.Typing.{fixed, Typing}
use Rattle.enc_types.specs.declared.sites.Site.{Site}
use Rattle.enc_types.specs.declared.rules.Rule.{Rule}
use Rattle.inference.specs.Found.{enc_in}
use Rattle.inference.specs.Steps.{is_settled, traced, IsTrace}
use Rattle.inference.specs.declared.reach.Reach.{Reach}

abbrev pub or_found : Option Enc → Enc → Enc
or_found None enc = enc
or_found (Some fixed) enc = fixed

abbrev pub typing_of : List ColumnSite → Reach → Typing
typing_of columns reach site = or_found (fixed columns site) (enc_in reach.encs.found site)

-- it was found by steps over the rules
pub record IsReached (params : List Ty) (columns : List ColumnSite) (rules : List Rule) (reach : Reach) : Type 0 where
  pub trace : IsTrace params columns rules (reverse reach.steps.items)
  pub found : (site : Site) → typing_of columns reach site ≡ traced columns (reverse reach.steps.items) site

-- and nothing more can be found
abbrev pub AreSettled : List Ty → List ColumnSite → List Rule → Reach → Type 0
AreSettled params columns rules reach = list_all (is_settled params columns (typing_of columns reach)) rules ≡ true
