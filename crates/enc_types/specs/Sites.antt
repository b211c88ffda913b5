-- The sites of operands.
use Rattle.std.specs.Prelude.{ℕ}
use Rattle.ae_base.specs.declared.values.Value.{Value}
use Rattle.ae_base.specs.declared.values.Value.TheVariants as value
use Rattle.sql_tree.specs.Operands as operands
use Rattle.sql_tree.specs.Bound.{BoundOperand}
use Rattle.enc_types.specs.declared.sites.Site.{Site}
use Rattle.enc_types.specs.declared.sites.Site.TheVariants.{Column, Param, Null, Fixed}

abbrev pub site_of_literal : ℕ → Value → Site
site_of_literal at value.Null = Null at
site_of_literal at (value.Is datum) = Fixed

-- each column, each parameter and each NULL literal is a site; other literals, minuses and sums are plain
abbrev pub site_of : BoundOperand → Site
site_of (operands.Literal at v) = site_of_literal at v
site_of (operands.Param at param) = Param param
site_of (operands.Column at column) = Column column
site_of (operands.Minus at operand) = Fixed
site_of (operands.Sum first terms) = Fixed
