-- A text without bytes has no characters.
use Rattle.std.proofs.Common.{◌≡◌, [], ap, sym, subst, ◌∙◌, arith}
use Rattle.std.specs.Str.{chars}
use Rattle.ae_base.specs.Names.{IsTitle}
use Rattle.ae_base.proofs.names.Ruled+TitleRule.empty.Goals as goal

pub unwrap-requires : goal.unwrap-requires
unfolding chars
unwrap-requires c = let e : c.from_string.result ≡ [] = c.from_string.ensures ∙ ap chars c.new.ensures.bytes in c.from_txt.ensures.exactly.1 (subst IsTitle (sym e) (omega arith))

pub returns : goal.returns
unfolding chars
returns c = let t = rw c.unwrap.ensures at c.from_txt.ensures.text in t ∙ c.from_string.ensures ∙ ap chars c.new.ensures.bytes
