-- A text is UTF-8, so its characters spell its bytes again.
use Rattle.std.proofs.Common.{ap, sym, length}
use Rattle.std.proofs.lemmas.Str.{encodes-chars}
use Rattle.ae_base.proofs.texts.byte_count.Goals as goal

pub returns : goal.returns
returns c = ap length (sym (encodes-chars c.args.text.now c.utf8.text))
