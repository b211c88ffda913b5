-- Eight bytes are those of the number that is read from them.
use Rattle.std.proofs.Common.{rules}
use Rattle.value_norm.proofs.Integers.{number_bytes-read}
use Rattle.value_norm.proofs.number_of.Goals as goal

pub returns-clause-value : goal.returns-clause-value
returns-clause-value c =
    number_bytes-read c.args.bytes.now c.in-Ok.word c.from_le_bytes.result
    c.in-Ok.ensures.1.long c.in-Ok.ensures.1.same (search rules) c.from_le_bytes.ensures
