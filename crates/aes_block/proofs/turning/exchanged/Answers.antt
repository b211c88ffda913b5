use Rattle.aes_block.proofs.Exchanged.{exchanged-high, exchanged-low}
use Rattle.aes_block.proofs.turning.exchanged.Goals as goal

pub returns-clause-low : goal.returns-clause-low
returns-clause-low c r column =
    exchanged-low c.args.n c.args.mask r column c.args.low c.args.high c.bits_down.result c.bitxor.result c.masked-changes.result
    c.bits_up.result c.bitxor-2.result (c.bits_down.ensures r column) (c.bitxor.ensures r column) (c.masked-changes.ensures r column)
    (c.bits_up.ensures.low r column) (c.bits_up.ensures.high r column) (c.bitxor-2.ensures r column) c.requires

pub returns-clause-high : goal.returns-clause-high
returns-clause-high c r column =
    exchanged-high c.args.n c.args.mask r column c.args.low c.args.high c.bits_down.result c.bitxor.result c.masked-changes.result
    c.bitxor-3.result (c.bits_down.ensures r column) (c.bitxor.ensures r column) (c.masked-changes.ensures r column)
    (c.bitxor-3.ensures r column) c.requires
