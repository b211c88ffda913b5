use Rattle.aes_block.specs.Exchanges.{by_four, by_one, by_two}
use Rattle.aes_block.proofs.Exchanged.{three_layers}
use Rattle.aes_block.proofs.turning.flipped.Goals as goal

pub layer-requires : goal.layer-requires
layer-requires c = by_four

pub layer-requires-2 : goal.layer-requires-2
layer-requires-2 c = by_two

pub layer-requires-3 : goal.layer-requires-3
layer-requires-3 c = by_one

pub returns : goal.returns
returns c r column j k low_j low_k =
    three_layers c.args.planes c.layer.result c.layer-2.result c.layer-3.result r column
    (c.layer.ensures r column) (c.layer-2.ensures r column) (c.layer-3.ensures r column) j k low_j low_k
