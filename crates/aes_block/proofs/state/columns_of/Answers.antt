use Rattle.aes_block.proofs.Blocks.{IsBlock-from_bytes}
use Rattle.aes_block.proofs.States.{state_of-block}
use Rattle.aes_block.proofs.state.columns_of.Goals as goal

pub returns-clause-state : goal.returns-clause-state
returns-clause-state c = state_of-block c.args.block.now _ _ _ _ c.told-block c.column.ensures c.column-2.ensures c.column-3.ensures c.column-4.ensures

pub returns-clause-is_block : goal.returns-clause-is_block
returns-clause-is_block c = IsBlock-from_bytes c.args.block.now c.told-block c.fits-block
