use Rattle.cbc_mode.proofs.Unchaining.{IsUnchained-both}
use Rattle.cbc_mode.proofs.decrypt_blocks.Goals as goal

pub returns-clause-value : goal.returns-clause-value
returns-clause-value c =
    (IsUnchained-both _ _ _ _ _ _ _ _ _ _ _ c.told-iv c.requires c.as_chunks.ensures.front c.as_chunks-2.ensures.front c.as_chunks-2.ensures.back c.in_ok-plaintext.ensures.items
    (record { ahead = c.in_ok-last.ensures.ahead; undone = c.in_ok-last.ensures.undone })
    (record { ahead = c.in_ok-append_blocks.ensures.ahead; undone = c.in_ok-append_blocks.ensures.undone })).value

pub returns-clause-undoes : goal.returns-clause-undoes
returns-clause-undoes c =
    (IsUnchained-both _ _ _ _ _ _ _ _ _ _ _ c.told-iv c.requires c.as_chunks.ensures.front c.as_chunks-2.ensures.front c.as_chunks-2.ensures.back c.in_ok-plaintext.ensures.items
    (record { ahead = c.in_ok-last.ensures.ahead; undone = c.in_ok-last.ensures.undone })
    (record { ahead = c.in_ok-append_blocks.ensures.ahead; undone = c.in_ok-append_blocks.ensures.undone })).undoes

pub returns-clause-len : goal.returns-clause-len
returns-clause-len c =
    (IsUnchained-both _ _ _ _ _ _ _ _ _ _ _ c.told-iv c.requires c.as_chunks.ensures.front c.as_chunks-2.ensures.front c.as_chunks-2.ensures.back c.in_ok-plaintext.ensures.items
    (record { ahead = c.in_ok-last.ensures.ahead; undone = c.in_ok-last.ensures.undone })
    (record { ahead = c.in_ok-append_blocks.ensures.ahead; undone = c.in_ok-append_blocks.ensures.undone })).len
