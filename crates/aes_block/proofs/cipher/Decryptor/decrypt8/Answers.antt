use Rattle.std.proofs.Common.{◌∙◌, ap, map}
use Rattle.aes_block.specs.Aes.{IsKey, encryption, expanded_key}
use Rattle.aes_block.specs.Equivalent.{inv_key_words}
use Rattle.aes_block.specs.RoundKeys.{AreRoundKeys}
use Rattle.aes_block.proofs.AllBlocks.{all_decrypted, all_encrypted-decrypted}
use Rattle.aes_block.proofs.cipher.Decryptor.decrypt8.Goals as goal

pub returns-clause-value : goal.returns-clause-value
returns-clause-value c =
    let key : IsKey c.args.self.now = rw c.self.view_is at c.self.invariant.0 in
    let keys : AreRoundKeys (inv_key_words (expanded_key c.args.self.now)) c.self.inside.round_keys = rw c.self.view_is at c.self.invariant.1 in
    c.equivalent_ciphers.ensures.value (inv_key_words (expanded_key c.args.self.now)) keys
    ∙ all_decrypted c.args.self.now c.args.blocks.now key c.equivalent_ciphers.ensures.are_blocks

pub returns-clause-undoes : goal.returns-clause-undoes
returns-clause-undoes c =
    let key : IsKey c.args.self.now = rw c.self.view_is at c.self.invariant.0 in
    ap (map (encryption c.args.self.now)) (returns-clause-value c)
    ∙ all_encrypted-decrypted c.args.self.now c.args.blocks.now key c.equivalent_ciphers.ensures.are_blocks
