use Rattle.std.proofs.Common.{◌≡◌, ◌∙◌, ap, refl, subst}
use Rattle.aes_block.specs.Aes.{IsKey, expanded_key}
use Rattle.aes_block.specs.Columns.{words_of}
use Rattle.aes_block.specs.Equivalent.{inv_key_words}
use Rattle.aes_block.specs.RoundKeys.{AreRoundKeys}
use Rattle.aes_block.proofs.cipher.Aes256.decryptor.Goals as goal

pub invariant_of-result : goal.invariant_of-result
invariant_of-result c =
    let key : IsKey c.args.self.now = rw c.self.view_is at c.self.invariant.0 in
    let words : words_of c.self.inside.words ≡ expanded_key c.args.self.now = rw c.self.view_is at c.self.invariant.1 in
    (key, subst (λ words. AreRoundKeys words c.round_keys.result) (c.self.invariant.2 ∙ ap inv_key_words words) c.round_keys.ensures)

pub returns : goal.returns
returns c = refl
