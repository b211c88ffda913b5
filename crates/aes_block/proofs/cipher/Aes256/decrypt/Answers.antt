use Rattle.std.proofs.Common.{◌≡◌, sym, ap, ◌∙◌, List, ℕ}
use Rattle.aes_block.specs.Aes.{IsKey, IsBlock, decryption, expanded_key}
use Rattle.aes_block.specs.Columns.{words_of}
use Rattle.aes_block.specs.Equivalent.{equivalent_cipher, inv_key_words}
use Rattle.aes_block.proofs.Blocks.{IsBlock-from_bytes}
use Rattle.aes_block.proofs.Equivalence.{equivalent_cipher-decrypted}
use Rattle.aes_block.proofs.Inversion.{decrypted-encrypted, encrypted-decrypted}
use Rattle.aes_block.proofs.cipher.Aes256.decrypt.Goals as goal

pub returns-clause-value : goal.returns-clause-value
returns-clause-value c =
    let key : IsKey c.args.self.now = rw c.self.view_is at c.self.invariant.0 in
    let block : IsBlock c.args.block.now = IsBlock-from_bytes c.args.block.now c.told-block c.fits-block in
    let words : words_of c.self.inside.words ≡ expanded_key c.args.self.now = rw c.self.view_is at c.self.invariant.1 in
    c.equivalent_cipher.ensures
    ∙ ap (λ (w : List (List ℕ)). equivalent_cipher w c.args.block.now) (c.self.invariant.2 ∙ ap inv_key_words words)
    ∙ equivalent_cipher-decrypted c.args.self.now c.args.block.now key block

pub returns-clause-undoes : goal.returns-clause-undoes
returns-clause-undoes c =
    let key : IsKey c.args.self.now = rw c.self.view_is at c.self.invariant.0 in
    rw (returns-clause-value c) (encrypted-decrypted c.args.self.now c.args.block.now key (IsBlock-from_bytes c.args.block.now c.told-block c.fits-block))

pub returns-clause-only : goal.returns-clause-only
returns-clause-only c = λ b block same.
    let key : IsKey c.args.self.now = rw c.self.view_is at c.self.invariant.0 in
    sym (decrypted-encrypted c.args.self.now b key block) ∙ ap (decryption c.args.self.now) same ∙ sym (returns-clause-value c)
