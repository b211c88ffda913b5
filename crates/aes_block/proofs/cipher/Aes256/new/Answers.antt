use Rattle.std.proofs.Common.{◌≡◌, refl}
use Rattle.aes_block.specs.Aes.{expanded_key, key_of}
use Rattle.aes_block.proofs.Blocks.{IsKey-from_bytes}
use Rattle.aes_block.proofs.KeyBytes.{key_of-key_words}
use Rattle.aes_block.proofs.cipher.Aes256.new.Goals as goal

pub invariant_of-result : goal.invariant_of-result
invariant_of-result c =
    let back : key_of (expanded_key c.args.key.now) ≡ c.args.key.now = key_of-key_words c.args.key.now 52 c.told-key in
    rw (c.inv_key_words.ensures, c.key_columns-words.ensures, back) (IsKey-from_bytes c.args.key.now c.told-key c.fits-key, refl, refl)

pub returns : goal.returns
returns c = rw c.key_columns-words.ensures (key_of-key_words c.args.key.now 52 c.told-key)
