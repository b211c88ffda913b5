use Rattle.aes_block.proofs.Inversion.{decrypted-encrypted, encrypted-decrypted, IsBlock-decrypted, IsBlock-encrypted}
use Rattle.aes_block.proofs.laws.each_undoes_the_other.Goals as goal

pub returns : goal.returns
returns c = record {
  decrypts = decrypted-encrypted;
  encrypts = encrypted-decrypted;
  ciphertext = IsBlock-encrypted;
  plaintext = IsBlock-decrypted;
}
