use Rattle.cbc_mode.proofs.RoundTrip.{cbc-IsReadBack, decrypted_cbc-IsEncryptedAgain}
use Rattle.cbc_mode.proofs.each_undoes_the_other.Goals as goal

pub returns : goal.returns
returns c =
    let cipher = c.each_undoes_the_other.ensures in
    record {
      decrypts = λ key iv bytes k b all. (cbc-IsReadBack key iv bytes (λ block. cipher.decrypts key block k) (λ block. cipher.ciphertext key block k) b all).read_back;
      encrypts = λ key iv bytes plaintext k b all e.
          (decrypted_cbc-IsEncryptedAgain key iv bytes plaintext (λ block. cipher.encrypts key block k) (λ block. cipher.plaintext key block k) b all e).encrypts;
      ciphertext = λ key iv bytes k b all. (cbc-IsReadBack key iv bytes (λ block. cipher.decrypts key block k) (λ block. cipher.ciphertext key block k) b all).are_bytes;
      plaintext = λ key iv bytes plaintext k b all e.
          (decrypted_cbc-IsEncryptedAgain key iv bytes plaintext (λ block. cipher.encrypts key block k) (λ block. cipher.plaintext key block k) b all e).are_bytes;
      len = λ key iv bytes k b all. (cbc-IsReadBack key iv bytes (λ block. cipher.decrypts key block k) (λ block. cipher.ciphertext key block k) b all).len;
    }
