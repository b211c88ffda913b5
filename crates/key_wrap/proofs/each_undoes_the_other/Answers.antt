use Rattle.key_wrap.proofs.Registers.{IsCipher}
use Rattle.key_wrap.proofs.RoundTrip.{wrapped-IsWrapped, unwrapped-IsWrappedAgain}
use Rattle.aes_block.specs.Aes.{IsKey}
use Rattle.std.proofs.Common.{List, ℕ}
use Rattle.key_wrap.proofs.each_undoes_the_other.Goals as goal

pub returns : goal.returns
returns c =
    let law = c.each_undoes_the_other.ensures in
    let cipher : (kek : List ℕ) → IsKey kek → IsCipher kek = λ kek k. record {
      decrypts = λ block. law.decrypts kek block k;
      encrypts = λ block. law.encrypts kek block k;
      ciphertext = λ block. law.ciphertext kek block k;
      plaintext = λ block. law.plaintext kek block k;
    } in
    record {
      unwraps = λ kek key k is_key. (wrapped-IsWrapped kek key (cipher kek k) is_key).unwraps;
      wraps = λ kek bytes key k all e. (unwrapped-IsWrappedAgain kek bytes key (cipher kek k) all e).wraps;
      key = λ kek bytes key k all e. (unwrapped-IsWrappedAgain kek bytes key (cipher kek k) all e).is_key;
      bytes = λ kek key k is_key. (wrapped-IsWrapped kek key (cipher kek k) is_key).are_bytes;
      len = λ kek key k is_key. (wrapped-IsWrapped kek key (cipher kek k) is_key).len;
    }
