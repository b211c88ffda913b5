-- A sealed cell is a cell, and opens to what was sealed.
use Rattle.std.proofs.Common.{◌≡◌, ℕ, ◌+◌, ◌*◌, ◌/◌, ◌<◌, ◌≤◌, ◌∙◌, List, ◌∷◌, ◌++◌, true, length, Ok, lit<, refl, sym, ap, ap₂, arith}
use Rattle.std.proofs.lemmas.List.Elements.{All-cons, All-append}
use Rattle.std.proofs.lemmas.Slice.Eq.{bytes_eq-Decides}
use Rattle.ae_base.specs.declared.types.Ty.{Ty}
use Rattle.aes_block.specs.Aes.{IsKey, IsBlock}
use Rattle.aes_block.specs.Bytes.{AreBytes}
use Rattle.cbc_mode.specs.Cbc.{cbc, decrypted_cbc}
use Rattle.hmac_kdf.specs.Keys.{Keys}
use Rattle.value_norm.specs.Norm.{most_bytes}
use Rattle.cell_codec.specs.Cells.{version, tag_of, tag_in, iv_in, ciphertext_in, is_cell_length, is_authentic, cell_of, iv_of, content_of, IsShape}
use Rattle.cell_codec.specs.Laws.{SealedIsReadBack, SealedDetIsReadBack, SealedIsCell, SealedHasShape, IsCellOf}
use Rattle.cell_codec.proofs.Codes.{hmac-IsKey, iv_of-IsBlock}
use Rattle.cell_codec.proofs.Forms.{is_cell_length-blocks, blocks-bound}
use Rattle.cell_codec.proofs.Opening.{unsealed-opened}
use Rattle.cell_codec.proofs.Parts.{tag_in-parts, iv_in-parts, ciphertext_in-parts, length-parts}

-- what the laws of cipher block chaining say of a key, a vector and bytes
pub record IsChained (key iv bytes : List ℕ) : Type 0 where
  pub undone : decrypted_cbc key iv (cbc key iv bytes) ≡ Ok bytes
  pub long : length (cbc key iv bytes) ≡ (length bytes / 16 + 1) * 16
  pub bytes_alone : AreBytes (cbc key iv bytes)

tag_of-IsKey : (keys : Keys) (iv ciphertext : List ℕ) → IsKey (tag_of keys iv ciphertext)
unfolding tag_of
tag_of-IsKey keys iv ciphertext = hmac-IsKey _ _

module _ (keys : Keys) (iv bytes : List ℕ) (is_iv : IsBlock iv) (chained : IsChained keys.enc_key iv bytes) where
  length-sealed : length (cell_of keys iv bytes) ≡ 49 + (length bytes / 16 + 1) * 16
  unfolding cell_of
  length-sealed =
      let ciphertext : List ℕ = cbc keys.enc_key iv bytes in
      length-parts (tag_of keys iv ciphertext) iv ciphertext (tag_of-IsKey keys iv ciphertext).0 is_iv.0 ∙ ap (λ n. 49 + n) chained.long

  pub sealed-IsCellOf : IsCellOf (cell_of keys iv bytes) bytes
  unfolding cell_of
  sealed-IsCellOf = record {
    long = length-sealed;
    bytes_alone =
        let ciphertext : List ℕ = cbc keys.enc_key iv bytes in
        let tag : List ℕ = tag_of keys iv ciphertext in
        let one : version < 256 = lit< tt in
        All-append (λ byte. byte < 256) (version ∷ tag ++ iv) ciphertext
        (All-append (λ byte. byte < 256) (version ∷ tag) iv (All-cons (λ byte. byte < 256) version tag one (tag_of-IsKey keys iv ciphertext).1) is_iv.1)
        chained.bytes_alone;
  }

  pub sealed-IsShape : (ty : Ty) → length bytes ≤ most_bytes ty → IsShape (cell_of keys iv bytes) ty
  unfolding cell_of
  sealed-IsShape ty below = record {
    version_byte = refl;
    blocks = length bytes / 16 + 1;
    at_least_one = omega arith;
    at_most = blocks-bound (length bytes) ty below;
    long = omega (arith, length-sealed);
  }

  pub unsealed-sealed : content_of keys (cell_of keys iv bytes) ≡ Ok bytes
  unfolding cell_of
  unsealed-sealed =
      let ciphertext : List ℕ = cbc keys.enc_key iv bytes in
      let tag : List ℕ = tag_of keys iv ciphertext in
      let cell : List ℕ = version ∷ tag ++ iv ++ ciphertext in
      let long : length tag ≡ 32 = (tag_of-IsKey keys iv ciphertext).0 in
      let found_iv : iv_in cell ≡ iv = iv_in-parts tag iv ciphertext long is_iv.0 in
      let found_ciphertext : ciphertext_in cell ≡ ciphertext = ciphertext_in-parts tag iv ciphertext long is_iv.0 in
      let whole : is_cell_length (length cell) ≡ true =
      is_cell_length-blocks (length cell) (length bytes / 16 + 1) (omega arith) (omega (arith, length-sealed)) in
      let authentic : is_authentic keys cell ≡ true =
      (bytes_eq-Decides (tag_in cell) (tag_of keys (iv_in cell) (ciphertext_in cell))).1
      (tag_in-parts tag iv ciphertext long ∙ sym (ap₂ (tag_of keys) found_iv found_ciphertext)) in
      unsealed-opened keys cell refl whole authentic (Ok bytes) (ap₂ (decrypted_cbc keys.enc_key) found_iv found_ciphertext ∙ chained.undone)

-- the laws of cipher block chaining
abbrev pub AreChained : Type 0
AreChained = (key iv bytes : List ℕ) → IsKey key → IsBlock iv → AreBytes bytes → IsChained key iv bytes

pub are_chained : ((key iv bytes : List ℕ) → IsKey key → IsBlock iv → AreBytes bytes → decrypted_cbc key iv (cbc key iv bytes) ≡ Ok bytes)
    → ((key iv bytes : List ℕ) → IsKey key → IsBlock iv → AreBytes bytes → length (cbc key iv bytes) ≡ (length bytes / 16 + 1) * 16)
    → ((key iv bytes : List ℕ) → IsKey key → IsBlock iv → AreBytes bytes → AreBytes (cbc key iv bytes)) → AreChained
are_chained undone long alone key iv bytes is_key is_iv are_bytes = record {
  undone = undone key iv bytes is_key is_iv are_bytes;
  long = long key iv bytes is_key is_iv are_bytes;
  bytes_alone = alone key iv bytes is_key is_iv are_bytes;
}

pub sealed-read_back : AreChained → SealedIsReadBack
sealed-read_back chained keys iv bytes is_key is_iv are_bytes =
    unsealed-sealed keys iv bytes is_iv (chained keys.enc_key iv bytes is_key is_iv are_bytes)

pub sealed_det-read_back : AreChained → SealedDetIsReadBack
sealed_det-read_back chained keys bytes is_key are_bytes =
    sealed-read_back chained keys (iv_of keys bytes) bytes is_key (iv_of-IsBlock keys bytes) are_bytes

pub sealed-cell : AreChained → SealedIsCell
sealed-cell chained keys iv bytes is_key is_iv are_bytes =
    sealed-IsCellOf keys iv bytes is_iv (chained keys.enc_key iv bytes is_key is_iv are_bytes)

pub sealed-shape : AreChained → SealedHasShape
sealed-shape chained keys iv bytes ty is_key is_iv are_bytes below =
    sealed-IsShape keys iv bytes is_iv (chained keys.enc_key iv bytes is_key is_iv are_bytes) ty below
