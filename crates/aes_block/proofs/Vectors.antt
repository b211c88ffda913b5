-- The standard's worked examples, computed from the definitions.
use Rattle.std.proofs.Common.{◌≡◌, ℕ, List, [], ◌∷◌, refl}
use Rattle.std.specs.List.{range_with_len}
use Rattle.aes_block.specs.Field.{times_x, partial_product, product, power}
use Rattle.aes_block.proofs.Blocks.{AreBytes-tested}
use Rattle.aes_block.proofs.Inversion.{decrypted-encrypted}
use Rattle.aes_block.specs.Aes.{
  IsBlock,
  IsKey,
  affine,
  sub_byte,
  sub_bytes,
  shift_rows,
  mix_columns,
  add_round_key,
  changed_word,
  key_words,
  rounds,
  cipher,
  encryption,
  inv_affine,
  inv_sub_byte,
  decryption,
}

-- {57} • {83} = {c1} (4.2)
pub product-example : product 0x57 0x83 ≡ 0xc1
unfolding times_x partial_product product
product-example = refl

-- the S-box takes {53} to {ed} (5.1.1)
pub sub_byte-example : sub_byte 0x53 ≡ 0xed
unfolding times_x partial_product product power affine sub_byte
sub_byte-example = refl

pub inv_sub_byte-example : inv_sub_byte 0xed ≡ 0x53
unfolding times_x partial_product product power inv_affine inv_sub_byte
inv_sub_byte-example = refl

-- the bytes 00, 01, .. 1f
abbrev the_key : List ℕ
the_key = range_with_len 0 32

abbrev the_block : List ℕ
the_block =
    0x00 ∷ 0x11 ∷ 0x22 ∷ 0x33 ∷ 0x44 ∷ 0x55 ∷ 0x66 ∷ 0x77
    ∷ 0x88 ∷ 0x99 ∷ 0xaa ∷ 0xbb ∷ 0xcc ∷ 0xdd ∷ 0xee ∷ 0xff ∷ []

abbrev the_ciphertext : List ℕ
the_ciphertext =
    0x8e ∷ 0xa2 ∷ 0xb7 ∷ 0xca ∷ 0x51 ∷ 0x67 ∷ 0x45 ∷ 0xbf
    ∷ 0xea ∷ 0xfc ∷ 0x49 ∷ 0x90 ∷ 0x4b ∷ 0x49 ∷ 0x60 ∷ 0x89 ∷ []

-- the example of AES-256
pub encrypted-example : encryption the_key the_block ≡ the_ciphertext
unfolding times_x partial_product product power affine sub_byte sub_bytes shift_rows mix_columns add_round_key changed_word key_words rounds cipher encryption
encrypted-example = refl

is_key : IsKey the_key
is_key = (refl, AreBytes-tested the_key 32 refl refl)

is_block : IsBlock the_block
is_block = (refl, AreBytes-tested the_block 16 refl refl)

pub decrypted-example : decryption the_key the_ciphertext ≡ the_block
decrypted-example = rw (← encrypted-example) (decrypted-encrypted the_key the_block is_key is_block)
