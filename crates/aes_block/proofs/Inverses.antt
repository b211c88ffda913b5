-- The inverses of all bytes in a list, and the S-box and its inverse by them.
use Rattle.std.proofs.Common.{◌≡◌, ℕ, ◌/◌, ◌<◌, List, [], ◌∷◌, slice_index, refl, ◌∙◌, arith}
use Rattle.aes_block.specs.Field.{times_x, partial_product, product, power, inverse}
use Rattle.aes_block.specs.Aes.{affine, sub_byte, inv_affine, inv_sub_byte}
use Rattle.aes_block.specs.declared.tables.TheConstants.{SBOX, INV_SBOX}
use Rattle.aes_block.proofs.Computed.{same_below, SameBelow}

-- the inverse of each byte
abbrev inverses : List ℕ
inverses =
    0x00 ∷ 0x01 ∷ 0x8d ∷ 0xf6 ∷ 0xcb ∷ 0x52 ∷ 0x7b ∷ 0xd1 ∷ 0xe8 ∷ 0x4f ∷ 0x29 ∷ 0xc0 ∷ 0xb0 ∷ 0xe1 ∷ 0xe5 ∷ 0xc7 ∷
    0x74 ∷ 0xb4 ∷ 0xaa ∷ 0x4b ∷ 0x99 ∷ 0x2b ∷ 0x60 ∷ 0x5f ∷ 0x58 ∷ 0x3f ∷ 0xfd ∷ 0xcc ∷ 0xff ∷ 0x40 ∷ 0xee ∷ 0xb2 ∷
    0x3a ∷ 0x6e ∷ 0x5a ∷ 0xf1 ∷ 0x55 ∷ 0x4d ∷ 0xa8 ∷ 0xc9 ∷ 0xc1 ∷ 0x0a ∷ 0x98 ∷ 0x15 ∷ 0x30 ∷ 0x44 ∷ 0xa2 ∷ 0xc2 ∷
    0x2c ∷ 0x45 ∷ 0x92 ∷ 0x6c ∷ 0xf3 ∷ 0x39 ∷ 0x66 ∷ 0x42 ∷ 0xf2 ∷ 0x35 ∷ 0x20 ∷ 0x6f ∷ 0x77 ∷ 0xbb ∷ 0x59 ∷ 0x19 ∷
    0x1d ∷ 0xfe ∷ 0x37 ∷ 0x67 ∷ 0x2d ∷ 0x31 ∷ 0xf5 ∷ 0x69 ∷ 0xa7 ∷ 0x64 ∷ 0xab ∷ 0x13 ∷ 0x54 ∷ 0x25 ∷ 0xe9 ∷ 0x09 ∷
    0xed ∷ 0x5c ∷ 0x05 ∷ 0xca ∷ 0x4c ∷ 0x24 ∷ 0x87 ∷ 0xbf ∷ 0x18 ∷ 0x3e ∷ 0x22 ∷ 0xf0 ∷ 0x51 ∷ 0xec ∷ 0x61 ∷ 0x17 ∷
    0x16 ∷ 0x5e ∷ 0xaf ∷ 0xd3 ∷ 0x49 ∷ 0xa6 ∷ 0x36 ∷ 0x43 ∷ 0xf4 ∷ 0x47 ∷ 0x91 ∷ 0xdf ∷ 0x33 ∷ 0x93 ∷ 0x21 ∷ 0x3b ∷
    0x79 ∷ 0xb7 ∷ 0x97 ∷ 0x85 ∷ 0x10 ∷ 0xb5 ∷ 0xba ∷ 0x3c ∷ 0xb6 ∷ 0x70 ∷ 0xd0 ∷ 0x06 ∷ 0xa1 ∷ 0xfa ∷ 0x81 ∷ 0x82 ∷
    0x83 ∷ 0x7e ∷ 0x7f ∷ 0x80 ∷ 0x96 ∷ 0x73 ∷ 0xbe ∷ 0x56 ∷ 0x9b ∷ 0x9e ∷ 0x95 ∷ 0xd9 ∷ 0xf7 ∷ 0x02 ∷ 0xb9 ∷ 0xa4 ∷
    0xde ∷ 0x6a ∷ 0x32 ∷ 0x6d ∷ 0xd8 ∷ 0x8a ∷ 0x84 ∷ 0x72 ∷ 0x2a ∷ 0x14 ∷ 0x9f ∷ 0x88 ∷ 0xf9 ∷ 0xdc ∷ 0x89 ∷ 0x9a ∷
    0xfb ∷ 0x7c ∷ 0x2e ∷ 0xc3 ∷ 0x8f ∷ 0xb8 ∷ 0x65 ∷ 0x48 ∷ 0x26 ∷ 0xc8 ∷ 0x12 ∷ 0x4a ∷ 0xce ∷ 0xe7 ∷ 0xd2 ∷ 0x62 ∷
    0x0c ∷ 0xe0 ∷ 0x1f ∷ 0xef ∷ 0x11 ∷ 0x75 ∷ 0x78 ∷ 0x71 ∷ 0xa5 ∷ 0x8e ∷ 0x76 ∷ 0x3d ∷ 0xbd ∷ 0xbc ∷ 0x86 ∷ 0x57 ∷
    0x0b ∷ 0x28 ∷ 0x2f ∷ 0xa3 ∷ 0xda ∷ 0xd4 ∷ 0xe4 ∷ 0x0f ∷ 0xa9 ∷ 0x27 ∷ 0x53 ∷ 0x04 ∷ 0x1b ∷ 0xfc ∷ 0xac ∷ 0xe6 ∷
    0x7a ∷ 0x07 ∷ 0xae ∷ 0x63 ∷ 0xc5 ∷ 0xdb ∷ 0xe2 ∷ 0xea ∷ 0x94 ∷ 0x8b ∷ 0xc4 ∷ 0xd5 ∷ 0x9d ∷ 0xf8 ∷ 0x90 ∷ 0x6b ∷
    0xb1 ∷ 0x0d ∷ 0xd6 ∷ 0xeb ∷ 0xc6 ∷ 0x0e ∷ 0xcf ∷ 0xad ∷ 0x08 ∷ 0x4e ∷ 0xd7 ∷ 0xe3 ∷ 0x5d ∷ 0x50 ∷ 0x1e ∷ 0xb3 ∷
    0x5b ∷ 0x23 ∷ 0x38 ∷ 0x34 ∷ 0x68 ∷ 0x46 ∷ 0x03 ∷ 0x8c ∷ 0xdd ∷ 0x9c ∷ 0x7d ∷ 0xa0 ∷ 0xcd ∷ 0x1a ∷ 0x41 ∷ 0x1c ∷ []

inverses_below : SameBelow inverse (slice_index inverses) 256
unfolding times_x partial_product product power
inverses_below = refl

inverse-listed : (b : ℕ) → b < 256 → inverse b ≡ slice_index inverses b
inverse-listed b low = same_below inverse (slice_index inverses) 256 b inverses_below low

inv_affine_below : SameBelow (λ b. inv_affine b / 256) (λ _. 0) 256
unfolding inv_affine
inv_affine_below = refl

inv_affine-lt : (b : ℕ) → b < 256 → inv_affine b < 256
inv_affine-lt b low =
    let top : inv_affine b / 256 ≡ 0 = same_below (λ x. inv_affine x / 256) (λ _. 0) 256 b inv_affine_below low in
    omega arith

sbox_below : SameBelow (slice_index SBOX) (λ b. affine (slice_index inverses b)) 256
unfolding affine
sbox_below = refl

inv_sbox_below : SameBelow (slice_index INV_SBOX) (λ b. slice_index inverses (inv_affine b)) 256
unfolding inv_affine
inv_sbox_below = refl

sub_byte-listed : (b : ℕ) → b < 256 → affine (slice_index inverses b) ≡ sub_byte b
unfolding sub_byte
sub_byte-listed b low = rw (inverse-listed b low) refl

inv_sub_byte-listed : (b : ℕ) → b < 256 → slice_index inverses (inv_affine b) ≡ inv_sub_byte b
unfolding inv_sub_byte
inv_sub_byte-listed b low = rw (inverse-listed (inv_affine b) (inv_affine-lt b low)) refl

-- the tables hold the S-box and its inverse
pub SBOX-at : (b : ℕ) → b < 256 → slice_index SBOX b ≡ sub_byte b
SBOX-at b low =
    same_below (slice_index SBOX) (λ x. affine (slice_index inverses x)) 256 b sbox_below low ∙ sub_byte-listed b low

pub INV_SBOX-at : (b : ℕ) → b < 256 → slice_index INV_SBOX b ≡ inv_sub_byte b
INV_SBOX-at b low =
    same_below (slice_index INV_SBOX) (λ x. slice_index inverses (inv_affine x)) 256 b inv_sbox_below low
    ∙ inv_sub_byte-listed b low

-- both are bytes, and each undoes the other
sub_byte_below : SameBelow (λ b. affine (slice_index inverses b) / 256) (λ _. 0) 256
unfolding affine
sub_byte_below = refl

pub sub_byte-lt : (b : ℕ) → b < 256 → sub_byte b < 256
sub_byte-lt b low =
    let top : affine (slice_index inverses b) / 256 ≡ 0 = same_below (λ x. affine (slice_index inverses x) / 256) (λ _. 0) 256 b sub_byte_below low in
    rw (← sub_byte-listed b low) (omega arith)

inv_sub_byte_below : SameBelow (λ b. slice_index inverses (inv_affine b) / 256) (λ _. 0) 256
unfolding inv_affine
inv_sub_byte_below = refl

pub inv_sub_byte-lt : (b : ℕ) → b < 256 → inv_sub_byte b < 256
inv_sub_byte-lt b low =
    let top : slice_index inverses (inv_affine b) / 256 ≡ 0 = same_below (λ x. slice_index inverses (inv_affine x) / 256) (λ _. 0) 256 b inv_sub_byte_below low in
    rw (← inv_sub_byte-listed b low) (omega arith)

inv_sub_sub_below : SameBelow (λ b. slice_index inverses (inv_affine (affine (slice_index inverses b)))) (λ b. b) 256
unfolding affine inv_affine
inv_sub_sub_below = refl

pub inv_sub_byte-sub_byte : (b : ℕ) → b < 256 → inv_sub_byte (sub_byte b) ≡ b
inv_sub_byte-sub_byte b low =
    rw (← inv_sub_byte-listed (sub_byte b) (sub_byte-lt b low), ← sub_byte-listed b low)
    (same_below (λ x. slice_index inverses (inv_affine (affine (slice_index inverses x)))) (λ x. x) 256 b inv_sub_sub_below low)

sub_inv_sub_below : SameBelow (λ b. affine (slice_index inverses (slice_index inverses (inv_affine b)))) (λ b. b) 256
unfolding affine inv_affine
sub_inv_sub_below = refl

pub sub_byte-inv_sub_byte : (b : ℕ) → b < 256 → sub_byte (inv_sub_byte b) ≡ b
sub_byte-inv_sub_byte b low =
    rw (← sub_byte-listed (inv_sub_byte b) (inv_sub_byte-lt b low), ← inv_sub_byte-listed b low)
    (same_below (λ x. affine (slice_index inverses (slice_index inverses (inv_affine x)))) (λ x. x) 256 b sub_inv_sub_below low)

pub ruleset by_tables = (SBOX-at, INV_SBOX-at)
