-- Several blocks, each of which goes through the same rounds.
use Rattle.std.proofs.Common.{◌≡◌, ℕ, List, [], ◌∷◌, All, map, refl, ◌∙◌}
use Rattle.std.proofs.lemmas.List.{map-id}
use Rattle.std.proofs.lemmas.List.Elements.{recursion_from_All}
use Rattle.std.proofs.lemmas.Simd.{map-map}
use Rattle.std.specs.List.{AllByRecursion}
use Rattle.aes_block.specs.Aes.{IsBlock, IsKey, decryption, encryption, expanded_key}
use Rattle.aes_block.specs.Equivalent.{equivalent_cipher, inv_key_words}
use Rattle.aes_block.proofs.Equivalence.{equivalent_cipher-decrypted}
use Rattle.aes_block.proofs.Inversion.{encrypted-decrypted}

-- what agrees on each block gives the same of blocks
map-agreed : (f g : List ℕ → List ℕ) → ((b : List ℕ) → IsBlock b → f b ≡ g b) → (blocks : List (List ℕ)) → AllByRecursion IsBlock blocks
    → map f blocks ≡ map g blocks
map-agreed f g agree [] are = refl
map-agreed f g agree (b ∷ blocks) are = rw (agree b are.0, map-agreed f g agree blocks are.1) refl

pub all_decrypted : (key : List ℕ) (blocks : List (List ℕ)) → IsKey key → All IsBlock blocks
    → map (equivalent_cipher (inv_key_words (expanded_key key))) blocks ≡ map (decryption key) blocks
all_decrypted key blocks is_key are =
    map-agreed (equivalent_cipher (inv_key_words (expanded_key key))) (decryption key) (λ b is. equivalent_cipher-decrypted key b is_key is)
    blocks (recursion_from_All IsBlock blocks are)

pub all_encrypted-decrypted : (key : List ℕ) (blocks : List (List ℕ)) → IsKey key → All IsBlock blocks
    → map (encryption key) (map (decryption key) blocks) ≡ blocks
all_encrypted-decrypted key blocks is_key are =
    map-map (encryption key) (decryption key) blocks
    ∙ map-agreed (λ b. encryption key (decryption key b)) (λ b. b) (λ b is. encrypted-decrypted key b is_key is) blocks (recursion_from_All IsBlock blocks are)
    ∙ map-id blocks
