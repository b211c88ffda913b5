-- The key expansion, word by word.
use Rattle.std.proofs.Common.{◌≡◌, ℕ, ◌+◌, ◌-◌, ◌/◌, ◌%◌, ◌<◌, ◌≤◌, List, [], ◌∷◌, ◌++◌, length, map, take, slice_index, slice_set, refl, sym, ap, suc, ◌∙◌, arith}
use Rattle.std.proofs.lemmas.Bool.{ne_eqb}
use Rattle.std.proofs.lemmas.List.{get_or-take, take_more_set}
use Rattle.std.proofs.lemmas.List.FromFn.{map-range_with_len_more}
use Rattle.std.specs.List.{range_with_len}
use Rattle.aes_block.specs.Field.{times_x, partial_product, product, power}
use Rattle.aes_block.specs.Aes.{changed_word, key_word, key_words, next_word, rot_word, round_constant, sub_word, word_sum}
use Rattle.aes_block.specs.declared.tables.TheConstants.{RCON}
use Rattle.aes_block.proofs.Computed.{same_below, SameBelow}

rcon_below : SameBelow (slice_index RCON) (power 2) 7
unfolding times_x partial_product product power
rcon_below = refl

-- the table holds the powers of x
pub RCON-at : (j : ℕ) → j < 7 → slice_index RCON j ≡ power 2 j
RCON-at j low = same_below (slice_index RCON) (power 2) 7 j rcon_below low

pub changed_word-first : (i : ℕ) (w : List ℕ) → i % 8 ≡ 0 → changed_word i w ≡ word_sum (sub_word (rot_word w)) (round_constant (i / 8))
unfolding changed_word
changed_word-first i w e = rw e refl

pub changed_word-fourth : (i : ℕ) (w : List ℕ) → i % 8 ≡ 4 → changed_word i w ≡ sub_word w
unfolding changed_word
changed_word-fourth i w e = rw e refl

pub changed_word-other : (i : ℕ) (w : List ℕ) → (i % 8 ≡ 0 → ⊥) → (i % 8 ≡ 4 → ⊥) → changed_word i w ≡ w
unfolding changed_word
changed_word-other i w first fourth = rw (ne_eqb (i % 8) 0 first, ne_eqb (i % 8) 4 fourth) refl

pub ruleset changes = (RCON-at, changed_word-first, changed_word-fourth, changed_word-other)

-- the key's own words, one more
pub first_words-more : (key : List ℕ) (words : List (List ℕ)) (i : ℕ) (own : List ℕ) → i < length words → own ≡ key_word key i
    → take i words ≡ map (key_word key) (range_with_len 0 i)
    → take (i + 1) (slice_set words i own) ≡ map (key_word key) (range_with_len 0 (i + 1))
first_words-more key words i own low is so_far =
    rw is (
    take_more_set words i (key_word key i) low ∙ ap (λ (done : List (List ℕ)). done ++ key_word key i ∷ []) so_far
    ∙ sym (map-range_with_len_more (key_word key) 0 i i (omega arith)))

pub key_words_first : (key : List ℕ) → map (key_word key) (range_with_len 0 8) ≡ key_words key 0
unfolding key_words
key_words_first key = refl

-- a word reads only the words before it
next_word-take : (words : List (List ℕ)) (i : ℕ) → 8 ≤ i → next_word (take i words) i ≡ next_word words i
next_word-take words i high =
    let eighth : i - 8 < i = omega arith in
    let last : i - 1 < i = omega arith in
    rw (get_or-take i words (i - 8) [] eighth, get_or-take i words (i - 1) [] last) refl

key_words-suc : (key : List ℕ) (n i : ℕ) → n + 8 ≡ i → key_words key (suc n) ≡ key_words key n ++ next_word (key_words key n) i ∷ []
unfolding key_words
key_words-suc key n i e = rw e refl

-- one more key word
pub key_words-more : (key : List ℕ) (words : List (List ℕ)) (i : ℕ) (next : List ℕ) → 8 ≤ i → i < length words
    → next ≡ next_word words i → take i words ≡ key_words key (i - 8)
    → take (i + 1) (slice_set words i next) ≡ key_words key (i + 1 - 8)
key_words-more key words i next high low is so_far =
    let up : i + 1 - 8 ≡ suc (i - 8) = omega arith in
    let at : i - 8 + 8 ≡ i = omega arith in
    rw (is, up, key_words-suc key (i - 8) i at, ← so_far, next_word-take words i high) (take_more_set words i (next_word words i) low)
