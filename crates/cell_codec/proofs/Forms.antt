-- The shape of a cell by its first byte and its length.
use Rattle.std.proofs.Common.{◌≡◌, ℕ, ◌+◌, ◌-◌, ◌*◌, ◌/◌, ◌%◌, ◌≤◌, List, true, eqb, leb, length, arith}
use Rattle.std.specs.Prelude.{slice_index}
use Rattle.std.proofs.lemmas.Bool.{and_parts}
use Rattle.std.proofs.lemmas.Bool.Decides.{nat_tests}
use Rattle.std.specs.Cmp.Derive.{both_true}
use Rattle.ae_base.specs.declared.types.Ty.{Ty}
use Rattle.value_norm.specs.Norm.{most_bytes}
use Rattle.cell_codec.specs.Cells.{version, is_cell_length, is_length_of, most_blocks, IsShape}

is_cell_length-parts : (count : ℕ) → is_cell_length count ≡ true → (65 ≤ count) × ((count - 49) % 16 ≡ 0)
is_cell_length-parts count is =
    let parts = and_parts (leb 65 count) (eqb ((count - 49) % 16) 0) is in
    (grind (arith, nat_tests), grind (arith, nat_tests))

pub is_cell_length-blocks : (count blocks : ℕ) → 1 ≤ blocks → count ≡ 49 + 16 * blocks → is_cell_length count ≡ true
is_cell_length-blocks count blocks least is =
    let whole : (count - 49) % 16 ≡ 0 = omega arith in
    let enough : 65 ≤ count = omega arith in
    let above : leb 65 count ≡ true = grind (arith, nat_tests) in
    let even : eqb ((count - 49) % 16) 0 ≡ true = grind (arith, nat_tests) in
    both_true above even

-- a right first byte and length are the shape
pub IsShape-from : (cell : List ℕ) (ty : Ty) → slice_index cell 0 ≡ version → is_length_of (length cell) ty ≡ true → IsShape cell ty
IsShape-from cell ty first long =
    let parts = and_parts (is_cell_length (length cell)) (leb (length cell) (49 + most_blocks ty * 16)) long in
    let count = is_cell_length-parts (length cell) parts.0 in
    let most : length cell ≤ 49 + most_blocks ty * 16 = grind (arith, nat_tests) in
    record { version_byte = first; blocks = (length cell - 49) / 16; at_least_one = omega arith; at_most = omega arith; long = omega arith }

pub is_length_of-shape : (cell : List ℕ) (ty : Ty) → IsShape cell ty → is_length_of (length cell) ty ≡ true
is_length_of-shape cell ty shape =
    let most : length cell ≤ 49 + most_blocks ty * 16 = omega arith in
    let below : leb (length cell) (49 + most_blocks ty * 16) ≡ true = grind (arith, nat_tests) in
    both_true (is_cell_length-blocks (length cell) shape.blocks shape.at_least_one shape.long) below

-- no more bytes than a type has at most make no more blocks than its cells have
pub blocks-bound : (count : ℕ) (ty : Ty) → count ≤ most_bytes ty → count / 16 + 1 ≤ most_blocks ty
blocks-bound count ty below = omega arith
