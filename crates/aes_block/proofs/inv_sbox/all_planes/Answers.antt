use Rattle.std.proofs.Common.{◌≡◌, arith, length, refl, rules}
use Rattle.aes_block.specs.InvSbox.{all_planes}
use Rattle.aes_block.specs.Planes.{bits}
use Rattle.aes_block.proofs.Items.{item}
use Rattle.aes_block.proofs.inv_sbox.all_planes.Goals as goal

pub returns : goal.returns
unfolding bits all_planes
returns c r c' j =
    let long_right : length c.args.right ≡ 9 = search rules in
    let long_left : length c.args.left ≡ 9 = search rules in
    let long_shared : length c.args.shared ≡ 9 = search rules in
    let long_four : length c.args.four ≡ 4 = search rules in
    rw (
      c.bitxor-w7.ensures r c' j,
      c.bitxor-w4.ensures r c' j,
      c.bitxor-w2.ensures r c' j,
      c.bitxor-w1.ensures r c' j,
      c.bitxor-p29.ensures r c' j,
      c.bitxor-p28.ensures r c' j,
      c.bitxor-p27.ensures r c' j,
      c.bitxor-p26.ensures r c' j,
      c.bitxor-p25.ensures r c' j,
      c.bitxor-p23.ensures r c' j,
      c.bitxor-p20.ensures r c' j,
      c.bitxor-p18.ensures r c' j,
      c.bitxor-p17.ensures r c' j,
      c.bitxor-p16.ensures r c' j,
      c.bitxor-p15.ensures r c' j,
      c.bitxor-p9.ensures r c' j,
      c.bitxor-p8.ensures r c' j,
      item c.args.right 4 9 c.index-right-4.result long_right (omega arith),
      item c.args.right 7 9 c.index-right-7.result long_right (omega arith),
      item c.args.right 8 9 c.index-right-8.result long_right (omega arith),
      item c.args.left 0 9 c.index-left-0.result long_left (omega arith),
      item c.args.left 2 9 c.index-left-2.result long_left (omega arith),
      item c.args.left 3 9 c.index-left-3.result long_left (omega arith),
      item c.args.left 4 9 c.index-left-4.result long_left (omega arith),
      item c.args.left 6 9 c.index-left-6.result long_left (omega arith),
      item c.args.left 8 9 c.index-left-8.result long_left (omega arith),
      item c.args.shared 1 9 c.index-shared-1.result long_shared (omega arith),
      item c.args.shared 3 9 c.index-shared-3.result long_shared (omega arith),
      item c.args.shared 4 9 c.index-shared-4.result long_shared (omega arith),
      item c.args.shared 5 9 c.index-shared-5.result long_shared (omega arith),
      item c.args.shared 6 9 c.index-shared-6.result long_shared (omega arith),
      item c.args.shared 7 9 c.index-shared-7.result long_shared (omega arith),
      item c.args.shared 8 9 c.index-shared-8.result long_shared (omega arith),
      item c.args.four 0 4 c.index-four-0.result long_four (omega arith),
      item c.args.four 1 4 c.index-four-1.result long_four (omega arith),
      item c.args.four 2 4 c.index-four-2.result long_four (omega arith),
      item c.args.four 3 4 c.index-four-3.result long_four (omega arith),
    )
    refl
