use Rattle.std.proofs.Common.{◌≡◌, arith, length, refl, rules}
use Rattle.aes_block.specs.InvSbox.{four_planes}
use Rattle.aes_block.specs.Planes.{bits}
use Rattle.aes_block.proofs.Items.{item}
use Rattle.aes_block.proofs.inv_sbox.four_planes.Goals as goal

pub returns : goal.returns
unfolding bits four_planes
returns c r c' j =
    let long_right : length c.args.right ≡ 9 = search rules in
    let long_left : length c.args.left ≡ 9 = search rules in
    let long_shared : length c.args.shared ≡ 9 = search rules in
    rw (
      c.bitxor-w6.ensures r c' j,
      c.bitxor-w5.ensures r c' j,
      c.bitxor-w3.ensures r c' j,
      c.bitxor-w0.ensures r c' j,
      c.bitxor-p24.ensures r c' j,
      c.bitxor-p23.ensures r c' j,
      c.bitxor-p22.ensures r c' j,
      c.bitxor-p19.ensures r c' j,
      c.bitxor-p14.ensures r c' j,
      c.bitxor-p13.ensures r c' j,
      c.bitxor-p12.ensures r c' j,
      c.bitxor-p8.ensures r c' j,
      item c.args.right 0 9 c.index-right-0.result long_right (omega arith),
      item c.args.right 2 9 c.index-right-2.result long_right (omega arith),
      item c.args.right 3 9 c.index-right-3.result long_right (omega arith),
      item c.args.right 4 9 c.index-right-4.result long_right (omega arith),
      item c.args.right 5 9 c.index-right-5.result long_right (omega arith),
      item c.args.right 7 9 c.index-right-7.result long_right (omega arith),
      item c.args.left 7 9 c.index-left-7.result long_left (omega arith),
      item c.args.shared 1 9 c.index-shared-1.result long_shared (omega arith),
      item c.args.shared 2 9 c.index-shared-2.result long_shared (omega arith),
      item c.args.shared 4 9 c.index-shared-4.result long_shared (omega arith),
      item c.args.shared 6 9 c.index-shared-6.result long_shared (omega arith),
    )
    refl
