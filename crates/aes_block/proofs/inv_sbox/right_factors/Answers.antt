use Rattle.std.proofs.Common.{◌≡◌, arith, length, refl, rules}
use Rattle.aes_block.specs.InvSbox.{right_factors}
use Rattle.aes_block.specs.Planes.{bits}
use Rattle.aes_block.proofs.Items.{item}
use Rattle.aes_block.proofs.inv_sbox.right_factors.Goals as goal

pub returns : goal.returns
unfolding bits right_factors
returns c r c' j =
    let long_planes : length c.args.planes ≡ 8 = search rules in
    let long_left : length c.args.left ≡ 9 = search rules in
    rw (
      c.bitxor-t15.ensures r c' j,
      c.bitxor-t27.ensures r c' j,
      c.bitxor-t16.ensures r c' j,
      c.bitxor-t6.ensures r c' j,
      c.bitxor-y5.ensures r c' j,
      c.bitxor-r19.ensures r c' j,
      c.bitxor-r18.ensures r c' j,
      c.bitxor-r17.ensures r c' j,
      c.bitxor-t17.ensures r c' j,
      c.bitxor-r13.ensures r c' j,
      c.bitxor-t10.ensures r c' j,
      c.bitxor-t9.ensures r c' j,
      c.bitxor-t8.ensures r c' j,
      c.bitxor-t24.ensures r c' j,
      item c.args.planes 0 8 c.index-planes-0.result long_planes (omega arith),
      item c.args.planes 1 8 c.index-planes-1.result long_planes (omega arith),
      item c.args.planes 2 8 c.index-planes-2.result long_planes (omega arith),
      item c.args.planes 3 8 c.index-planes-3.result long_planes (omega arith),
      item c.args.planes 5 8 c.index-planes-5.result long_planes (omega arith),
      item c.args.planes 6 8 c.index-planes-6.result long_planes (omega arith),
      item c.args.planes 7 8 c.index-planes-7.result long_planes (omega arith),
      item c.args.left 1 9 c.index-left-1.result long_left (omega arith),
      item c.args.left 2 9 c.index-left-2.result long_left (omega arith),
      item c.args.left 4 9 c.index-left-4.result long_left (omega arith),
      item c.args.left 6 9 c.index-left-6.result long_left (omega arith),
      item c.args.left 8 9 c.index-left-8.result long_left (omega arith),
    )
    refl
