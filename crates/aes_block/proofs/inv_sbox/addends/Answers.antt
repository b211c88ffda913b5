use Rattle.std.proofs.Common.{◌≡◌, arith, length, refl, rules}
use Rattle.aes_block.specs.InvSbox.{addends}
use Rattle.aes_block.specs.Planes.{bits}
use Rattle.aes_block.proofs.Items.{item}
use Rattle.aes_block.proofs.inv_sbox.addends.Goals as goal

pub returns : goal.returns
unfolding bits addends
returns c r c' j =
    let long_planes : length c.args.planes ≡ 8 = search rules in
    let long_left : length c.args.left ≡ 9 = search rules in
    let long_right : length c.args.right ≡ 9 = search rules in
    rw (
      c.bitxor-t26.ensures r c' j,
      c.bitxor-t14.ensures r c' j,
      c.bitxor-r18.ensures r c' j,
      c.bitxor-t25.ensures r c' j,
      c.bitxor-t24.ensures r c' j,
      item c.args.planes 0 8 c.index-planes-0.result long_planes (omega arith),
      item c.args.planes 1 8 c.index-planes-1.result long_planes (omega arith),
      item c.args.planes 2 8 c.index-planes-2.result long_planes (omega arith),
      item c.args.planes 3 8 c.index-planes-3.result long_planes (omega arith),
      item c.args.planes 5 8 c.index-planes-5.result long_planes (omega arith),
      item c.args.left 3 9 c.index-left-3.result long_left (omega arith),
      item c.args.left 6 9 c.index-left-6.result long_left (omega arith),
      item c.args.right 3 9 c.index-right-3.result long_right (omega arith),
      item c.args.right 8 9 c.index-right-8.result long_right (omega arith),
    )
    refl
