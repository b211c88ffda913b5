use Rattle.std.proofs.Common.{◌≡◌, arith, length, refl, rules}
use Rattle.aes_block.specs.InvSbox.{shared_sums}
use Rattle.aes_block.specs.Planes.{bits}
use Rattle.aes_block.proofs.Items.{item}
use Rattle.aes_block.proofs.inv_sbox.shared_sums.Goals as goal

pub returns : goal.returns
unfolding bits shared_sums
returns c r c' j =
    let long_right : length c.args.right ≡ 9 = search rules in
    let long_left : length c.args.left ≡ 9 = search rules in
    rw (
      c.bitxor-p11.ensures r c' j,
      c.bitxor-p10.ensures r c' j,
      c.bitxor-p7.ensures r c' j,
      c.bitxor-p6.ensures r c' j,
      c.bitxor-p5.ensures r c' j,
      c.bitxor-p4.ensures r c' j,
      c.bitxor-p3.ensures r c' j,
      c.bitxor-p2.ensures r c' j,
      c.bitxor-p1.ensures r c' j,
      c.bitxor-p0.ensures r c' j,
      item c.args.right 0 9 c.index-right-0.result long_right (omega arith),
      item c.args.right 1 9 c.index-right-1.result long_right (omega arith),
      item c.args.right 2 9 c.index-right-2.result long_right (omega arith),
      item c.args.right 3 9 c.index-right-3.result long_right (omega arith),
      item c.args.right 4 9 c.index-right-4.result long_right (omega arith),
      item c.args.right 5 9 c.index-right-5.result long_right (omega arith),
      item c.args.right 6 9 c.index-right-6.result long_right (omega arith),
      item c.args.right 8 9 c.index-right-8.result long_right (omega arith),
      item c.args.left 1 9 c.index-left-1.result long_left (omega arith),
      item c.args.left 2 9 c.index-left-2.result long_left (omega arith),
      item c.args.left 3 9 c.index-left-3.result long_left (omega arith),
      item c.args.left 4 9 c.index-left-4.result long_left (omega arith),
      item c.args.left 5 9 c.index-left-5.result long_left (omega arith),
      item c.args.left 6 9 c.index-left-6.result long_left (omega arith),
      item c.args.left 7 9 c.index-left-7.result long_left (omega arith),
    )
    refl
