use Rattle.cbc_mode.proofs.Unchaining.{zip2-xored}
use Rattle.cbc_mode.proofs.sum.Goals as goal

pub returns : goal.returns
returns c = let lanes = zip2-xored c.args.a.now c.args.b.now in cc
