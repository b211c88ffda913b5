use Rattle.std.proofs.Common.{◌≡◌, ◌++◌, take, drop}
use Rattle.hmac_kdf.specs.Hmac.{padded_with}
use Rattle.hmac_kdf.proofs.mac.padded_with.Given as goal

abbrev pub invariant-loop-byte : goal.invariant-loop-byte
invariant-loop-byte l =
    l.byte-items ≡ padded_with l.pad (take l.byte-index l.block) ++ drop l.byte-index l.block
