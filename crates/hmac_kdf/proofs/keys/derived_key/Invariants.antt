use Rattle.std.proofs.Common.{take}
use Rattle.hmac_kdf.specs.Keys.{utf16le_of_ascii}
use Rattle.hmac_kdf.specs.Holding.{Holds}
use Rattle.hmac_kdf.proofs.keys.derived_key.Given as goal

abbrev pub invariant-characters : goal.invariant-characters
invariant-characters l = Holds l.mac l.cek (utf16le_of_ascii (take l.character-index l.label))
