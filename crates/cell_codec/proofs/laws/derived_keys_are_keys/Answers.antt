use Rattle.cell_codec.proofs.Codes.{enc_key-IsKey, iv_of-IsBlock}
use Rattle.cell_codec.proofs.laws.derived_keys_are_keys.Goals as goal

pub returns-clause-keys : goal.returns-clause-keys
returns-clause-keys c = enc_key-IsKey

pub returns-clause-iv : goal.returns-clause-iv
returns-clause-iv c = iv_of-IsBlock
