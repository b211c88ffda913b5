-- A path that names a file has as many bytes as characters.
use Rattle.ae_edge.proofs.KeyPaths.{few_bytes}
use Rattle.ae_edge.proofs.adapters.folder.FolderVaultVault.master.Goals as goal

pub set_name-requires-clause-few : goal.set_name-requires-clause-few
set_name-requires-clause-few g c = few_bytes c.args.path.now _ (c.is_key_path.ensures.0 c.if-not-is_key_path.false) c.as_str-2.ensures.bytes
