-- What was found of the encryptions of sites.
use Rattle.std.specs.Prelude.{unwrap_or}
use Rattle.std.specs.HashMap as hash
use Rattle.std.specs.HashMap.{HashMap}
use Rattle.ae_base.specs.declared.types.Enc.{Enc}
use Rattle.ae_base.specs.declared.types.Enc.TheVariants.{Plain}
use Rattle.enc_types.specs.SiteLaws.{site_eq}
use Rattle.enc_types.specs.declared.sites.Site.{Site}

abbrev pub enc_in : {S : Type 0} → HashMap Site Enc S → Site → Enc
enc_in found site = unwrap_or (hash.get site_eq found site) Plain
