-- A look-up after an insert.
use Rattle.std.proofs.Common.{◌≡◌, ap, ◌∙◌, refl, Bool, true, false, cond, Option, Some, unwrap_or}
use Rattle.std.specs.HashMap as hash
use Rattle.ae_base.specs.declared.types.Enc.{Enc}
use Rattle.ae_base.specs.declared.types.Enc.TheVariants.{Plain}
use Rattle.enc_types.specs.SiteLaws.{site_eq}
use Rattle.inference.proofs.encs.Encs.set.Goals as goal

either : (b : Bool) (e : Enc) (o : Option Enc) → unwrap_or (cond b (Some e) o) Plain ≡ cond b e (unwrap_or o Plain)
either true e o = refl
either false e o = refl

pub returns : goal.returns
returns c = λ other.
    let h : hash.get site_eq c.insert.new.self other ≡ cond (site_eq c.args.site other) (Some c.args.enc) (hash.get site_eq c.args.self.now.found other) = c.in_ok-insert.ensures.updates.0 other in
    ap (λ o. unwrap_or o Plain) h ∙ either (site_eq c.args.site other) c.args.enc (hash.get site_eq c.args.self.now.found other)
