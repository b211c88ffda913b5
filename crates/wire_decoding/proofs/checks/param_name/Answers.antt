-- A name of the characters of a parameter's.
use Rattle.std.proofs.Common.{◌≡◌, ◌∙◌, ◌↔◌, sym, subst, IfSome, IsSome}
use Rattle.std.specs.List.{list_all}
use Rattle.std.specs.Str.{chars}
use Rattle.ae_base.specs.Names.{IsParamName, is_param_char}
use Rattle.wire_decoding.specs.Reading.{is_word, is_param_name}
use Rattle.wire_decoding.proofs.FieldLaws.{param_from, param_to}
use Rattle.wire_decoding.proofs.Takes.{cond_some}
use Rattle.wire_decoding.proofs.Tested.{tested, none_and}
use Rattle.wire_decoding.proofs.checks.param_name.Goals as goal

pub returns-in-Some : goal.returns-in-Some
returns-in-Some c =
    let t = chars c.args.text.now in
    let k = cond_some (is_word t) t c.in-Some.name (sym c.name.ensures ∙ c.in-Some.is) in
    tested c.from_name.result is_param_name IsParamName t
    (subst (λ n. IfSome c.from_name.result (λ p. p ≡ n)) (sym k.1) c.from_name.ensures.name)
    (subst (λ n. IsSome c.from_name.result ↔ IsParamName n) (sym k.1) c.from_name.ensures.exactly)
    (param_from t) (param_to t)

pub returns-in-None : goal.returns-in-None
returns-in-None c =
    let t = chars c.args.text.now in
    none_and (is_word t) (list_all is_param_char t) t (sym c.in-None.is ∙ c.name.ensures)
