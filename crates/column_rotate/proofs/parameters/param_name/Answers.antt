-- A letter and digits.
use Rattle.std.proofs.Common.{sym, ◌∙◌, subst}
use Rattle.ae_base.specs.Names.{IsParamName}
use Rattle.column_rotate.proofs.Named.{is_named, named_so}
use Rattle.column_rotate.proofs.parameters.param_name.Goals as goal

pub unreachable-requires : goal.unreachable-requires
unreachable-requires c =
    let t = named_so c.args.number _ _ c.from_string.result c.requires c.new-name.ensures.bytes c.in_ok-write.ensures.bytes c.from_string.ensures in
    let s = c.from_txt.ensures.exactly.1 (subst IsParamName (sym t) (is_named c.args.number c.requires)) in
    let n = rw c.in-None.is at s in
    cc

pub returns : goal.returns
returns c = c.in-Some.ensures.text ∙ named_so c.args.number _ _ c.from_string.result c.requires c.new-name.ensures.bytes c.in_ok-write.ensures.bytes c.from_string.ensures
