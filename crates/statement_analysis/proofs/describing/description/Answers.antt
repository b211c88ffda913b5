-- The parameters that are used, and their keys, are what a description tells.
use Rattle.std.proofs.Common.{◌∙◌, List, ap}
use Rattle.wire_messages.specs.declared.params.UsedParam.{UsedParam}
use Rattle.statement_analysis.specs.Describing.{meant_of, keys_of}
use Rattle.statement_analysis.proofs.Encryptions.{encs_count}
use Rattle.statement_analysis.proofs.Told.{told_keys, told_few, told_differ, description_is}
use Rattle.statement_analysis.proofs.Used.{encs_of}
use Rattle.statement_analysis.proofs.describing.description.Goals as goal

pub used_params-requires : goal.used_params-requires
used_params-requires c = encs_count c.args.catalog.now c.args.declarations.now (meant_of c.args.typed.now) c.typings_are_of_columns.ensures c.requires.understood

pub described-requires-clause-keys : goal.described-requires-clause-keys
described-requires-clause-keys c =
    told_keys c.args.catalog.now c.args.declarations.now (meant_of c.args.typed.now) c.in_ok-params.params c.in_ok-params.ensures c.in_ok-keys.keys c.requires.catalog c.keys_are_told.ensures.told
    c.typings_are_of_columns.ensures c.requires.understood (c.in_ok-keys.ensures ∙ ap (λ (params : List UsedParam). keys_of c.args.catalog.now (encs_of params)) c.as_slice.ensures)

pub described-requires-clause-few : goal.described-requires-clause-few
described-requires-clause-few c = told_few c.args.catalog.now c.args.declarations.now (meant_of c.args.typed.now) c.in_ok-params.params c.in_ok-params.ensures c.requires.few

pub described-requires-clause-differ : goal.described-requires-clause-differ
described-requires-clause-differ c = told_differ c.args.catalog.now c.args.declarations.now (meant_of c.args.typed.now) c.in_ok-params.params c.in_ok-params.ensures c.requires.differ

pub returns : goal.returns
returns c =
    description_is c.args.catalog.now c.args.declarations.now (meant_of c.args.typed.now) c.in_ok-params.params c.in_ok-params.ensures c.in_ok-keys.keys c.version.result c.described.result
    c.version.ensures (c.in_ok-keys.ensures ∙ ap (λ (params : List UsedParam). keys_of c.args.catalog.now (encs_of params)) c.as_slice.ensures) c.described.ensures
