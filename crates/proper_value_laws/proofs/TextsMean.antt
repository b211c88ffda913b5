-- What a text means is proper, whatever it is.
use Rattle.std.proofs.Common.{◌≡◌, ℕ, List, Result, Ok, Err, ap, sym, subst, encode_utf8_all}
use Rattle.std.specs.List.{All}
use Rattle.std.proofs.lemmas.List.Elements.{All-map}
use Rattle.ae_base.specs.Types.{IsType}
use Rattle.ae_base.specs.declared.batches.ParamDecl.{ParamDecl}
use Rattle.ae_base.specs.declared.types.Enc.{Enc}
use Rattle.sql_tree.specs.Bound.{Bound}
use Rattle.sql_grammar.specs.Laws.{TreeIsTheGrammars}
use Rattle.sql_grammar.specs.Texts.{statement_in}
use Rattle.catalog.specs.Catalogs.{Catalog}
use Rattle.enc_types.specs.Least.{inferred_encs}
use Rattle.expression_binding.specs.Declarations.{type_of}
use Rattle.expression_binding.proofs.Interface.{first_part}
use Rattle.statement_analysis.specs.Describing.{Meant, binding_of, understood, with_encs}
use Rattle.proper_value_laws.specs.Laws.{TextsAreProper}
use Rattle.proper_value_laws.proofs.Binding.{IsBoundProper, bound_proper}
use Rattle.proper_value_laws.proofs.Texts.{text_read}

typed_is : (b : Bound) (o : Result (List Enc) ℕ) (meant : Meant) → with_encs b o ≡ Ok meant → b ≡ meant.bound
typed_is b (Err at) meant e = cc
typed_is b (Ok encs) meant e =
    let same : record { bound = b; encs = encs } ≡ meant = cc in
    ap (λ (m : Meant). m.bound) same

meant_proper : TreeIsTheGrammars → (catalog : Catalog) (text : List ℕ) (ds : List ParamDecl) (meant : Meant) → understood catalog text ds ≡ Ok meant → IsBoundProper catalog ds meant.bound
unfolding understood
meant_proper grammar catalog text ds meant e =
    first_part (binding_of catalog text ds) _ meant (IsBoundProper catalog ds meant.bound) e
    (λ b eb e1. subst (IsBoundProper catalog ds) (typed_is b (inferred_encs b) meant e1)
    (first_part (statement_in (encode_utf8_all text)) _ b (IsBoundProper catalog ds b) eb
    (λ s es e2.
    let r = text_read grammar (encode_utf8_all text) s es in
    bound_proper catalog s ds b r.proper r.small e2)))

pub texts_proper : TreeIsTheGrammars → TextsAreProper
texts_proper grammar = record {
  statements = λ catalog text ds meant e. (meant_proper grammar catalog text ds meant e).statement;
  bound = λ catalog text ds meant tables types e.
      let h = meant_proper grammar catalog text ds meant e in
      record { statement = h.statement; columns = h.columns tables; params = subst (All IsType) (sym h.params) (All-map IsType type_of ds types) };
}
