-- What is sent of a described batch is understood as it was described, over the parameters that are used alone, and suits it.
use Rattle.std.proofs.Common.{◌≡◌, ℕ, List, map, length, Some, None, Result, Ok, refl, sym, ap, ◌∙◌, subst, arith}
use Rattle.std.proofs.lemmas.List.{length-map}
use Rattle.ae_base.specs.Atoms.{Atom, plain_atom}
use Rattle.ae_base.specs.declared.batches.Batch.{Batch}
use Rattle.ae_base.specs.declared.batches.Param.{Param}
use Rattle.ae_base.specs.declared.batches.ParamDecl.{ParamDecl}
use Rattle.ae_base.specs.declared.keys.KeyMeta.{KeyMeta}
use Rattle.ae_base.specs.declared.types.Enc.{Enc}
use Rattle.ae_base.specs.declared.types.Ty.{Ty}
use Rattle.ae_edge.specs.Vaults.{KeyMap}
use Rattle.catalog.specs.Catalogs.{Catalog}
use Rattle.hmac_kdf.specs.Keys.{Keys}
use Rattle.enc_types.specs.Least.{inferred_encs}
use Rattle.enc_types.specs.UsedAlone.{used_among, is_used, alone}
use Rattle.expression_binding.specs.Declarations.{type_of}
use Rattle.engine.specs.BoundOn.{IsBoundOn}
use Rattle.wire_messages.specs.declared.params.SentParam.{SentParam}
use Rattle.statement_analysis.specs.Describing.{Meant, understood, description, keys_of}
use Rattle.statement_analysis.specs.Params.{declaration_of, suited}
use Rattle.server_core.proofs.Interface.{parts_of}
use Rattle.conversation.specs.Batches.{why_unfit}
use Rattle.conversation.specs.Pending.{Pending, Use, uses_in, uses_of}
use Rattle.conversation.specs.Sessions.{encs_of}
use Rattle.conversation.specs.declared.faults.DriverFault.{DriverFault}
use Rattle.conversation.proofs.Interface.{fit_fits}
use Rattle.script_lang.specs.Limits.{HasParams, HasProperParams}
use Rattle.plaintext_laws.specs.Alike.{Fits}
use Rattle.plaintext_laws.specs.Below.{LawsBelow}
use Rattle.plaintext_laws.specs.Batches.{declarations_of}
use Rattle.plaintext_laws.proofs.Between.{IsSendableParam, DescribedAs, HoldsBatch}
use Rattle.plaintext_laws.proofs.Sealed.{GivesKeys}
use Rattle.plaintext_laws.proofs.Sending.{Each, told_among, params_used, encs_used, encs_found, all_fit}
use Rattle.plaintext_laws.proofs.Told.{OpenAs, open_told}
use Rattle.plaintext_laws.proofs.Understood.{understood_alone}
use Rattle.plaintext_laws.proofs.Used.{tys_in, plain_in, atoms_in, uses_sendable, all_sendable, sent_declared, sent_suited, sent_long, used_encs, types_declared}
use Rattle.plaintext_laws.proofs.Walk.{AreSealedBy, encs_in}

abbrev pub encs_alone : Meant → List Enc
encs_alone meant = used_among (is_used meant.bound) 0 meant.encs

abbrev pub plain_atoms_of : Batch → List Atom
plain_atoms_of batch = map (λ (q : Param). plain_atom q.value) batch.params

pub record Suits (here : Catalog) (p : Pending) (meant : Meant) (sent : List SentParam) : Type 0 where
  pub understood : understood here p.batch.text (map declaration_of sent) ≡ Ok (record { bound = alone meant.bound; encs = encs_alone meant })
  pub suited : suited (encs_alone meant) sent ≡ Ok (atoms_in sent)
  pub inferred : inferred_encs (alone meant.bound) ≡ Ok (encs_alone meant)
  pub on : IsBoundOn here (alone meant.bound) (encs_alone meant) (atoms_in sent)
  pub fit : Each (λ (u : Use). IsSendableParam u.param) (uses_of p)
  pub encs : encs_in (uses_of p) ≡ encs_alone meant
  pub types : tys_in (uses_of p) ≡ (alone meant.bound).params
  pub values : plain_in (uses_of p) ≡ used_among (is_used meant.bound) 0 (plain_atoms_of p.batch)

module _ (laws : LawsBelow) where
  pub suits : (IsAnswer : KeyMeta → Result Keys DriverFault → Type 0) → GivesKeys IsAnswer → (here : Catalog) (p : Pending) → Each IsSendableParam p.batch.params → (d : DescribedAs here p)
      → (sent : List SentParam) → AreSealedBy IsAnswer p.keys (uses_of p) sent → Suits here p d.meant sent
  suits IsAnswer gives here p sendable d sent s =
      let meant = d.meant in
      let b = meant.bound in
      let ps = p.batch.params in
      let used = is_used b in
      let es = encs_alone meant in
      let parts = parts_of here p.batch.text (declarations_of p.batch) meant d.understood in
      let ready = laws.prepared here parts.statement (declarations_of p.batch) b meant.encs parts.binds parts.infers in
      let over_alone = laws.bound here parts.statement (used_among used 0 (declarations_of p.batch)) (alone b) ready.is_bound in
      let us = uses_of p in
      let told = told_among used 0 meant.encs in
      let same : us ≡ uses_in ps told = ap (uses_in ps) d.encs in
      let of_uses : (A : Type 0) (f : Use → A) → map f us ≡ map f (uses_in ps told) = λ A f. ap (map f) same in
      let fit = uses_sendable ps p.encs sendable in
      let encs_are : encs_in us ≡ es = of_uses Enc (λ (u : Use). u.enc) ∙ encs_used used 0 ps meant.encs d.long in
      let tys_are : tys_in us ≡ (alone b).params =
      of_uses Ty (λ (u : Use). u.param.declaration.ty) ∙ params_used used (λ (q : Param). q.declaration.ty) 0 ps meant.encs d.long
      ∙ ap (used_among used 0) (types_declared ps ∙ sym (laws.bound here parts.statement (declarations_of p.batch) b parts.binds).params) in
      let names : map declaration_of sent ≡ used_among used 0 (declarations_of p.batch) =
      sent_declared IsAnswer p.keys us sent s ∙ of_uses ParamDecl (λ (u : Use). u.param.declaration) ∙ params_used used (λ (q : Param). q.declaration) 0 ps meant.encs d.long in
      record {
        understood = ap (understood here p.batch.text) names ∙ understood_alone laws.prepared here p.batch.text (declarations_of p.batch) meant parts;
        suited = ap (λ es. suited es sent) (sym encs_are) ∙ sent_suited IsAnswer p.keys laws.seals gives us sent fit s;
        inferred = ready.is_inferred;
        on = record {
          placed = over_alone.placed;
          tables = over_alone.tables;
          definable = over_alone.definable;
          encs = (laws.typings (alone b) es ready.is_inferred).0;
          values = sent_long IsAnswer p.keys us sent s ∙ sym (length-map us (λ (u : Use). u.param.declaration.ty)) ∙ ap length tys_are;
        };
        fit = fit;
        encs = encs_are;
        types = tys_are;
        values = of_uses Atom (λ (u : Use). plain_atom u.param.value) ∙ params_used used (λ (q : Param). plain_atom q.value) 0 ps meant.encs d.long;
      }

  -- what is told of the keys of some encryptions opens to those of their numbers
  pub told_here : (keys : KeyMap) (key_for : ℕ → List ℕ) (here : Catalog) → Fits keys key_for here → (encs : List Enc) → OpenAs keys key_for (keys_of here encs)
  told_here keys key_for here fits encs = open_told laws.seals.opened laws.seals.whole keys key_for here fits encs

  pub keys_told : (keys : KeyMap) (key_for : ℕ → List ℕ) (here : Catalog) → Fits keys key_for here → (p : Pending) → DescribedAs here p → OpenAs keys key_for p.keys
  keys_told keys key_for here fits p d = subst (OpenAs keys key_for) (sym d.metas) (told_here keys key_for here fits (encs_alone d.meant))

  -- a batch that is described as its statement is understood
  pub is_held : (Proper : Type 0) (here : Catalog) (batch : Batch) → HasParams batch → (Proper → HasProperParams batch)
      → why_unfit batch ≡ None → (meant : Meant) → understood here batch.text (declarations_of batch) ≡ Ok meant
      → (encs_of batch.params (description here (declarations_of batch) meant).params ≡ Some (told_among (is_used meant.bound) 0 meant.encs))
      × HoldsBatch Proper here (record { batch = batch; version = here.version; keys = (description here (declarations_of batch) meant).keys; encs = told_among (is_used meant.bound) 0 meant.encs })
  is_held Proper here batch params proper fit meant e =
      let parts = parts_of here batch.text (declarations_of batch) meant e in
      let over_all = laws.bound here parts.statement (declarations_of batch) meant.bound parts.binds in
      let long : length meant.encs ≡ length batch.params =
      (laws.typings meant.bound meant.encs parts.infers).0 ∙ ap length over_all.params ∙ length-map (declarations_of batch) type_of ∙ length-map batch.params (λ (q : Param). q.declaration) in
      let long_declared : length meant.encs ≡ length (declarations_of batch) = long ∙ sym (length-map batch.params (λ (q : Param). q.declaration)) in (
        encs_found meant.bound 0 batch.params meant.encs long params.1,
        record {
          past = omega arith;
          sendable = λ is. all_sendable batch.params (proper is) (all_fit batch.params (fit_fits batch fit));
          same = λ v. record { meant = meant; understood = e; long = long; encs = refl; metas = ap (keys_of here) (used_encs meant.bound 0 (declarations_of batch) meant.encs long_declared) };
        },
      )
