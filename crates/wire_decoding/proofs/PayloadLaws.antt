-- The two laws of what frames carry to the driver, in each version.
use Rattle.std.proofs.Common.{◌≡◌, ℕ, Bool, true, false, cond, eqb, List, Some, None, refl, sym, ap, subst}
use Rattle.std.proofs.lemmas.Bool.{eqb-true}
use Rattle.ae_base.specs.declared.frames.FrameVersion.{FrameVersion}
use Rattle.ae_base.specs.declared.frames.FrameVersion.TheVariants.{V1, V2}
use Rattle.wire_messages.specs.Conditions.{IsReply}
use Rattle.wire_messages.specs.declared.replies.Reply.{Reply}
use Rattle.wire_messages.specs.declared.replies.Reply.TheVariants.{Described, Columns, Row, Ended, Refused}
use Rattle.wire_payloads.specs.Payloads.{IsPayload}
use Rattle.wire_payloads.specs.declared.payloads.Payload.{Payload}
use Rattle.wire_payloads.specs.declared.payloads.Payload.TheVariants.{One, Rows}
use Rattle.wire_encoding.specs.Packing.{payload_kind, payload_body, rows_body}
use Rattle.wire_encoding.specs.Spelling.{reply_kind}
use Rattle.wire_decoding.specs.Reading.{kept, is_batch, rows_at, batch_at, alone, reply_at, payload_at}
use Rattle.wire_decoding.proofs.Takes.{AreBytes, bind_some, some_is, ended_body, ends_again}
use Rattle.wire_decoding.proofs.MessageLaws.{reply_takes, reply_again}
use Rattle.wire_decoding.proofs.RowLaws.{AreShared, batch_reads}

-- the payload is of a kind, and has this body
record Carries (version : FrameVersion) (kind : ℕ) (body : List ℕ) (payload : Payload) : Type 0 where
  kind_is : kind ≡ payload_kind payload
  body_is : body ≡ payload_body payload
  proper : IsPayload version payload

-- ---- replies

proper_in_2 : (reply : Reply) → (0x83 ≡ reply_kind reply → ⊥) → IsReply reply → IsPayload V2 (One reply)
proper_in_2 (Described d) other h = h
proper_in_2 (Columns header) other h = h
proper_in_2 (Row atoms) other h = absurd (other refl)
proper_in_2 (Ended done) other h = h
proper_in_2 (Refused fault) other h = h

alone_takes : (version : FrameVersion) (kind : ℕ) (body : List ℕ) (payload : Payload) → AreBytes body → ((reply : Reply) → kind ≡ reply_kind reply → IsReply reply → IsPayload version (One reply))
    → alone (reply_at kind body) ≡ Some payload → Carries version kind body payload
alone_takes version kind body payload fits proper e =
    let p = bind_some (reply_at kind body) (λ reply. Some (One reply)) payload e in
    let t = reply_takes kind body p.0 fits p.1 in
    subst (λ (w : Payload). Carries version kind body w) (some_is (One p.0) payload p.2) (record { kind_is = t.0; body_is = t.1; proper = proper p.0 t.0 t.2 })

alone_again : (reply : Reply) → IsReply reply → alone (reply_at (payload_kind (One reply)) (payload_body (One reply))) ≡ Some (One reply)
alone_again reply h = ap alone (reply_again reply h)

-- ---- rows

batch_takes : (body : List ℕ) (payload : Payload) → AreBytes body → batch_at body ≡ Some payload → Carries V2 0x86 body payload
unfolding batch_at
batch_takes body payload fits e =
    let t = (ended_body rows_body AreShared (kept is_batch rows_at) batch_reads Rows payload_kind payload_body
    (IsPayload V2) 0x86 (λ rows. refl) (λ rows. refl) (λ rows h. h)).takes body payload fits e in
    record { kind_is = t.0; body_is = t.1; proper = t.2 }

-- ---- each version

not_83 : (kind : ℕ) (reply : Reply) → eqb kind 0x83 ≡ false → kind ≡ reply_kind reply → 0x83 ≡ reply_kind reply → ⊥
not_83 kind reply other e f = absurd cc

by_kind : (row shared : Bool) (kind : ℕ) (body : List ℕ) (payload : Payload) → AreBytes body → eqb kind 0x83 ≡ row → eqb kind 0x86 ≡ shared
    → cond row None (cond shared (batch_at body) (alone (reply_at kind body))) ≡ Some payload → Carries V2 kind body payload
by_kind true shared kind body payload fits r s e = absurd cc
by_kind false true kind body payload fits r s e =
    subst (λ (k : ℕ). Carries V2 k body payload) (sym (eqb-true kind 0x86 s)) (batch_takes body payload fits e)
by_kind false false kind body payload fits r s e =
    alone_takes V2 kind body payload fits (λ reply k h. proper_in_2 reply (not_83 kind reply r k) h) e

taken : (version : FrameVersion) (kind : ℕ) (body : List ℕ) (payload : Payload) → AreBytes body → payload_at version kind body ≡ Some payload → Carries version kind body payload
unfolding payload_at
taken V1 kind body payload fits e = alone_takes V1 kind body payload fits (λ reply k h. h) e
taken V2 kind body payload fits e = by_kind (eqb kind 0x83) (eqb kind 0x86) kind body payload fits refl refl e

-- what is read of a body spells it
pub payload_takes : (version : FrameVersion) (kind : ℕ) (body : List ℕ) (payload : Payload) → AreBytes body → payload_at version kind body ≡ Some payload
    → (kind ≡ payload_kind payload) × (body ≡ payload_body payload) × IsPayload version payload
payload_takes version kind body payload fits e = let t = taken version kind body payload fits e in (t.kind_is, t.body_is, t.proper)

-- what is spelled so is read
pub payload_again : (version : FrameVersion) (payload : Payload) → IsPayload version payload → payload_at version (payload_kind payload) (payload_body payload) ≡ Some payload
unfolding payload_at batch_at
payload_again V1 (One reply) h = alone_again reply h
payload_again V1 (Rows rows) h = absurd h
payload_again V2 (One (Described d)) h = alone_again (Described d) h
payload_again V2 (One (Columns header)) h = alone_again (Columns header) h
payload_again V2 (One (Row atoms)) h = absurd h
payload_again V2 (One (Ended done)) h = alone_again (Ended done) h
payload_again V2 (One (Refused fault)) h = alone_again (Refused fault) h
payload_again V2 (Rows rows) h = ends_again rows_body AreShared (kept is_batch rows_at) batch_reads Rows rows h
