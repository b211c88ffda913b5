-- The two laws of bodies: what is read of a body spells it, and what is spelled so is read.
use Rattle.std.proofs.Common.{◌≡◌, ℕ, ◌^◌, ◌<◌, true, eqb, leb, List, [], ◌∷◌, ◌++◌, length, map, Some, refl, sym, ap, subst, ◌∙◌, arith}
use Rattle.std.specs.Int.{w64}
use Rattle.std.specs.List.{All}
use Rattle.std.specs.Str.{bytes_eq}
use Rattle.std.proofs.lemmas.Bool.{eqb-true, leb-true, le-leb, and_parts, and_from}
use Rattle.std.proofs.lemmas.Slice.Eq.{bytes_eq-Decides}
use Rattle.ae_base.specs.Faults.{code_of}
use Rattle.ae_base.specs.Sessions.{IsSession}
use Rattle.ae_base.specs.declared.types.Enc.{Enc}
use Rattle.ae_base.specs.declared.batches.ParamDecl.{ParamDecl}
use Rattle.ae_base.specs.declared.keys.KeyMeta.{KeyMeta}
use Rattle.ae_base.specs.declared.atoms.AtomOf.{AtomOf}
use Rattle.wire_messages.specs.KeyLists.{AreTheKeysOf, keys_used, ids_of, entries_of}
use Rattle.wire_messages.specs.Messages.{Description, IsDescription, Header, IsHeader, IsFew}
use Rattle.wire_messages.specs.Conditions.{IsStatement, IsDeclaration, IsSent, IsUsed, IsColumn, IsKey, IsAtom, IsDone, AreParams, IsRequest, IsReply}
use Rattle.wire_messages.specs.declared.columns.SentColumn.{SentColumn}
use Rattle.wire_messages.specs.declared.params.SentParam.{SentParam}
use Rattle.wire_messages.specs.declared.params.UsedParam.{UsedParam}
use Rattle.wire_messages.specs.declared.replies.Done.{Done}
use Rattle.wire_messages.specs.declared.replies.Done.TheVariants.{Defined, Changed, Answered}
use Rattle.wire_messages.specs.declared.replies.Reply.{Reply}
use Rattle.wire_messages.specs.declared.replies.Reply.TheVariants.{Described, Columns, Row, Ended, Refused}
use Rattle.wire_messages.specs.declared.requests.Request.{Request}
use Rattle.wire_messages.specs.declared.requests.Request.TheVariants.{Describe, Execute}
use Rattle.wire_messages.proofs.Interface.{gathered_again}
use Rattle.wire_encoding.specs.Spelling as spell
use Rattle.wire_decoding.specs.Reading.{
  ◌and◌,
  mapped,
  kept,
  pick,
  choice,
  number_at,
  session_at,
  text_at,
  declarations_at,
  sent_params_at,
  used_params_at,
  keys_at,
  column_at,
  atom_at,
  many_at,
  are_keys,
  is_description,
  is_few,
  is_header,
  describe_of,
  describe_at,
  execute_of,
  execute_at,
  description_of,
  described_at,
  header_of,
  columns_at,
  row_at,
  defined,
  dones,
  done_at,
  ended_at,
  fault_at,
  faults,
  refused_at,
  requests,
  replies,
  request_at,
  reply_at,
}
use Rattle.wire_decoding.proofs.Takes.{
  AreBytes,
  AreBytes-rest,
  Reads,
  AllTake,
  AllTakeBodies,
  ◌also◌,
  Reads-and,
  Reads-kept,
  Reads-mapped,
  Reads-choice,
  behind,
  behind_tried,
  mapped_again,
  tried_again,
  ended_body,
  pick_body,
  ends_again,
  cond_some,
  bind_some,
  some_is,
}
use Rattle.wire_decoding.proofs.FieldLaws.{u64_reads, session_reads, text_reads, within_from, within_to}
use Rattle.wire_decoding.proofs.PartLaws.{declarations_read, sent_params_read, used_params_read, HasKeys, keys_read, column_reads, atom_reads, many_reads, fault_takes, fault_again}

-- ---- requests

abbrev IsDescribe : (ℕ × List ℕ) × List ParamDecl → Type 0
IsDescribe d = (IsSession d.0.0 × IsStatement d.0.1) × AreParams IsDeclaration (λ p. p.name) d.1

abbrev describe_body : (ℕ × List ℕ) × List ParamDecl → List ℕ
describe_body d = spell.u16 d.0.0 ++ spell.text d.0.1 ++ spell.few spell.declaration d.1

describe_reads : Reads describe_body IsDescribe (session_at and text_at and declarations_at)
describe_reads =
    Reads-and (λ (h : ℕ × List ℕ). spell.u16 h.0 ++ spell.text h.1) (λ h. IsSession h.0 × IsStatement h.1) (session_at and text_at)
    (spell.few spell.declaration) (AreParams IsDeclaration (λ p. p.name)) declarations_at
    (Reads-and spell.u16 IsSession session_at spell.text IsStatement text_at session_reads text_reads) declarations_read

abbrev IsExecute : ((ℕ × ℕ) × List ℕ) × List SentParam → Type 0
IsExecute e = ((IsSession e.0.0.0 × (e.0.0.1 < 2 ^ 64)) × IsStatement e.0.1) × AreParams IsSent (λ p. p.name) e.1

abbrev execute_body : ((ℕ × ℕ) × List ℕ) × List SentParam → List ℕ
execute_body e = spell.u16 e.0.0.0 ++ spell.u64 e.0.0.1 ++ spell.text e.0.1 ++ spell.few spell.sent e.1

execute_reads : Reads execute_body IsExecute (session_at and number_at w64 and text_at and sent_params_at)
execute_reads =
    Reads-and (λ (h : (ℕ × ℕ) × List ℕ). spell.u16 h.0.0 ++ spell.u64 h.0.1 ++ spell.text h.1) (λ h. (IsSession h.0.0 × (h.0.1 < 2 ^ 64)) × IsStatement h.1) (session_at and number_at w64 and text_at)
    (spell.few spell.sent) (AreParams IsSent (λ p. p.name)) sent_params_at
    (Reads-and (λ (h : ℕ × ℕ). spell.u16 h.0 ++ spell.u64 h.1) (λ h. IsSession h.0 × (h.1 < 2 ^ 64)) (session_at and number_at w64) spell.text IsStatement text_at
    (Reads-and spell.u16 IsSession session_at spell.u64 (λ n. n < 2 ^ 64) (number_at w64) session_reads u64_reads) text_reads) sent_params_read

requests_take : AllTakeBodies spell.request_kind spell.request_body IsRequest requests
unfolding describe_at execute_at
requests_take =
    ended_body describe_body IsDescribe (session_at and text_at and declarations_at) describe_reads describe_of spell.request_kind spell.request_body IsRequest 0x01
    (λ d. refl) (λ d. refl) (λ d h. (h.0.0, h.0.1, h.1))
    also ended_body execute_body IsExecute (session_at and number_at w64 and text_at and sent_params_at) execute_reads execute_of spell.request_kind spell.request_body IsRequest 0x02
    (λ e. refl) (λ e. refl) (λ e h. (h.0.0.0, h.0.0.1, h.0.1, h.1))
    also tt

pub request_takes : (kind : ℕ) (body : List ℕ) (request : Request) → AreBytes body → request_at kind body ≡ Some request
    → (kind ≡ spell.request_kind request) × (body ≡ spell.request_body request) × IsRequest request
unfolding request_at
request_takes = pick_body spell.request_kind spell.request_body IsRequest requests requests_take

pub request_again : (request : Request) → IsRequest request → request_at (spell.request_kind request) (spell.request_body request) ≡ Some request
unfolding request_at describe_at execute_at
request_again (Describe session text declarations) h =
    ends_again describe_body IsDescribe (session_at and text_at and declarations_at) describe_reads describe_of ((session, text), declarations) ((h.0, h.1), h.2)
request_again (Execute session version text params) h =
    ends_again execute_body IsExecute (session_at and number_at w64 and text_at and sent_params_at) execute_reads execute_of (((session, version), text), params) (((h.0, h.1), h.2), h.3)

-- ---- keys

pub are_keys_from : (encs : List Enc) (keys : List KeyMeta) → are_keys encs keys ≡ true → AreTheKeysOf encs keys
are_keys_from encs keys t =
    let b = and_parts (bytes_eq (ids_of keys) (keys_used [] encs)) (leb (length (entries_of keys)) 128) t in
    ((bytes_eq-Decides (ids_of keys) (keys_used [] encs)).0 b.0, leb-true (length (entries_of keys)) 128 b.1)

pub are_keys_to : (encs : List Enc) (keys : List KeyMeta) → AreTheKeysOf encs keys → are_keys encs keys ≡ true
are_keys_to encs keys h =
    and_from (bytes_eq (ids_of keys) (keys_used [] encs)) (leb (length (entries_of keys)) 128) ((bytes_eq-Decides (ids_of keys) (keys_used [] encs)).1 h.0) (le-leb (length (entries_of keys)) 128 h.1)

-- ---- replies

abbrev description_body : Description → List ℕ
description_body d = spell.u64 d.version ++ spell.keys d.keys ++ spell.few spell.used d.params

abbrev IsGoodDescription : Description → Type 0
IsGoodDescription d = (d.version < 2 ^ 64) × All IsKey d.keys × AreParams IsUsed (λ p. p.name) d.params × IsDescription d

abbrev IsOpenDescription : Description → Type 0
IsOpenDescription d = ((d.version < 2 ^ 64) × HasKeys d.keys) × AreParams IsUsed (λ p. p.name) d.params

description_reads : Reads description_body IsGoodDescription (kept is_description (mapped description_of (number_at w64 and keys_at and used_params_at)))
description_reads =
    Reads-kept description_body IsOpenDescription IsGoodDescription (mapped description_of (number_at w64 and keys_at and used_params_at)) is_description
    (λ d h t. (h.0.0, h.0.1.1, h.1, are_keys_from (map (λ p. p.enc) d.params) d.keys t))
    (λ d h. (((h.0, (omega (arith, h.3.1), h.1, gathered_again (map (λ p. p.enc) d.params) d.keys h.3)), h.2), are_keys_to (map (λ p. p.enc) d.params) d.keys h.3))
    (Reads-mapped (λ (d : (ℕ × List KeyMeta) × List UsedParam). spell.u64 d.0.0 ++ spell.keys d.0.1 ++ spell.few spell.used d.1)
    (λ d. ((d.0.0 < 2 ^ 64) × HasKeys d.0.1) × AreParams IsUsed (λ p. p.name) d.1) (number_at w64 and keys_at and used_params_at)
    description_of (λ d. ((d.version, d.keys), d.params)) description_body IsOpenDescription (λ d. refl) (λ d. refl) (λ d h. h) (λ d h. h)
    (Reads-and (λ (h : ℕ × List KeyMeta). spell.u64 h.0 ++ spell.keys h.1) (λ h. (h.0 < 2 ^ 64) × HasKeys h.1) (number_at w64 and keys_at)
    (spell.few spell.used) (AreParams IsUsed (λ p. p.name)) used_params_at
    (Reads-and spell.u64 (λ n. n < 2 ^ 64) (number_at w64) (spell.keys) HasKeys (keys_at) u64_reads keys_read) used_params_read))

abbrev header_body : Header → List ℕ
header_body h = spell.keys h.keys ++ spell.many spell.column h.columns

abbrev IsGoodHeader : Header → Type 0
IsGoodHeader h = All IsKey h.keys × All IsColumn h.columns × IsHeader h

abbrev HasColumns : List SentColumn → Type 0
HasColumns columns = (length columns < 2 ^ 16) × All IsColumn columns

abbrev IsOpenHeader : Header → Type 0
IsOpenHeader h = HasKeys h.keys × HasColumns h.columns

pub few_from : {A : Type 0} (xs : List A) → is_few xs ≡ true → IsFew xs
few_from xs t = within_from 1 512 (length xs) t

pub few_to : {A : Type 0} (xs : List A) → IsFew xs → is_few xs ≡ true
few_to xs h = within_to 1 512 (length xs) h.0 h.1

pub is_header_from : (h : Header) → is_header h ≡ true → IsHeader h
is_header_from h t =
    let b = and_parts (are_keys (map (λ c. c.enc) h.columns) h.keys) (is_few h.columns) t in
    (are_keys_from (map (λ c. c.enc) h.columns) h.keys b.0, few_from h.columns b.1)

pub is_header_to : (h : Header) → IsHeader h → is_header h ≡ true
is_header_to h g = and_from (are_keys (map (λ c. c.enc) h.columns) h.keys) (is_few h.columns) (are_keys_to (map (λ c. c.enc) h.columns) h.keys g.0) (few_to h.columns g.1)

header_reads : Reads header_body IsGoodHeader (kept is_header (mapped header_of (keys_at and many_at column_at)))
header_reads =
    Reads-kept header_body IsOpenHeader IsGoodHeader (mapped header_of (keys_at and many_at column_at)) is_header
    (λ h g t. (g.0.1, g.1.1, is_header_from h t))
    (λ h g. (((omega (arith, g.2.0.1), g.0, gathered_again (map (λ c. c.enc) h.columns) h.keys g.2.0), (omega (arith, g.2.1.1), g.1)), is_header_to h g.2))
    (Reads-mapped (λ (h : List KeyMeta × List SentColumn). spell.keys h.0 ++ spell.many spell.column h.1) (λ h. HasKeys h.0 × HasColumns h.1) (keys_at and many_at column_at)
    header_of (λ h. (h.keys, h.columns)) header_body IsOpenHeader (λ h. refl) (λ h. refl) (λ h g. g) (λ h g. g)
    (Reads-and (spell.keys) HasKeys (keys_at) (spell.many spell.column) HasColumns (many_at column_at)
    keys_read (many_reads spell.column IsColumn column_at column_reads)))

abbrev IsGoodRow : List (AtomOf (List ℕ)) → Type 0
IsGoodRow xs = All IsAtom xs × IsFew xs

row_reads : Reads (spell.many spell.atom) IsGoodRow (kept is_few (many_at atom_at))
row_reads =
    Reads-kept (spell.many spell.atom) (λ xs. (length xs < 2 ^ 16) × All IsAtom xs) IsGoodRow (many_at atom_at) is_few
    (λ xs h t. (h.1, few_from xs t)) (λ xs h. ((omega (arith, h.1.1), h.0), few_to xs h.1))
    (many_reads spell.atom IsAtom atom_at atom_reads)

nothing_done : (n : ℕ) (d : Done) → n < 2 ^ 64 → defined n ≡ Some d → (spell.done d ≡ 0 ∷ spell.u64 n) × IsDone d
nothing_done n d lt e =
    let c = cond_some (eqb n 0) Defined d e in
    subst (λ w. (spell.done w ≡ 0 ∷ spell.u64 n) × IsDone w) c.1 (ap (λ m. 0 ∷ spell.u64 m) (sym (eqb-true n 0 c.0)), tt)

dones_take : AllTake spell.done IsDone dones
dones_take =
    behind_tried spell.u64 (λ n. n < 2 ^ 64) (number_at w64) u64_reads defined spell.done IsDone 0 nothing_done
    also behind spell.u64 (λ n. n < 2 ^ 64) (number_at w64) u64_reads Changed spell.done IsDone 1 (λ n h. refl) (λ n h. h)
    also behind spell.u64 (λ n. n < 2 ^ 64) (number_at w64) u64_reads Answered spell.done IsDone 2 (λ n h. refl) (λ n h. h)
    also tt

zero_fits : 0 < 2 ^ 64
zero_fits = omega arith

done_again : (d : Done) (rest : List ℕ) → IsDone d → choice dones (spell.done d ++ rest) ≡ Some (d, rest)
done_again Defined rest h = tried_again spell.u64 (λ n. n < 2 ^ 64) (number_at w64) u64_reads defined 0 Defined rest zero_fits refl
done_again (Changed n) rest h = mapped_again spell.u64 (λ m. m < 2 ^ 64) (number_at w64) u64_reads Changed n rest h
done_again (Answered n) rest h = mapped_again spell.u64 (λ m. m < 2 ^ 64) (number_at w64) u64_reads Answered n rest h

done_reads : Reads spell.done IsDone done_at
unfolding done_at
done_reads = Reads-choice spell.done IsDone dones dones_take done_again

refused_takes : (body : List ℕ) (reply : Reply) → AreBytes body → refused_at body ≡ Some reply → (0x85 ≡ spell.reply_kind reply) × (body ≡ spell.reply_body reply) × IsReply reply
unfolding refused_at fault_at
refused_takes [] reply fits e = absurd cc
refused_takes (code ∷ bytes) reply fits e =
    let p = bind_some (pick faults code bytes) (λ f. Some (Refused f)) reply e in
    let t = fault_takes code bytes p.0 (AreBytes-rest code bytes fits) p.1 in
    subst (λ r. (0x85 ≡ spell.reply_kind r) × (code ∷ bytes ≡ spell.reply_body r) × IsReply r) (some_is (Refused p.0) reply p.2) (refl, ap (λ k. k ∷ bytes) t.0 ∙ ap (λ b. code_of p.0 ∷ b) t.1, t.2)

replies_take : AllTakeBodies spell.reply_kind spell.reply_body IsReply replies
unfolding described_at columns_at row_at ended_at
replies_take =
    ended_body description_body IsGoodDescription (kept is_description (mapped description_of (number_at w64 and keys_at and used_params_at))) description_reads
    Described spell.reply_kind spell.reply_body IsReply 0x81 (λ d. refl) (λ d. refl) (λ d h. h)
    also ended_body header_body IsGoodHeader (kept is_header (mapped header_of (keys_at and many_at column_at))) header_reads
    Columns spell.reply_kind spell.reply_body IsReply 0x82 (λ h. refl) (λ h. refl) (λ h g. g)
    also ended_body (spell.many spell.atom) IsGoodRow (kept is_few (many_at atom_at)) row_reads
    Row spell.reply_kind spell.reply_body IsReply 0x83 (λ xs. refl) (λ xs. refl) (λ xs h. h)
    also ended_body spell.done IsDone done_at done_reads Ended spell.reply_kind spell.reply_body IsReply 0x84 (λ d. refl) (λ d. refl) (λ d h. h)
    also record { takes = refused_takes }
    also tt

pub reply_takes : (kind : ℕ) (body : List ℕ) (reply : Reply) → AreBytes body → reply_at kind body ≡ Some reply
    → (kind ≡ spell.reply_kind reply) × (body ≡ spell.reply_body reply) × IsReply reply
unfolding reply_at
reply_takes = pick_body spell.reply_kind spell.reply_body IsReply replies replies_take

pub reply_again : (reply : Reply) → IsReply reply → reply_at (spell.reply_kind reply) (spell.reply_body reply) ≡ Some reply
unfolding reply_at described_at columns_at row_at ended_at refused_at fault_at
reply_again (Described d) h =
    ends_again description_body IsGoodDescription (kept is_description (mapped description_of (number_at w64 and keys_at and used_params_at))) description_reads Described d h
reply_again (Columns h) g = ends_again header_body IsGoodHeader (kept is_header (mapped header_of (keys_at and many_at column_at))) header_reads Columns h g
reply_again (Row xs) h = ends_again (spell.many spell.atom) IsGoodRow (kept is_few (many_at atom_at)) row_reads Row xs h
reply_again (Ended d) h = ends_again spell.done IsDone done_at done_reads Ended d h
reply_again (Refused f) h = rw (fault_again f h) refl
