-- How long the spelling of a message can be.
use Rattle.std.proofs.Common.{◌≡◌, ℕ, ◌+◌, ◌*◌, ◌≤◌, List, [], ◌∷◌, ◌++◌, length, arith, length-append, encode_utf8_all}
use lib.Utf8.{encode}
use Rattle.std.specs.List.{All, flat_map}
use Rattle.std.proofs.lemmas.List.Concat.{length-flat_map}
use Rattle.std.proofs.lemmas.List.Elements.{All-weaker}
use Rattle.std.proofs.lemmas.List.Sums.{sum_by-le}
use Rattle.std.proofs.lemmas.Str.{length-encode, len_utf8_bounds}
use Rattle.ae_base.specs.declared.types.Ty.{Ty}
use Rattle.ae_base.specs.declared.types.Ty.TheVariants as ty
use Rattle.ae_base.specs.declared.types.Enc.{Enc}
use Rattle.ae_base.specs.declared.types.Enc.TheVariants as enc
use Rattle.ae_base.specs.declared.values.Datum.TheVariants.{Num, Text, Bin}
use Rattle.ae_base.specs.declared.atoms.AtomOf.{AtomOf}
use Rattle.ae_base.specs.declared.atoms.AtomOf.TheVariants.{Null, Plain, Sealed}
use Rattle.ae_base.specs.declared.batches.ParamDecl.{ParamDecl}
use Rattle.ae_base.specs.declared.keys.KeyMeta.{KeyMeta}
use Rattle.ae_base.specs.declared.faults.SqlFault.{SqlFault}
use Rattle.ae_base.specs.declared.faults.SqlFault.TheVariants as fault
use Rattle.ae_base.specs.Names.{IsName}
use Rattle.wire_messages.specs.declared.columns.SentColumn.{SentColumn}
use Rattle.wire_messages.specs.declared.params.SentParam.{SentParam}
use Rattle.wire_messages.specs.declared.params.UsedParam.{UsedParam}
use Rattle.wire_messages.specs.declared.replies.Done.{Done}
use Rattle.wire_messages.specs.declared.replies.Done.TheVariants.{Defined, Changed, Answered}
use Rattle.wire_messages.specs.declared.replies.Reply.{Reply}
use Rattle.wire_messages.specs.declared.replies.Reply.TheVariants.{Described, Columns, Row, Ended, Refused}
use Rattle.wire_messages.specs.declared.requests.Request.{Request}
use Rattle.wire_messages.specs.declared.requests.Request.TheVariants.{Describe, Execute}
use Rattle.wire_messages.specs.Conditions.{IsRequest, IsReply, IsAtom, IsDeclaration, IsSent, IsUsed, IsColumn, IsEntry, IsKey, IsFault}
use Rattle.wire_messages.specs.KeyLists.{entries_of}
use Rattle.wire_messages.specs.declared.key_entries.KeyEntry.{KeyEntry}
use Rattle.wire_messages.proofs.Interface.{entries_meet}
use Rattle.wire_encoding.specs.Spelling as spell

-- a character has at most four bytes
pub encoded_within : (characters : List ℕ) → length (encode_utf8_all characters) ≤ 4 * length characters
encoded_within [] = omega arith
encoded_within (c ∷ characters) = omega (arith, length-append (encode c) (encode_utf8_all characters), length-encode c, len_utf8_bounds c, encoded_within characters)

-- ---- lists

parts_within : {A : Type 0} (P : A → Type 0) (part : A → List ℕ) (most count : ℕ) (xs : List A) → ((x : A) → P x → length (part x) ≤ most) → All P xs → length xs ≤ count
    → length (flat_map part xs) ≤ count * most
parts_within P part most count xs each all few =
    let l = length-flat_map part xs in
    let s = sum_by-le (λ x. length (part x)) most xs (All-weaker P (λ x. length (part x) ≤ most) each xs all) in
    let m : length xs * most ≤ count * most = grind arith in
    omega arith

-- ---- parts

pub blob_length : (bytes : List ℕ) → length (spell.blob bytes) ≡ 2 + length bytes
blob_length bytes = length-append (spell.u16 (length bytes)) bytes

pub name_within : (name : List ℕ) → IsName name → length (spell.str name) ≤ 514
name_within name h = omega (arith, blob_length (encode_utf8_all name), encoded_within name, h.0, h.1)

type_within : (t : Ty) → length (spell.type t) ≤ 3
type_within ty.Int = omega arith
type_within ty.BigInt = omega arith
type_within (ty.NVarChar most) = omega arith
type_within (ty.VarBinary most) = omega arith

encryption_within : (e : Enc) → length (spell.encryption e) ≤ 5
encryption_within enc.Plain = omega arith
encryption_within (enc.Det key) = omega arith
encryption_within (enc.Rnd key) = omega arith

atom_within : (a : AtomOf (List ℕ)) → IsAtom a → length (spell.atom a) ≤ 16387
atom_within Null h = omega arith
atom_within (Plain (Num n)) h = omega arith
atom_within (Plain (Text characters)) h = omega (arith, blob_length (encode_utf8_all characters), h.1)
atom_within (Plain (Bin bytes)) h = omega (arith, blob_length bytes, h.1)
atom_within (Sealed cell) h = omega (arith, blob_length cell, h.1)

pub atoms_within : (atoms : List (AtomOf (List ℕ))) → All IsAtom atoms → length atoms ≤ 512 → length (flat_map spell.atom atoms) ≤ 8390144
atoms_within atoms all few = parts_within IsAtom spell.atom 16387 512 atoms atom_within all few

declaration_within : (d : ParamDecl) → IsDeclaration d → length (spell.declaration d) ≤ 517
declaration_within d h = omega (arith, length-append (spell.str d.name) (spell.type d.ty), name_within d.name h.name.1.0, type_within d.ty)

sent_within : (p : SentParam) → IsSent p → length (spell.sent p) ≤ 16909
sent_within p h = omega (
  arith,
  length-append (spell.str p.name ++ spell.type p.ty ++ spell.encryption p.enc) (spell.atom p.atom),
  length-append (spell.str p.name ++ spell.type p.ty) (spell.encryption p.enc),
  length-append (spell.str p.name) (spell.type p.ty),
  name_within p.name h.name.1.0,
  type_within p.ty,
  encryption_within p.enc,
  atom_within p.atom h.atom,
)

used_within : (p : UsedParam) → IsUsed p → length (spell.used p) ≤ 519
used_within p h = omega (arith, length-append (spell.str p.name) (spell.encryption p.enc), name_within p.name h.name.1.0, encryption_within p.enc)

column_within : (c : SentColumn) → IsColumn c → length (spell.column c) ≤ 522
column_within c h = omega (
  arith,
  length-append (spell.str c.title ++ spell.type c.ty) (spell.encryption c.enc),
  length-append (spell.str c.title) (spell.type c.ty),
  blob_length (encode_utf8_all c.title),
  encoded_within c.title,
  h.title.1,
  type_within c.ty,
  encryption_within c.enc,
)

entry_within : (e : KeyEntry) → IsEntry e → length (spell.entry e) ≤ 2570
entry_within e h = omega (
  arith,
  length-append (spell.u32 e.id ++ spell.str e.name ++ spell.str e.value.path) (spell.blob e.value.wrapped),
  length-append (spell.u32 e.id ++ spell.str e.name) (spell.str e.value.path),
  length-append (spell.u32 e.id) (spell.str e.name),
  name_within e.name h.name.1,
  blob_length (encode_utf8_all e.value.path),
  h.path.1.1,
  blob_length e.value.wrapped,
  h.wrapped.1.1,
)

-- ---- counted lists

few_within : {A : Type 0} (P : A → Type 0) (part : A → List ℕ) (most count : ℕ) (xs : List A) → ((x : A) → P x → length (part x) ≤ most) → All P xs → length xs ≤ count
    → length (spell.few part xs) ≤ count * most + 1
few_within P part most count xs each all few = let p = parts_within P part most count xs each all few in omega arith

many_within : {A : Type 0} (P : A → Type 0) (part : A → List ℕ) (most count : ℕ) (xs : List A) → ((x : A) → P x → length (part x) ≤ most) → All P xs → length xs ≤ count
    → length (spell.many part xs) ≤ count * most + 2
many_within P part most count xs each all few =
    let p = parts_within P part most count xs each all few in
    let l = length-append (spell.u16 (length xs)) (flat_map part xs) in
    omega arith

keys_within : (keys : List KeyMeta) → All IsKey keys → length (entries_of keys) ≤ 128 → length (spell.keys keys) ≤ 328961
keys_within keys all few = few_within IsEntry spell.entry 2570 128 (entries_of keys) entry_within (entries_meet keys all) few

-- ---- faults

word_within : (name : List ℕ) → IsName name → length (spell.str name) ≤ 530
word_within name h = let n = name_within name h in omega (arith, n)

conflict_within : (a b n : ℕ) → a ≤ 514 → b ≡ 16 → n ≡ a + b → n ≤ 530
conflict_within a b n h e f = omega (arith, h, e, f)

fields_within : (f : SqlFault) → IsFault f → length (spell.fields f) ≤ 530
fields_within fault.Syntax h = omega arith
fields_within (fault.NumberTooWide at) h = omega arith
fields_within fault.TooDeep h = omega arith
fields_within fault.TooLong h = omega arith
fields_within (fault.NoTable name) h = word_within name h.1
fields_within (fault.NoColumn name) h = word_within name h.1
fields_within (fault.Ambiguous name) h = word_within name h.1
fields_within (fault.NoParam name) h = word_within name h.1.0
fields_within (fault.NoKey name) h = word_within name h.1
fields_within (fault.NotGrouped at) h = omega arith
fields_within (fault.TypeClash at) h = omega arith
fields_within (fault.EncryptionClash at) h = omega arith
fields_within (fault.Moved versions) h = omega (arith, length-append (spell.u64 versions.seen) (spell.u64 versions.now))
fields_within (fault.ParamClash name) h = word_within name h.1.0
fields_within (fault.BadCell name) h = word_within name h.1.0
fields_within fault.Overflow h = omega arith
fields_within (fault.NullNotAllowed name) h = word_within name h.1
fields_within (fault.Truncated name) h = word_within name h.1
fields_within fault.TooManyRows h = omega arith
fields_within fault.TableFull h = omega arith
fields_within (fault.DuplicateKey number) h = omega arith
fields_within (fault.Exists name) h = word_within name h.1
fields_within (fault.NoSuch name) h = word_within name h.1
fields_within (fault.KeyInUse name) h = word_within name h.1
fields_within fault.Full h = omega arith
fields_within (fault.Conflict table counts) h =
    let n = name_within table h.0.1 in
    let l = length-append (spell.str table) (spell.u64 counts.seen ++ spell.u64 counts.now) in
    let m : length (spell.u64 counts.seen ++ spell.u64 counts.now) ≡ 16 = omega (arith, length-append (spell.u64 counts.seen) (spell.u64 counts.now)) in
    conflict_within (length (spell.str table)) (length (spell.u64 counts.seen ++ spell.u64 counts.now)) _ n m l
fields_within fault.InTransaction h = omega arith
fields_within fault.NoTransaction h = omega arith

done_within : (d : Done) → length (spell.done d) ≤ 9
done_within Defined = omega arith
done_within (Changed count) = omega arith
done_within (Answered count) = omega arith

-- ---- messages

-- a body has at most 16,777,216 bytes
pub request_within : (request : Request) → IsRequest request → length (spell.request_body request) ≤ 16777216
request_within (Describe session characters declarations) h =
    let f = few_within IsDeclaration spell.declaration 517 128 declarations declaration_within h.2.0 h.2.1 in
    omega (
      arith,
      length-append (spell.u16 session ++ spell.text characters) (spell.few spell.declaration declarations),
      length-append (spell.u16 session) (spell.text characters),
      length-append (spell.u32 (length (encode_utf8_all characters))) (encode_utf8_all characters),
      h.1.1,
    )
request_within (Execute session version characters params) h =
    let f = few_within IsSent spell.sent 16909 128 params sent_within h.3.0 h.3.1 in
    omega (
      arith,
      length-append (spell.u16 session ++ spell.u64 version ++ spell.text characters) (spell.few spell.sent params),
      length-append (spell.u16 session ++ spell.u64 version) (spell.text characters),
      length-append (spell.u16 session) (spell.u64 version),
      length-append (spell.u32 (length (encode_utf8_all characters))) (encode_utf8_all characters),
      h.2.1,
    )

pub reply_within : (reply : Reply) → IsReply reply → length (spell.reply_body reply) ≤ 16777216
reply_within (Described d) h =
    let k = keys_within d.keys h.1 h.3.1 in
    let p = few_within IsUsed spell.used 519 128 d.params used_within h.2.0 h.2.1 in
    omega (
      arith,
      length-append (spell.u64 d.version ++ spell.keys d.keys) (spell.few spell.used d.params),
      length-append (spell.u64 d.version) (spell.keys d.keys),
    )
reply_within (Columns header) h =
    let k = keys_within header.keys h.0 h.2.0.1 in
    let c = many_within IsColumn spell.column 522 512 header.columns column_within h.1 h.2.1.1 in
    omega (arith, length-append (spell.keys header.keys) (spell.many spell.column header.columns))
reply_within (Row atoms) h = let a = many_within IsAtom spell.atom 16387 512 atoms atom_within h.0 h.1.1 in omega arith
reply_within (Ended what) h = omega (arith, done_within what)
reply_within (Refused f) h = omega (arith, fields_within f h)
