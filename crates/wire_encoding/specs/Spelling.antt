-- The one spelling of each request and of each reply: a version byte, a kind, the length of the body in four bytes, and the
-- body. All numbers are big-endian.
use Rattle.std.specs.Prelude.{◌≡◌, ℕ, List, [], ◌∷◌, ◌++◌, length, flat_map, encode_utf8_all}
use Rattle.std.specs.Int.{w16, w32, w64, to_be_bytes, cast_unsigned}
use Rattle.ae_base.specs.Faults.{code_of}
use Rattle.ae_base.specs.Versions.{ChangeCounts}
use Rattle.ae_base.specs.declared.types.Ty.{Ty}
use Rattle.ae_base.specs.declared.types.Ty.TheVariants as ty
use Rattle.ae_base.specs.declared.types.Enc.{Enc}
use Rattle.ae_base.specs.declared.types.Enc.TheVariants as enc
use Rattle.ae_base.specs.declared.values.Datum.TheVariants.{Num, Text, Bin}
use Rattle.ae_base.specs.declared.atoms.AtomOf.{AtomOf}
use Rattle.ae_base.specs.declared.atoms.AtomOf.TheVariants.{Null, Plain, Sealed}
use Rattle.ae_base.specs.declared.batches.ParamDecl.{ParamDecl}
use Rattle.ae_base.specs.declared.frames.FrameVersion.{FrameVersion}
use Rattle.ae_base.specs.declared.frames.FrameVersion.TheVariants.{V1, V2}
use Rattle.ae_base.specs.declared.keys.KeyMeta.{KeyMeta}
use Rattle.ae_base.specs.declared.faults.SqlFault.{SqlFault}
use Rattle.ae_base.specs.declared.faults.SqlFault.TheVariants as fault
use Rattle.wire_messages.specs.Conditions.{IsRequest}
use Rattle.wire_messages.specs.KeyLists.{entries_of}
use Rattle.wire_messages.specs.declared.columns.SentColumn.{SentColumn}
use Rattle.wire_messages.specs.declared.key_entries.KeyEntry.{KeyEntry}
use Rattle.wire_messages.specs.declared.params.SentParam.{SentParam}
use Rattle.wire_messages.specs.declared.params.UsedParam.{UsedParam}
use Rattle.wire_messages.specs.declared.replies.Done.{Done}
use Rattle.wire_messages.specs.declared.replies.Done.TheVariants.{Defined, Changed, Answered}
use Rattle.wire_messages.specs.declared.replies.Reply.{Reply}
use Rattle.wire_messages.specs.declared.replies.Reply.TheVariants.{Described, Columns, Row, Ended, Refused}
use Rattle.wire_messages.specs.declared.requests.Request.{Request}
use Rattle.wire_messages.specs.declared.requests.Request.TheVariants.{Describe, Execute}
use Rattle.wire_payloads.specs.declared.versioned.Versioned.{Versioned}

abbrev pub u16 : ℕ → List ℕ
u16 n = to_be_bytes w16 n

abbrev pub u32 : ℕ → List ℕ
u32 n = to_be_bytes w32 n

abbrev pub u64 : ℕ → List ℕ
u64 n = to_be_bytes w64 n

-- ---- parts

-- a length in two bytes, and that many bytes
abbrev pub blob : List ℕ → List ℕ
blob bytes = u16 (length bytes) ++ bytes

-- a text of that form, in UTF-8
abbrev pub str : List ℕ → List ℕ
str characters = blob (encode_utf8_all characters)

-- a statement's text: a length in four bytes, and UTF-8
abbrev pub text : List ℕ → List ℕ
text characters = let bytes = encode_utf8_all characters in u32 (length bytes) ++ bytes

abbrev pub type : Ty → List ℕ
type ty.Int = 1 ∷ []
type ty.BigInt = 2 ∷ []
type (ty.NVarChar most) = 3 ∷ u16 most
type (ty.VarBinary most) = 4 ∷ u16 most

abbrev pub encryption : Enc → List ℕ
encryption enc.Plain = 0 ∷ []
encryption (enc.Det key) = 1 ∷ u32 key
encryption (enc.Rnd key) = 2 ∷ u32 key

abbrev pub atom : AtomOf (List ℕ) → List ℕ
atom Null = 0 ∷ []
atom (Plain (Num n)) = 1 ∷ u64 (cast_unsigned w64 n)
atom (Plain (Text characters)) = 2 ∷ str characters
atom (Plain (Bin bytes)) = 3 ∷ blob bytes
atom (Sealed cell) = 4 ∷ blob cell

abbrev pub entry : KeyEntry → List ℕ
entry e = u32 e.id ++ str e.name ++ str e.value.path ++ blob e.value.wrapped

abbrev pub declaration : ParamDecl → List ℕ
declaration d = str d.name ++ type d.ty

abbrev pub sent : SentParam → List ℕ
sent p = str p.name ++ type p.ty ++ encryption p.enc ++ atom p.atom

abbrev pub used : UsedParam → List ℕ
used p = str p.name ++ encryption p.enc

abbrev pub column : SentColumn → List ℕ
column c = str c.title ++ type c.ty ++ encryption c.enc

-- a count in one byte, or in two, and so many parts
abbrev pub few : {A : Type 0} → (A → List ℕ) → List A → List ℕ
few part xs = length xs ∷ flat_map part xs

abbrev pub many : {A : Type 0} → (A → List ℕ) → List A → List ℕ
many part xs = u16 (length xs) ++ flat_map part xs

-- keys are listed value by value
abbrev pub keys : List KeyMeta → List ℕ
keys ks = few entry (entries_of ks)

-- a table's name, and how its change count rose
abbrev pub conflict : List ℕ → ChangeCounts → List ℕ
conflict table counts = str table ++ (u64 counts.seen ++ u64 counts.now)

-- a fault's fields follow its code
abbrev pub fields : SqlFault → List ℕ
fields fault.Syntax = []
fields (fault.NumberTooWide at) = u32 at
fields fault.TooDeep = []
fields fault.TooLong = []
fields (fault.NoTable name) = str name
fields (fault.NoColumn name) = str name
fields (fault.Ambiguous name) = str name
fields (fault.NoParam name) = str name
fields (fault.NoKey name) = str name
fields (fault.NotGrouped at) = u32 at
fields (fault.TypeClash at) = u32 at
fields (fault.EncryptionClash at) = u32 at
fields (fault.Moved versions) = u64 versions.seen ++ u64 versions.now
fields (fault.ParamClash name) = str name
fields (fault.BadCell name) = str name
fields fault.Overflow = []
fields (fault.NullNotAllowed name) = str name
fields (fault.Truncated name) = str name
fields fault.TooManyRows = []
fields fault.TableFull = []
fields (fault.DuplicateKey number) = number ∷ []
fields (fault.Exists name) = str name
fields (fault.NoSuch name) = str name
fields (fault.KeyInUse name) = str name
fields fault.Full = []
fields (fault.Conflict table counts) = conflict table counts
fields fault.InTransaction = []
fields fault.NoTransaction = []

abbrev pub done : Done → List ℕ
done Defined = 0 ∷ u64 0
done (Changed count) = 1 ∷ u64 count
done (Answered count) = 2 ∷ u64 count

-- ---- messages

abbrev pub request_kind : Request → ℕ
request_kind (Describe session characters declarations) = 0x01
request_kind (Execute session version characters params) = 0x02

abbrev pub request_body : Request → List ℕ
request_body (Describe session characters declarations) = u16 session ++ text characters ++ few declaration declarations
request_body (Execute session version characters params) = u16 session ++ u64 version ++ text characters ++ few sent params

abbrev pub reply_kind : Reply → ℕ
reply_kind (Described d) = 0x81
reply_kind (Columns h) = 0x82
reply_kind (Row atoms) = 0x83
reply_kind (Ended what) = 0x84
reply_kind (Refused f) = 0x85

abbrev pub reply_body : Reply → List ℕ
reply_body (Described d) = u64 d.version ++ keys d.keys ++ few used d.params
reply_body (Columns h) = keys h.keys ++ many column h.columns
reply_body (Row atoms) = many atom atoms
reply_body (Ended what) = done what
reply_body (Refused f) = code_of f ∷ fields f

abbrev pub version_byte : FrameVersion → ℕ
version_byte V1 = 0x01
version_byte V2 = 0x02

-- a frame: version, kind, length and body
abbrev pub frame : FrameVersion → ℕ → List ℕ → List ℕ
frame version kind body = version_byte version ∷ kind ∷ u32 (length body) ++ body

abbrev pub request_frame : FrameVersion → Request → List ℕ
request_frame version request = frame version (request_kind request) (request_body request)

abbrev pub reply_frame : FrameVersion → Reply → List ℕ
reply_frame version reply = frame version (reply_kind reply) (reply_body reply)

-- the frame of a request in its version
abbrev pub asked_frame : Versioned Request → List ℕ
asked_frame asked = request_frame asked.version asked.message

-- it is a request that meets its conditions
abbrev pub SpellsRequest : Versioned Request → List ℕ → Type 0
SpellsRequest asked bytes = IsRequest asked.message × (bytes ≡ asked_frame asked)
