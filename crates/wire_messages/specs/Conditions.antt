-- What each message meets, beside its form. Every value of the types of messages meets it.
use Rattle.std.specs.Prelude.{◌≢◌, ◌<◌, ◌≤◌, ℕ, List, length, map, IsTrue, FitsSigned, ◌^◌}
use Rattle.std.specs.Int.{w64}
use Rattle.std.specs.List.{All}
use Rattle.std.specs.Str.{all_scalars}
use Rattle.ae_base.specs.Keys.{IsKeyPath, IsWrappedKey}
use Rattle.ae_base.specs.Names.{IsName, IsParamName, IsTitle, all_differ}
use Rattle.ae_base.specs.Sessions.{IsSession}
use Rattle.ae_base.specs.Types.{IsType}
use Rattle.ae_base.specs.Versions.{ChangeCounts, IsUniqueNumber}
use Rattle.ae_base.specs.declared.types.Enc.{Enc}
use Rattle.ae_base.specs.declared.types.Enc.TheVariants as enc
use Rattle.ae_base.specs.declared.values.Datum.TheVariants.{Num, Text, Bin}
use Rattle.ae_base.specs.declared.atoms.AtomOf.{AtomOf}
use Rattle.ae_base.specs.declared.atoms.AtomOf.TheVariants.{Null, Plain, Sealed}
use Rattle.ae_base.specs.declared.batches.ParamDecl.{ParamDecl}
use Rattle.ae_base.specs.declared.keys.KeyMeta.{KeyMeta}
use Rattle.ae_base.specs.declared.faults.SqlFault.{SqlFault}
use Rattle.ae_base.specs.declared.faults.SqlFault.TheVariants as fault
use Rattle.wire_parts.specs.AtomBounds.{IsSendable}
use Rattle.wire_messages.specs.KeyLists.{entries_of_key}
use Rattle.wire_messages.specs.Messages.{IsDescription, IsHeader, IsFew}
use Rattle.wire_parts.specs.Texts.{IsStatementText}
use Rattle.wire_messages.specs.declared.columns.SentColumn.{SentColumn}
use Rattle.wire_messages.specs.declared.key_entries.KeyEntry.{KeyEntry}
use Rattle.wire_messages.specs.declared.params.SentParam.{SentParam}
use Rattle.wire_messages.specs.declared.params.UsedParam.{UsedParam}
use Rattle.wire_messages.specs.declared.replies.Done.{Done}
use Rattle.wire_messages.specs.declared.replies.Done.TheVariants.{Defined, Changed, Answered}
use Rattle.wire_messages.specs.declared.replies.Reply.{Reply}
use Rattle.wire_messages.specs.declared.replies.Reply.TheVariants.{Described, Columns, Row, Ended, Refused}
use Rattle.wire_messages.specs.declared.requests.Request.{Request}
use Rattle.wire_messages.specs.declared.requests.Request.TheVariants.{Describe, Execute}

-- ---- parts

abbrev pub IsBytes : List ℕ → Type 0
IsBytes bytes = All (λ byte. byte < 256) bytes

-- a text of Unicode scalar values
abbrev pub IsScalars : List ℕ → Type 0
IsScalars characters = IsTrue (all_scalars characters)

abbrev pub IsStatement : List ℕ → Type 0
IsStatement characters = IsScalars characters × IsStatementText characters

abbrev pub IsWord : List ℕ → Type 0
IsWord name = IsScalars name × IsName name

abbrev pub IsParamWord : List ℕ → Type 0
IsParamWord name = IsScalars name × IsParamName name

abbrev pub IsTitleText : List ℕ → Type 0
IsTitleText title = IsScalars title × IsTitle title

abbrev pub IsPath : List ℕ → Type 0
IsPath path = IsScalars path × IsKeyPath path

abbrev pub IsWrapped : List ℕ → Type 0
IsWrapped bytes = IsBytes bytes × IsWrappedKey bytes

-- keys are numbered from 1
abbrev pub IsKeyId : ℕ → Type 0
IsKeyId id = (1 ≤ id) × (id < 2 ^ 32)

abbrev pub IsEnc : Enc → Type 0
IsEnc enc.Plain = Unit {0}
IsEnc (enc.Det key) = IsKeyId key
IsEnc (enc.Rnd key) = IsKeyId key

-- of numbers, characters and bytes
abbrev pub IsProperAtom : AtomOf (List ℕ) → Type 0
IsProperAtom Null = Unit {0}
IsProperAtom (Plain (Num n)) = FitsSigned w64 n
IsProperAtom (Plain (Text characters)) = IsScalars characters
IsProperAtom (Plain (Bin bytes)) = IsBytes bytes
IsProperAtom (Sealed cell) = IsBytes cell

abbrev pub IsAtom : AtomOf (List ℕ) → Type 0
IsAtom a = IsProperAtom a × IsSendable a

pub record IsEntry (e : KeyEntry) : Type 0 where
  pub id : IsKeyId e.id
  pub name : IsWord e.name
  pub path : IsPath e.value.path
  pub wrapped : IsWrapped e.value.wrapped

-- with each of its values
abbrev pub IsKey : KeyMeta → Type 0
IsKey key = All IsEntry (entries_of_key key)

-- ---- faults

-- a table's name, and a change count that rose
abbrev pub IsConflict : List ℕ → ChangeCounts → Type 0
IsConflict table counts = IsWord table × ((counts.seen < 2 ^ 64) × (counts.now < 2 ^ 64) × (counts.seen < counts.now))

abbrev pub IsFault : SqlFault → Type 0
IsFault fault.Syntax = Unit {0}
IsFault (fault.NumberTooWide at) = at < 2 ^ 32
IsFault fault.TooDeep = Unit {0}
IsFault fault.TooLong = Unit {0}
IsFault (fault.NoTable name) = IsWord name
IsFault (fault.NoColumn name) = IsWord name
IsFault (fault.Ambiguous name) = IsWord name
IsFault (fault.NoParam name) = IsParamWord name
IsFault (fault.NoKey name) = IsWord name
IsFault (fault.NotGrouped at) = at < 2 ^ 32
IsFault (fault.TypeClash at) = at < 2 ^ 32
IsFault (fault.EncryptionClash at) = at < 2 ^ 32
IsFault (fault.Moved versions) = (versions.seen < 2 ^ 64) × (versions.now < 2 ^ 64) × (versions.seen ≢ versions.now)
IsFault (fault.ParamClash name) = IsParamWord name
IsFault (fault.BadCell name) = IsParamWord name
IsFault fault.Overflow = Unit {0}
IsFault (fault.NullNotAllowed name) = IsWord name
IsFault (fault.Truncated name) = IsWord name
IsFault fault.TooManyRows = Unit {0}
IsFault fault.TableFull = Unit {0}
IsFault (fault.DuplicateKey number) = IsUniqueNumber number
IsFault (fault.Exists name) = IsWord name
IsFault (fault.NoSuch name) = IsWord name
IsFault (fault.KeyInUse name) = IsWord name
IsFault fault.Full = Unit {0}
IsFault (fault.Conflict table counts) = IsConflict table counts
IsFault fault.InTransaction = Unit {0}
IsFault fault.NoTransaction = Unit {0}

-- ---- lists

pub record IsDeclaration (d : ParamDecl) : Type 0 where
  pub name : IsParamWord d.name
  pub ty : IsType d.ty

pub record IsSent (p : SentParam) : Type 0 where
  pub name : IsParamWord p.name
  pub ty : IsType p.ty
  pub enc : IsEnc p.enc
  pub atom : IsAtom p.atom

pub record IsUsed (p : UsedParam) : Type 0 where
  pub name : IsParamWord p.name
  pub enc : IsEnc p.enc

pub record IsColumn (c : SentColumn) : Type 0 where
  pub title : IsTitleText c.title
  pub ty : IsType c.ty
  pub enc : IsEnc c.enc

-- at most 128 parameters, whose names differ
abbrev pub AreParams : {P : Type 0} → (P → Type 0) → (P → List ℕ) → List P → Type 0
AreParams Is called ps = All Is ps × (length ps ≤ 128) × IsTrue (all_differ (map called ps))

-- ---- messages

abbrev pub IsRequest : Request → Type 0
IsRequest (Describe session text declarations) = IsSession session × IsStatement text × AreParams IsDeclaration (λ d. d.name) declarations
IsRequest (Execute session version text params) = IsSession session × (version < 2 ^ 64) × IsStatement text × AreParams IsSent (λ p. p.name) params

abbrev pub IsDone : Done → Type 0
IsDone Defined = Unit {0}
IsDone (Changed count) = count < 2 ^ 64
IsDone (Answered count) = count < 2 ^ 64

abbrev pub IsReply : Reply → Type 0
IsReply (Described d) = (d.version < 2 ^ 64) × All IsKey d.keys × AreParams IsUsed (λ p. p.name) d.params × IsDescription d
IsReply (Columns h) = All IsKey h.keys × All IsColumn h.columns × IsHeader h
IsReply (Row atoms) = All IsAtom atoms × IsFew atoms
IsReply (Ended done) = IsDone done
IsReply (Refused f) = IsFault f
