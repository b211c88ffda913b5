-- What a server is asked by the texts of a rotation.
use Rattle.std.specs.Prelude.{◌≡◌, ◌≢◌, ◌≤◌, ℕ, List, [], ◌∷◌, ◌++◌, length, map, true, Some, Ok, Result}
use Rattle.ae_base.specs.Atoms.{Atom}
use Rattle.ae_base.specs.Names.{all_differ}
use Rattle.ae_base.specs.Results.{◌>>=◌}
use Rattle.ae_base.specs.declared.batches.Batch.{Batch}
use Rattle.ae_base.specs.declared.faults.SqlFault.{SqlFault}
use Rattle.ae_base.specs.declared.tables.TableDef.{TableDef}
use Rattle.ae_base.specs.declared.values.Value.{Value}
use Rattle.wire_messages.specs.declared.columns.SentColumn.{SentColumn}
use Rattle.wire_messages.specs.declared.params.SentParam.{SentParam}
use Rattle.catalog.specs.Catalogs.{Catalog, table_named}
use Rattle.engine.specs.Step.{Rows, Changed, Defined}
use Rattle.engine.specs.declared.answers.ResultColumn.{ResultColumn}
use Rattle.statement_analysis.specs.Params.{declaration_of}
use Rattle.transactions.specs.Rotating.{HasRotated}
use Rattle.transactions.specs.Serial.{Deed}
use Rattle.transactions.specs.Stores.{Ask, Begins, Commits, Executes, RollsBack}
use Rattle.server_core.specs.Serve.{ask_of, prepared}
use Rattle.column_rotate.specs.Texts.{begins, commits, rolls_back, puts, reads_all, replaces}
use Rattle.proper_value_laws.specs.Proper.{IsIdentifier}
use Rattle.rotation_laws.specs.Laws.{AreColumnsOf, AreIdentifiers, declared}

-- what a session asks by a batch, over a catalog and at its version
abbrev pub asked_by : Catalog → Batch → List SentParam → Result Ask SqlFault
asked_by catalog batch sent = prepared catalog catalog.version batch.text sent >>= λ ready. Ok (ask_of ready)

pub record AreControls (catalog : Catalog) : Type 0 where
  pub begun : asked_by catalog begins [] ≡ Ok Begins
  pub committed : asked_by catalog commits [] ≡ Ok Commits
  pub rolled_back : asked_by catalog rolls_back [] ≡ Ok RollsBack

-- what is executed where a batch is asked, with parameters as it declares them
pub record IsDeedOf (catalog : Catalog) (batch : Batch) (d : Deed) : Type 0 where
  pub sent : List SentParam
  pub declares : map declaration_of sent ≡ declared batch
  pub asks : asked_by catalog batch sent ≡ Ok (Executes d.execution)

-- ---- the batches of a rotation, as they are answered

pub record IsRead (catalog : Catalog) (table : List ℕ) (rows : List (List Atom)) (d : Deed) : Type 0 where
  pub deed : IsDeedOf catalog (reads_all table) d
  pub columns : List ResultColumn
  pub answer : d.answer ≡ Ok (Rows columns rows)

pub record IsRowPut (catalog : Catalog) (table : List ℕ) (columns : List SentColumn) (row : List Value) (d : Deed) : Type 0 where
  pub deed : IsDeedOf catalog (puts table columns row) d
  pub wide : length row ≡ length columns
  pub answer : d.answer ≡ Ok (Changed 1)

abbrev pub AreRowsPut : Catalog → List ℕ → List SentColumn → List (List Value) → List Deed → Type 0
AreRowsPut catalog table columns [] [] = Unit {0}
AreRowsPut catalog table columns [] (d ∷ deeds) = ⊥
AreRowsPut catalog table columns (row ∷ rows) [] = ⊥
AreRowsPut catalog table columns (row ∷ rows) (d ∷ deeds) = IsRowPut catalog table columns row d × AreRowsPut catalog table columns rows deeds

pub record IsSwap (catalog : Catalog) (old new : List ℕ) (d : Deed) : Type 0 where
  pub deed : IsDeedOf catalog (replaces old new) d
  pub answer : d.answer ≡ Ok Defined

-- the new table was read and is empty, the old one was read, the rows were put, and the table was replaced
pub record AreDeedsOf (catalog : Catalog) (old new : List ℕ) (columns : List SentColumn) (rows : List (List Value)) (read : List (List Atom)) (log : List Deed) : Type 0 where
  pub empty : Deed
  pub whole : Deed
  pub moved : List Deed
  pub swap : Deed
  pub is : log ≡ empty ∷ whole ∷ moved ++ swap ∷ []
  pub nothing : IsRead catalog new [] empty
  pub all : IsRead catalog old read whole
  pub put : AreRowsPut catalog new columns rows moved
  pub replaced : IsSwap catalog old new swap

-- a catalog has both tables, each with these columns, whose names differ
pub record HasBoth (catalog : Catalog) (old new : List ℕ) (columns : List SentColumn) : Type 0 where
  pub from : TableDef
  pub into : TableDef
  pub old_there : table_named catalog old ≡ Some from
  pub new_there : table_named catalog new ≡ Some into
  pub old_columns : AreColumnsOf columns from
  pub new_columns : AreColumnsOf columns into
  pub apart : all_differ (map (λ c. c.title) columns) ≡ true
  pub some : 1 ≤ length columns
  pub few : length columns ≤ 64
  pub old_named : IsIdentifier old
  pub new_named : IsIdentifier new
  pub columns_named : AreIdentifiers columns
  pub two : old ≢ new

-- then the deeds of its batches are those of a transaction that has rotated the tables, with the same rows put
pub record RotationTextsMean : Type 0 where
  pub controls : (catalog : Catalog) → AreControls catalog
  pub rotated : (catalog : Catalog) (old new : List ℕ) (columns : List SentColumn) (rows : List (List Value)) (read : List (List Atom)) (log : List Deed)
      → HasBoth catalog old new columns → (deeds : AreDeedsOf catalog old new columns rows read log) → (r : HasRotated old new (length columns) read log) × (r.puts ≡ deeds.moved)
