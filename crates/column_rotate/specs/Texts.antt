-- The batches of a rotation, with their texts.
use Rattle.std.specs.Prelude.{ℕ, ◌+◌, List, [], ◌∷◌, ◌++◌, flat_map, codes, decimal, ◌==◌, if◌then◌else◌}
use Rattle.ae_base.specs.declared.batches.Batch.{Batch}
use Rattle.ae_base.specs.declared.batches.Param.{Param}
use Rattle.ae_base.specs.declared.values.Value.{Value}
use Rattle.wire_messages.specs.declared.columns.SentColumn.{SentColumn}

-- a name stands in brackets, and a closing bracket in it twice
abbrev pub bracketed_char : ℕ → List ℕ
bracketed_char c = if c == 93 then 93 ∷ 93 ∷ [] else c ∷ []

abbrev pub in_brackets : List ℕ → List ℕ
in_brackets name = codes "[" ++ flat_map bracketed_char name ++ codes "]"

-- each with a comma before it
abbrev pub more_names : List SentColumn → List ℕ
more_names columns = flat_map (λ c. codes ", " ++ in_brackets c.title) columns

abbrev pub names : List SentColumn → List ℕ
names [] = []
names (column ∷ columns) = in_brackets column.title ++ more_names columns

-- the parameter of a column, counted from 1
abbrev pub param_name : ℕ → List ℕ
param_name n = codes "c" ++ decimal n

abbrev pub more_placeholders : ℕ → List SentColumn → List ℕ
more_placeholders n [] = []
more_placeholders n (column ∷ columns) = (codes ", @" ++ param_name n) ++ more_placeholders (n + 1) columns

abbrev pub placeholders : List SentColumn → List ℕ
placeholders [] = []
placeholders (column ∷ columns) = (codes "@" ++ param_name 1) ++ more_placeholders 2 columns

-- each column's value under its type
abbrev pub params_from : ℕ → List SentColumn → List Value → List Param
params_from n [] values = []
params_from n (column ∷ columns) [] = []
params_from n (column ∷ columns) (v ∷ values) =
    record { declaration = record { name = param_name n; ty = column.ty }; value = v } ∷ params_from (n + 1) columns values

-- ---- the batches, none with a forced parameter

abbrev pub batch_of : List ℕ → List Param → Batch
batch_of text params = record { text = text; params = params; forced = [] }

abbrev pub begins : Batch
begins = batch_of (codes "BEGIN TRANSACTION") []

abbrev pub commits : Batch
commits = batch_of (codes "COMMIT") []

abbrev pub rolls_back : Batch
rolls_back = batch_of (codes "ROLLBACK") []

abbrev pub reads_all : List ℕ → Batch
reads_all table = batch_of (codes "SELECT * FROM " ++ in_brackets table) []

abbrev pub insert_text : List ℕ → List SentColumn → List ℕ
insert_text table columns =
    codes "INSERT INTO " ++ in_brackets table ++ codes " (" ++ names columns ++ codes ") VALUES (" ++ placeholders columns ++ codes ")"

abbrev pub puts : List ℕ → List SentColumn → List Value → Batch
puts table columns values = batch_of (insert_text table columns) (params_from 1 columns values)

abbrev pub replaces : (old new : List ℕ) → Batch
replaces old new = batch_of (codes "ALTER TABLE " ++ in_brackets old ++ codes " REPLACE BY " ++ in_brackets new) []
