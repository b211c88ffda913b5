-- Whether the columns of two answers are alike.
use Rattle.std.specs.Prelude.{List, [], ◌∷◌, length, Some, None, Bool, true, false, ◌&&◌, ◌==◌, nat_le}
use Rattle.std.specs.Str.{bytes_eq}
use Rattle.ae_base.specs.declared.types.Ty.{Ty}
use Rattle.ae_base.specs.declared.types.Ty.TheVariants as ty
use Rattle.wire_messages.specs.declared.columns.SentColumn.{SentColumn}
use Rattle.conversation.specs.Turns.{Accepted}

abbrev pub is_same_type : Ty → Ty → Bool
is_same_type ty.Int ty.Int = true
is_same_type ty.BigInt ty.BigInt = true
is_same_type (ty.NVarChar n) (ty.NVarChar m) = n == m
is_same_type (ty.VarBinary n) (ty.VarBinary m) = n == m
is_same_type a b = false

abbrev pub is_same_column : SentColumn → SentColumn → Bool
is_same_column c d = bytes_eq c.title d.title && is_same_type c.ty d.ty

-- the same names and types, in order
abbrev pub are_same_columns : List SentColumn → List SentColumn → Bool
are_same_columns [] [] = true
are_same_columns [] (d ∷ ds) = false
are_same_columns (c ∷ cs) [] = false
are_same_columns (c ∷ cs) (d ∷ ds) = is_same_column c d && are_same_columns cs ds

-- both are there, the same, and at most 64, as a table has
abbrev pub are_alike : Accepted → Accepted → Bool
are_alike (Some olds) (Some news) = are_same_columns olds news && nat_le (length olds) 64
are_alike (Some olds) None = false
are_alike None news = false

abbrev pub columns_in : Accepted → List SentColumn
columns_in (Some columns) = columns
columns_in None = []
