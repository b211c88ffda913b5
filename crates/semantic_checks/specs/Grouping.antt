-- The items and columns that aren't grouped, at their first tokens.
use Rattle.std.specs.Prelude.{ℕ, List, [], ◌∷◌, ◌++◌, length, Bool, true, false, ◌||◌, not, ◌==◌, if◌then◌else◌, is_some}
use Rattle.std.specs.List.{flat_map, list_any}
use Rattle.sql_tree.specs.declared.bound.PlaceAt.{PlaceAt}
use Rattle.sql_tree.specs.declared.bound.BoundOrderKey.{BoundOrderKey}
use Rattle.sql_tree.specs.Operands.{Operand, place_of}
use Rattle.sql_tree.specs.Operands as operands
use Rattle.sql_tree.specs.Bound.{BoundItemValue, BoundItem, BoundQuery, BoundStatement, Bound}
use Rattle.sql_tree.specs.Bound as bound

abbrev pub value_counts : BoundItemValue → Bool
value_counts (bound.Value operand) = false
value_counts (bound.Count at) = true

abbrev pub counts : BoundItem → Bool
counts item = value_counts item.value

-- a query groups its rows with GROUP BY or COUNT( * )
abbrev pub groups : BoundQuery → Bool
groups q = not (length q.group_by == 0) || list_any counts q.items

abbrev pub is_key : ℕ → PlaceAt → Bool
is_key place key = key.place == place

-- then an item is COUNT( * ) or a column of GROUP BY
abbrev pub operand_ungrouped : List PlaceAt → Operand ℕ ℕ → List ℕ
operand_ungrouped keys (operands.Literal at v) = at ∷ []
operand_ungrouped keys (operands.Param at param) = at ∷ []
operand_ungrouped keys (operands.Column at place) = if list_any (is_key place) keys then [] else at ∷ []
operand_ungrouped keys (operands.Minus at operand) = at ∷ []
operand_ungrouped keys (operands.Sum first terms) = place_of first ∷ []

abbrev pub value_ungrouped : List PlaceAt → BoundItemValue → List ℕ
value_ungrouped keys (bound.Value operand) = operand_ungrouped keys operand
value_ungrouped keys (bound.Count at) = []

abbrev pub item_ungrouped : List PlaceAt → BoundItem → List ℕ
item_ungrouped keys item = value_ungrouped keys item.value

-- with GROUP BY, COUNT( * ) or DISTINCT a column of ORDER BY is a selected one
abbrev pub operand_selects : ℕ → Operand ℕ ℕ → Bool
operand_selects place (operands.Column at column) = column == place
operand_selects place other = false

abbrev pub value_selects : ℕ → BoundItemValue → Bool
value_selects place (bound.Value operand) = operand_selects place operand
value_selects place (bound.Count at) = false

abbrev pub selects : ℕ → BoundItem → Bool
selects place item = value_selects place item.value

abbrev pub key_unselected : List BoundItem → BoundOrderKey → List ℕ
key_unselected items key = if list_any (selects key.place) items then [] else key.at ∷ []

abbrev pub query_ungrouped : BoundQuery → List ℕ
query_ungrouped q =
    (if groups q then flat_map (item_ungrouped q.group_by) q.items else []) ++
    (if groups q || is_some q.distinct then flat_map (key_unselected q.items) q.order_by else [])

abbrev pub statement_ungrouped : BoundStatement → List ℕ
statement_ungrouped (bound.Definition d) = []
statement_ungrouped (bound.Insert insert) = []
statement_ungrouped (bound.Update update) = []
statement_ungrouped (bound.Delete delete) = []
statement_ungrouped (bound.Select query) = query_ungrouped query
statement_ungrouped (bound.Control control) = []

abbrev pub ungrouped_places : Bound → List ℕ
ungrouped_places bound = statement_ungrouped bound.statement
