-- The statement that the next word tells.
use Rattle.std.proofs.Common.{◌≡◌, Bool, true, false, List, [], ◌∷◌, ◌∙◌}
use Rattle.sql_tree.specs.declared.lexemes.Keyword.{Keyword}
use Rattle.sql_tree.specs.declared.lexemes.Keyword.TheVariants as keyword
use Rattle.sql_tree.specs.declared.lexemes.Token.{Token}
use Rattle.sql_tree.specs.Statements.{Statement}
use Rattle.sql_grammar.specs.Readers.{Reading, next_among, choice_by}
use Rattle.sql_grammar.specs.Readers as terminal
use Rattle.sql_grammar.specs.Parse.{create, alter, drop, insert, update, delete, select, begin, commit, rollback, control, body}
use Rattle.sql_expressions.proofs.Interface.{here, away}

abbrev is_next : Keyword → List Token → Bool
is_next k = next_among (terminal.Word k ∷ [])

abbrev or_select : Reading Statement
or_select = choice_by (is_next keyword.Select) select control

abbrev or_delete : Reading Statement
or_delete = choice_by (is_next keyword.Delete) delete or_select

abbrev or_update : Reading Statement
or_update = choice_by (is_next keyword.Update) update or_delete

abbrev or_insert : Reading Statement
or_insert = choice_by (is_next keyword.Insert) insert or_update

abbrev or_drop : Reading Statement
or_drop = choice_by (is_next keyword.Drop) drop or_insert

abbrev or_alter : Reading Statement
or_alter = choice_by (is_next keyword.Alter) alter or_drop

pub is_create : (tokens : List Token) → is_next keyword.Create tokens ≡ true → body tokens ≡ create tokens
is_create tokens c = here (is_next keyword.Create) create or_alter tokens c

pub is_alter : (tokens : List Token) → is_next keyword.Create tokens ≡ false → is_next keyword.Alter tokens ≡ true → body tokens ≡ alter tokens
is_alter tokens c a = away (is_next keyword.Create) create or_alter tokens c ∙ here (is_next keyword.Alter) alter or_drop tokens a

pub is_drop : (tokens : List Token) → is_next keyword.Create tokens ≡ false → is_next keyword.Alter tokens ≡ false → is_next keyword.Drop tokens ≡ true → body tokens ≡ drop tokens
is_drop tokens c a d = away (is_next keyword.Create) create or_alter tokens c ∙ away (is_next keyword.Alter) alter or_drop tokens a ∙ here (is_next keyword.Drop) drop or_insert tokens d

changes : (tokens : List Token) → is_next keyword.Create tokens ≡ false → is_next keyword.Alter tokens ≡ false → is_next keyword.Drop tokens ≡ false → body tokens ≡ or_insert tokens
changes tokens c a d = away (is_next keyword.Create) create or_alter tokens c ∙ away (is_next keyword.Alter) alter or_drop tokens a ∙ away (is_next keyword.Drop) drop or_insert tokens d

pub is_insert : (tokens : List Token) → is_next keyword.Create tokens ≡ false → is_next keyword.Alter tokens ≡ false
    → is_next keyword.Drop tokens ≡ false → is_next keyword.Insert tokens ≡ true → body tokens ≡ insert tokens
is_insert tokens c a d i = changes tokens c a d ∙ here (is_next keyword.Insert) insert or_update tokens i

pub is_update : (tokens : List Token) → is_next keyword.Create tokens ≡ false → is_next keyword.Alter tokens ≡ false
    → is_next keyword.Drop tokens ≡ false → is_next keyword.Insert tokens ≡ false → is_next keyword.Update tokens ≡ true
    → body tokens ≡ update tokens
is_update tokens c a d i u = changes tokens c a d ∙ away (is_next keyword.Insert) insert or_update tokens i ∙ here (is_next keyword.Update) update or_delete tokens u

pub is_delete : (tokens : List Token) → is_next keyword.Create tokens ≡ false → is_next keyword.Alter tokens ≡ false
    → is_next keyword.Drop tokens ≡ false → is_next keyword.Insert tokens ≡ false → is_next keyword.Update tokens ≡ false
    → is_next keyword.Delete tokens ≡ true → body tokens ≡ delete tokens
is_delete tokens c a d i u l = changes tokens c a d ∙ away (is_next keyword.Insert) insert or_update tokens i
    ∙ away (is_next keyword.Update) update or_delete tokens u ∙ here (is_next keyword.Delete) delete or_select tokens l

-- no statement that defines or changes
asks : (tokens : List Token) → is_next keyword.Create tokens ≡ false → is_next keyword.Alter tokens ≡ false
    → is_next keyword.Drop tokens ≡ false → is_next keyword.Insert tokens ≡ false → is_next keyword.Update tokens ≡ false
    → is_next keyword.Delete tokens ≡ false → body tokens ≡ or_select tokens
asks tokens c a d i u l = changes tokens c a d ∙ away (is_next keyword.Insert) insert or_update tokens i ∙ away
    (is_next keyword.Update) update or_delete tokens u ∙ away (is_next keyword.Delete) delete or_select tokens l

pub is_select : (tokens : List Token) → is_next keyword.Create tokens ≡ false → is_next keyword.Alter tokens ≡ false
    → is_next keyword.Drop tokens ≡ false → is_next keyword.Insert tokens ≡ false → is_next keyword.Update tokens ≡ false
    → is_next keyword.Delete tokens ≡ false → is_next keyword.Select tokens ≡ true → body tokens ≡ select tokens
is_select tokens c a d i u l s = asks tokens c a d i u l ∙ here (is_next keyword.Select) select control tokens s

pub is_control : (tokens : List Token) → is_next keyword.Create tokens ≡ false → is_next keyword.Alter tokens ≡ false
    → is_next keyword.Drop tokens ≡ false → is_next keyword.Insert tokens ≡ false → is_next keyword.Update tokens ≡ false
    → is_next keyword.Delete tokens ≡ false → is_next keyword.Select tokens ≡ false → body tokens ≡ control tokens
is_control tokens c a d i u l s = asks tokens c a d i u l ∙ away (is_next keyword.Select) select control tokens s

-- ---- of a transaction

abbrev or_commit : Reading Statement
or_commit = choice_by (is_next keyword.Commit) commit rollback

pub is_begin : (tokens : List Token) → is_next keyword.Begin tokens ≡ true → control tokens ≡ begin tokens
is_begin tokens b = here (is_next keyword.Begin) begin or_commit tokens b

pub is_commit : (tokens : List Token) → is_next keyword.Begin tokens ≡ false → is_next keyword.Commit tokens ≡ true → control tokens ≡ commit tokens
is_commit tokens b c = away (is_next keyword.Begin) begin or_commit tokens b ∙ here (is_next keyword.Commit) commit rollback tokens c

pub is_rollback : (tokens : List Token) → is_next keyword.Begin tokens ≡ false → is_next keyword.Commit tokens ≡ false → control tokens ≡ rollback tokens
is_rollback tokens b c = away (is_next keyword.Begin) begin or_commit tokens b ∙ away (is_next keyword.Commit) commit rollback tokens c
