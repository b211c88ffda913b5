-- Sets of kinds of tokens: what is in one is not in another, or is in another too.
use Rattle.std.proofs.Common.{◌≡◌, Bool, true, false, not, ◌&&◌, ◌||◌, List, [], ◌∷◌, ◌++◌, refl, sym, ◌∙◌, ap}
use Rattle.std.specs.List.{list_all}
use Rattle.std.proofs.lemmas.Bool.{or_parts, and_parts}
use denote.Enum.Bare.{same_true}
use Rattle.sql_tree.specs.contracts.lexemes.Keyword as the_keyword
use Rattle.sql_tree.specs.contracts.lexemes.Symbol as the_symbol
use Rattle.sql_tree.specs.declared.lexemes.Keyword.{Keyword}
use Rattle.sql_tree.specs.declared.lexemes.Symbol.{Symbol}
use Rattle.sql_tree.specs.declared.lexemes.Lexeme.{Lexeme}
use Rattle.sql_tree.specs.declared.lexemes.Lexeme.TheVariants as lexeme
use Rattle.sql_tree.specs.declared.lexemes.Token.{Token}
use Rattle.sql_grammar.specs.Readers.{Terminal, matches, member, next_among, is_keyword, is_symbol}
use Rattle.sql_grammar.specs.Readers as terminal

-- a lexeme of a kind
abbrev pub lexeme_of : Terminal → Lexeme
lexeme_of (terminal.Word k) = lexeme.Keyword k
lexeme_of (terminal.Sign s) = lexeme.Symbol s
lexeme_of terminal.Ident = lexeme.Ident []
lexeme_of terminal.Param = lexeme.Param []
lexeme_of terminal.Number = lexeme.Number 0
lexeme_of terminal.Binary = lexeme.Binary []
lexeme_of terminal.Text = lexeme.Text []

keyword_only : (k : Keyword) (m : Lexeme) → is_keyword k m ≡ true → m ≡ lexeme.Keyword k
keyword_only k (lexeme.Keyword l) e = ap lexeme.Keyword (sym (same_true the_keyword.the_type tt k l e))
keyword_only k (lexeme.Ident w) e = absurd (cc)
keyword_only k (lexeme.Param w) e = absurd (cc)
keyword_only k (lexeme.Number n) e = absurd (cc)
keyword_only k (lexeme.Binary bytes) e = absurd (cc)
keyword_only k (lexeme.Text characters) e = absurd (cc)
keyword_only k (lexeme.Symbol s) e = absurd (cc)

symbol_only : (s : Symbol) (m : Lexeme) → is_symbol s m ≡ true → m ≡ lexeme.Symbol s
symbol_only s (lexeme.Symbol r) e = ap lexeme.Symbol (sym (same_true the_symbol.the_type tt s r e))
symbol_only s (lexeme.Keyword k) e = absurd (cc)
symbol_only s (lexeme.Ident w) e = absurd (cc)
symbol_only s (lexeme.Param w) e = absurd (cc)
symbol_only s (lexeme.Number n) e = absurd (cc)
symbol_only s (lexeme.Binary bytes) e = absurd (cc)
symbol_only s (lexeme.Text characters) e = absurd (cc)

-- two lexemes of one kind are of the same kinds
same_kinds : (s t : Terminal) (l : Lexeme) → matches t l ≡ true → matches s l ≡ matches s (lexeme_of t)
same_kinds s (terminal.Word k) l e = ap (matches s) (keyword_only k l e)
same_kinds s (terminal.Sign r) l e = ap (matches s) (symbol_only r l e)
same_kinds (terminal.Word k) terminal.Ident (lexeme.Ident w) e = refl
same_kinds (terminal.Sign r) terminal.Ident (lexeme.Ident w) e = refl
same_kinds terminal.Ident terminal.Ident (lexeme.Ident w) e = refl
same_kinds terminal.Param terminal.Ident (lexeme.Ident w) e = refl
same_kinds terminal.Number terminal.Ident (lexeme.Ident w) e = refl
same_kinds terminal.Binary terminal.Ident (lexeme.Ident w) e = refl
same_kinds terminal.Text terminal.Ident (lexeme.Ident w) e = refl
same_kinds (terminal.Word k) terminal.Param (lexeme.Param w) e = refl
same_kinds (terminal.Sign r) terminal.Param (lexeme.Param w) e = refl
same_kinds terminal.Ident terminal.Param (lexeme.Param w) e = refl
same_kinds terminal.Param terminal.Param (lexeme.Param w) e = refl
same_kinds terminal.Number terminal.Param (lexeme.Param w) e = refl
same_kinds terminal.Binary terminal.Param (lexeme.Param w) e = refl
same_kinds terminal.Text terminal.Param (lexeme.Param w) e = refl
same_kinds (terminal.Word k) terminal.Number (lexeme.Number n) e = refl
same_kinds (terminal.Sign r) terminal.Number (lexeme.Number n) e = refl
same_kinds terminal.Ident terminal.Number (lexeme.Number n) e = refl
same_kinds terminal.Param terminal.Number (lexeme.Number n) e = refl
same_kinds terminal.Number terminal.Number (lexeme.Number n) e = refl
same_kinds terminal.Binary terminal.Number (lexeme.Number n) e = refl
same_kinds terminal.Text terminal.Number (lexeme.Number n) e = refl
same_kinds (terminal.Word k) terminal.Binary (lexeme.Binary bytes) e = refl
same_kinds (terminal.Sign r) terminal.Binary (lexeme.Binary bytes) e = refl
same_kinds terminal.Ident terminal.Binary (lexeme.Binary bytes) e = refl
same_kinds terminal.Param terminal.Binary (lexeme.Binary bytes) e = refl
same_kinds terminal.Number terminal.Binary (lexeme.Binary bytes) e = refl
same_kinds terminal.Binary terminal.Binary (lexeme.Binary bytes) e = refl
same_kinds terminal.Text terminal.Binary (lexeme.Binary bytes) e = refl
same_kinds (terminal.Word k) terminal.Text (lexeme.Text characters) e = refl
same_kinds (terminal.Sign r) terminal.Text (lexeme.Text characters) e = refl
same_kinds terminal.Ident terminal.Text (lexeme.Text characters) e = refl
same_kinds terminal.Param terminal.Text (lexeme.Text characters) e = refl
same_kinds terminal.Number terminal.Text (lexeme.Text characters) e = refl
same_kinds terminal.Binary terminal.Text (lexeme.Text characters) e = refl
same_kinds terminal.Text terminal.Text (lexeme.Text characters) e = refl
same_kinds s t l e = absurd (cc)

same_members : (set : List Terminal) (t : Terminal) (l : Lexeme) → matches t l ≡ true → member set l ≡ member set (lexeme_of t)
same_members [] t l e = refl
same_members (s ∷ set) t l e = rw (same_kinds s t l e, same_members set t l e) refl

-- no kind is in both sets
abbrev pub disjoint : List Terminal → List Terminal → Bool
disjoint a b = list_all (λ t. not (member b (lexeme_of t))) a

-- each kind of the first set is in the second
abbrev pub subset : List Terminal → List Terminal → Bool
subset a b = list_all (λ t. member b (lexeme_of t)) a

pub not_and : (x y : Bool) → (not x && y) ≡ true → (x ≡ false) × (y ≡ true)
not_and true y e = absurd (cc)
not_and false y e = (refl, e)

apart_step : (t : Terminal) (a b : List Terminal) (l : Lexeme) (here : Bool) → matches t l ≡ here → (member a l ≡ true → member b l ≡ false) → member b (lexeme_of t) ≡ false
    → (here || member a l) ≡ true → member b l ≡ false
apart_step t a b l true e more none h = same_members b t l e ∙ none
apart_step t a b l false e more none h = more h

pub apart : (a b : List Terminal) (l : Lexeme) → disjoint a b ≡ true → member a l ≡ true → member b l ≡ false
apart [] b l d h = absurd (cc)
apart (t ∷ a) b l d h =
    let p = not_and (member b (lexeme_of t)) (disjoint a b) d in
    apart_step t a b l (matches t l) refl (apart a b l p.1) p.0 h

within_step : (t : Terminal) (a b : List Terminal) (l : Lexeme) (here : Bool) → matches t l ≡ here → (member a l ≡ true → member b l ≡ true) → member b (lexeme_of t) ≡ true
    → (here || member a l) ≡ true → member b l ≡ true
within_step t a b l true e more found h = same_members b t l e ∙ found
within_step t a b l false e more found h = more h

pub within : (a b : List Terminal) (l : Lexeme) → subset a b ≡ true → member a l ≡ true → member b l ≡ true
within [] b l d h = absurd (cc)
within (t ∷ a) b l d h =
    let p = and_parts (member b (lexeme_of t)) (subset a b) d in
    within_step t a b l (matches t l) refl (within a b l p.1) p.0 h

-- ---- two sets together

or_assoc : (x y z : Bool) → (x || (y || z)) ≡ ((x || y) || z)
or_assoc true y z = refl
or_assoc false y z = refl

pub member-append : (a b : List Terminal) (l : Lexeme) → member (a ++ b) l ≡ (member a l || member b l)
member-append [] b l = refl
member-append (t ∷ a) b l = rw (member-append a b l) (or_assoc (matches t l) (member a l) (member b l))

pub next-append : (a b : List Terminal) (tokens : List Token) → next_among (a ++ b) tokens ≡ (next_among a tokens || next_among b tokens)
next-append a b [] = refl
next-append a b (t ∷ ts) = member-append a b t.lexeme

pub none_of : (a b : List Terminal) (tokens : List Token) → next_among (a ++ b) tokens ≡ false → (next_among a tokens ≡ false) × (next_among b tokens ≡ false)
none_of a b tokens e = or_parts (next_among a tokens) (next_among b tokens) (sym (next-append a b tokens) ∙ e)

narrower_step : (a b : List Terminal) (l : Lexeme) (here : Bool) → member a l ≡ here → subset a b ≡ true → member b l ≡ false → here ≡ false
narrower_step a b l true e s h = absurd (let found = within a b l s e in let wrong : true ≡ false = sym found ∙ h in cc)
narrower_step a b l false e s h = refl

pub narrower : (a b : List Terminal) (tokens : List Token) → subset a b ≡ true → next_among b tokens ≡ false → next_among a tokens ≡ false
narrower a b [] s e = refl
narrower a b (t ∷ ts) s e = narrower_step a b t.lexeme (member a t.lexeme) refl s e
