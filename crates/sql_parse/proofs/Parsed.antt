-- What a text is parsed to, by what its tokens are.
use Rattle.std.proofs.Common.{◌≡◌, ℕ, ◌<◌, ◌≤◌, true, false, ◌||◌, List, [], ◌∷◌, length, nat_lt, Some, None, Result, Ok, Err, refl, sym, ◌∙◌, ap, subst, arith}
use Rattle.std.proofs.lemmas.Bool.Decides.{nat_tests}
use Rattle.ae_base.specs.Results.{AnswersAs}
use Rattle.ae_base.specs.declared.faults.SqlFault.{SqlFault}
use Rattle.ae_base.specs.declared.faults.SqlFault.TheVariants as fault
use Rattle.ae_base.specs.declared.refusals.Refusal.{Refusal}
use Rattle.ae_base.specs.declared.refusals.Refusal.TheVariants.{Fault, OutOfMemory}
use Rattle.sql_tree.specs.declared.lexemes.Token.{Token}
use Rattle.sql_tree.specs.declared.statements.Statement as code
use Rattle.sql_tree.specs.Statements.{Statement, statement_of}
use Rattle.sql_tree.specs.Tokens.{tokens_of, first_wide}
use Rattle.sql_grammar.specs.Parse.{statement}
use Rattle.sql_grammar.specs.Texts.{tree_of, opens_too_deep, has_long, passes_a_limit, parsed_narrow, parsed_tokens, statement_in}
use Rattle.sql_expressions.specs.Reads.{Fails}

pub parsed_long : (text : List ℕ) → 65536 < length text → statement_in text ≡ Err fault.TooLong
unfolding statement_in
parsed_long text h = let e : nat_lt 65536 (length text) ≡ true = grind (arith, nat_tests) in rw e refl

parsed_short : (text : List ℕ) → length text ≤ 65536 → statement_in text ≡ parsed_tokens (tokens_of text)
unfolding statement_in
parsed_short text h = let e : nat_lt 65536 (length text) ≡ false = grind (arith, nat_tests) in rw e refl

pub parsed_none : (text : List ℕ) → length text ≤ 65536 → tokens_of text ≡ None → statement_in text ≡ Err fault.Syntax
parsed_none text h e = parsed_short text h ∙ ap parsed_tokens e

pub parsed_wide : (text : List ℕ) (tokens : List Token) (at : ℕ) → length text ≤ 65536 → tokens_of text ≡ Some tokens → first_wide 9223372036854775807 tokens ≡ Some at
    → statement_in text ≡ Err (fault.NumberTooWide at)
parsed_wide text tokens at h e w = parsed_short text h ∙ ap parsed_tokens e ∙ ap (parsed_narrow tokens) w

-- what is answered of the tokens is answered of the text
pub parsed_answers : (text : List ℕ) (tokens : List Token) (result : Result code.Statement (Refusal SqlFault)) → length text ≤ 65536 → tokens_of text ≡ Some tokens
    → first_wide 9223372036854775807 tokens ≡ None → AnswersAs statement_of result (parsed_narrow tokens None) → AnswersAs statement_of result (statement_in text)
parsed_answers text tokens result h e w =
    let same : statement_in text ≡ parsed_narrow tokens None = parsed_short text h ∙ ap parsed_tokens e ∙ ap (parsed_narrow tokens) w in
    λ a. subst (AnswersAs statement_of result) (sym same) a

pub parsed_deep : (tokens : List Token) → opens_too_deep 0 tokens ≡ true → parsed_narrow tokens None ≡ Err fault.TooDeep
parsed_deep tokens h = rw h refl

pub parsed_no_tree : (tokens : List Token) (e : Refusal SqlFault) → opens_too_deep 0 tokens ≡ false → Fails e (tree_of tokens) → AnswersAs statement_of (Err e) (parsed_narrow tokens None)
parsed_no_tree tokens (Fault f) h (same, none) = rw (h, none) (ap Err (sym same))
parsed_no_tree tokens OutOfMemory h fails = tt

pub parsed_past : (tokens : List Token) (read : Statement) → opens_too_deep 0 tokens ≡ false → tree_of tokens ≡ Some read → (has_long tokens || passes_a_limit read) ≡ true
    → parsed_narrow tokens None ≡ Err fault.TooLong
parsed_past tokens read h e past = rw (h, e, past) refl

pub parsed_within : (tokens : List Token) (read : Statement) → opens_too_deep 0 tokens ≡ false → tree_of tokens ≡ Some read → (has_long tokens || passes_a_limit read) ≡ false
    → parsed_narrow tokens None ≡ Ok read
parsed_within tokens read h e within = rw (h, e, within) refl

pub tree_whole : (tokens rest : List Token) (read : Statement) → statement tokens ≡ Some (read, rest) → rest ≡ [] → tree_of tokens ≡ Some read
unfolding tree_of
tree_whole tokens rest read e end = rw (e, end) refl

pub tree_more : (tokens rest after : List Token) (read : Statement) (t : Token) → statement tokens ≡ Some (read, rest) → rest ≡ t ∷ after → tree_of tokens ≡ None
unfolding tree_of
tree_more tokens rest after read t e more = rw (e, more) refl

pub tree_fails : (tokens : List Token) (e : Refusal SqlFault) → Fails e (statement tokens) → Fails e (tree_of tokens)
unfolding tree_of
tree_fails tokens (Fault f) (same, none) = (same, rw none refl)
tree_fails tokens OutOfMemory fails = tt
