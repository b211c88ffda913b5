-- What a text parses to is proper, and within the limits of texts.
use Rattle.std.proofs.Common.{◌≡◌, ℕ, false, ◌||◌, List, length, Option, Some, None, Ok, refl, subst, nat_lt}
use Rattle.std.proofs.lemmas.Bool.{or_parts}
use Rattle.ae_base.specs.Limits.{most_statement_bytes}
use Rattle.ae_base.specs.declared.faults.SqlFault.TheVariants as fault
use Rattle.sql_tree.specs.declared.lexemes.Token.{Token}
use Rattle.sql_tree.specs.Statements.{Statement}
use Rattle.sql_tree.specs.Tokens.{first_wide, tokens_of}
use Rattle.sql_grammar.specs.Laws.{TreeIsTheGrammars}
use Rattle.sql_grammar.specs.Texts.{has_long, opens_too_deep, parsed_narrow, parsed_tokens, parsed_tree, passes_a_limit, statement_in, tree_of}
use Rattle.proper_value_laws.proofs.TextsGrammar.{IsProperTree, spelled_proper}
use Rattle.proper_value_laws.proofs.TextsLists.{ok_other}
use Rattle.proper_value_laws.proofs.Tokens.{tokens_proper}

pub record IsRead (s : Statement) : Type 0 where
  pub proper : IsProperTree s
  pub small : passes_a_limit s ≡ false

tree_read : (tokens : List Token) (o : Option Statement) (s : Statement) → ((r : Statement) → o ≡ Some r → IsProperTree r) → parsed_tree tokens o ≡ Ok s → IsRead s
tree_read tokens None s h e = cc
tree_read tokens (Some r) s h e =
    let c = ok_other (has_long tokens || passes_a_limit r) fault.TooLong (Ok r) s e in
    let same : r ≡ s = let f = c.1 in cc in
    subst IsRead same (record { proper = h r refl; small = (or_parts (has_long tokens) (passes_a_limit r) c.0).1 })

narrow_read : (tokens : List Token) (o : Option ℕ) (s : Statement) → (o ≡ None → (r : Statement) → tree_of tokens ≡ Some r → IsProperTree r) → parsed_narrow tokens o ≡ Ok s → IsRead s
narrow_read tokens (Some at) s h e = cc
narrow_read tokens None s h e =
    let c = ok_other (opens_too_deep 0 tokens) fault.TooDeep (parsed_tree tokens (tree_of tokens)) s e in
    tree_read tokens (tree_of tokens) s (h refl) c.1

tokens_read : TreeIsTheGrammars → (text : List ℕ) (o : Option (List Token)) (s : Statement) → tokens_of text ≡ o → parsed_tokens o ≡ Ok s → IsRead s
tokens_read grammar text None s found e = cc
tokens_read grammar text (Some tokens) s found e =
    narrow_read tokens (first_wide 9223372036854775807 tokens) s
    (λ narrow r er. spelled_proper r tokens (tokens_proper text tokens found narrow) ((grammar tokens r).0 er)) e

pub text_read : TreeIsTheGrammars → (text : List ℕ) (s : Statement) → statement_in text ≡ Ok s → IsRead s
unfolding statement_in
text_read grammar text s e =
    let c = ok_other (nat_lt most_statement_bytes (length text)) fault.TooLong (parsed_tokens (tokens_of text)) s e in
    tokens_read grammar text (tokens_of text) s refl c.1
