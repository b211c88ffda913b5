-- What is read of the matches is what stands in them.
use Rattle.std.proofs.Common.{if◌then◌else◌, ◌≡◌, ℕ, List, [], Bool, true, false, Option, Some, None, Result, Ok, Err, refl, sym, subst, is_some, ap, ◌∙◌, codes, option_and_then}
use Rattle.std.specs.Prelude.{encode_utf8_all, map}
use Rattle.std.specs.Borrow.{Bor}
use Rattle.std.specs.List.{list_all}
use Rattle.std.specs.Str.{chars}
use Rattle.std.specs.Str.Parse.{ParsesUnsigned}
use Rattle.ae_base.specs.declared.refusals.Refusal.{Refusal}
use Rattle.ae_base.specs.declared.refusals.Refusal.TheVariants.{Fault, OutOfMemory}
use Rattle.clap.specs.Words.{App, HasMatchesOf, Row, Text, fault_of, is_simple, subcommand_of, first_value, is_simple_and_free, kind_of, one_text, rows_of, subcommand_rows_of}
use Rattle.clap.specs.declared.error.Error.{Error}
use Rattle.clap.specs.declared.error.kind.ErrorKind.{ErrorKind}
use Rattle.clap.specs.declared.error.kind.ErrorKind.TheVariants as kind
use Rattle.clap.specs.declared.parser.matches.ArgMatches.{ArgMatches}
use Rattle.clap.specs.declared.parser.matches.Found.{Found}
use Rattle.clap.proofs.WalkLemmas.{first_value-rows, one_text-rows}
use Rattle.clap.specs.Simple.{built}
use Rattle.clap.specs.Takes.{takes}
use Rattle.command_words.proofs.Taken.{by_program}
use Rattle.command_words.proofs.Faultless.{is_set, subs_set, takes_faultless, top_set}
use Rattle.command_words.specs.Words.{Reads, are_taken, named, program, wrap_in}
use Rattle.command_words.specs.Found.{Is, FindsPath, FindsSize, IsOfKind}
use Rattle.command_words.specs.declared.commands.Command.TheVariants as command
use Rattle.command_words.specs.declared.commands.Command.{Command}

-- ---- the arguments

pub path_found : (f : Found) (value : Bor Text) (path : List ℕ) → Some value.now ≡ first_value f (codes "PATH") → path ≡ chars value.now → FindsPath (rows_of f) (Ok (command.Wrap path))
path_found f value path e p = rw (← first_value-rows f (codes "PATH"), ← e, p) refl

pub no_path : (f : Found) → None ≡ first_value f (codes "PATH") → is_some (wrap_in (rows_of f)) ≡ true → ⊥
no_path f e there =
    let bad : false ≡ true = rw (← first_value-rows f (codes "PATH"), ← e) at there in
    cc

module _ {E : Type 0} (Gives : List ℕ → Result ℕ E → Type 0) (parses : (text : List ℕ) (r : Result ℕ E) → Gives text r → ParsesUnsigned 32 10 text r) where
  pub size_found : (f : Found) (n : ℕ) (t : Option (List ℕ)) → one_text f (codes "N") ≡ t
      → (t ≡ None → Some n ≡ None) → ((text : List ℕ) → t ≡ Some text → Gives text (Ok n)) → FindsSize (rows_of f) (Ok (command.Gen n))
  size_found f n None e none value = absurd (let bad = none refl in cc)
  size_found f n (Some text) e none value =
      let p = parses text (Ok n) (value text refl) in
      rw (← one_text-rows f (codes "N"), e, p.1) refl

-- ---- the whole

pub is_simple_program : is_simple program ≡ true
unfolding program
is_simple_program = refl

pub is_free_program : is_simple_and_free program ≡ true
unfolding program
is_free_program = refl

takes_program : (a : App) (words : List Text) → a ≡ program → (is_simple_and_free a ≡ true → fault_of a words ≡ []) → takes a words ≡ true
takes_program a words same none =
    takes_faultless a words (ap is_simple same ∙ is_simple_program) (ap (λ (x : App). is_set (built x).top) same ∙ top_set) (ap (λ (x : App). list_all is_set (built x).subs) same ∙ subs_set)
    (none (ap is_simple_and_free same ∙ is_free_program))

-- what is read, by whether the words are taken
abbrev ReadsBy : Bool → Option Command → Result Command (Refusal (List ℕ)) → Type 0
ReadsBy taken found (Ok c) = (if taken then found else None) ≡ Some c
ReadsBy taken found (Err (Fault said)) = taken ≡ false
ReadsBy taken found (Err OutOfMemory) = Unit {0}

by_command : (t : Bool) (found : Option Command) (r : Result Command (Refusal (List ℕ))) → t ≡ true → Is found r → ReadsBy t found r
by_command true found (Ok c) e w = w
by_command true found (Err (Fault said)) e w = absurd w
by_command true found (Err OutOfMemory) e w = tt
by_command false found r e w = cc

by_refusal : (t : Bool) (found : Option Command) (e : ErrorKind) (r : Refusal (List ℕ)) → (t ≡ true → e ≡ kind.OutOfMemory) → IsOfKind e r → ReadsBy t found (Err r)
by_refusal t found e OutOfMemory why w = tt
by_refusal true found e (Fault said) why w = absurd (w (why refl))
by_refusal false found e (Fault said) why w = refl

reads : (words : List (List ℕ)) (r : Result Command (Refusal (List ℕ))) → ReadsBy (are_taken words) (option_and_then named (subcommand_of program (map encode_utf8_all words))) r → Reads words r
reads words (Ok found) w = w
reads words (Err (Fault said)) w = w
reads words (Err OutOfMemory) w = tt

module _ (a : App) (bytes : List Text) (words : List (List ℕ)) (same : a ≡ program) (spelled : bytes ≡ map encode_utf8_all words) where
  reads_by : (r : Result Command (Refusal (List ℕ))) → ReadsBy (takes a bytes) (option_and_then named (subcommand_of a bytes)) r → Reads words r
  reads_by r w = reads words r
      (subst (λ (x : List Text). ReadsBy (takes program x) (option_and_then named (subcommand_of program x)) r) spelled
      (subst (λ (x : App). ReadsBy (takes x bytes) (option_and_then named (subcommand_of x bytes)) r) same w))

  pub taken : (m : ArgMatches) (r : Result Command (Refusal (List ℕ))) → HasMatchesOf a bytes m
      → (is_simple_and_free a ≡ true → fault_of a bytes ≡ []) → Is (option_and_then named (subcommand_rows_of m)) r → Reads words r
  taken m r has none found =
      let simple : is_simple a ≡ true = ap is_simple same ∙ is_simple_program in
      reads_by r (by_command (takes a bytes) (option_and_then named (subcommand_of a bytes)) r (takes_program a bytes same none)
      (subst (λ (x : Option (Text × List Row)). Is (option_and_then named x) r) (has simple).1 found))

  pub found_there : (m : ArgMatches) → HasMatchesOf a bytes m → (is_simple_and_free a ≡ true → fault_of a bytes ≡ []) → is_some (option_and_then named (subcommand_rows_of m)) ≡ true
  found_there m has none =
      let simple : is_simple a ≡ true = ap is_simple same ∙ is_simple_program in
      subst (λ (x : Option (Text × List Row)). is_some (option_and_then named x) ≡ true) (sym (has simple).1) (by_program a bytes same (takes_program a bytes same none))

  pub refused : (e : Error) (r : Refusal (List ℕ)) → (takes a bytes ≡ true → kind_of e ≡ kind.OutOfMemory) → IsOfKind (kind_of e) r → Reads words (Err r)
  refused e r why w = reads_by (Err r) (by_refusal (takes a bytes) (option_and_then named (subcommand_of a bytes)) (kind_of e) r why w)
