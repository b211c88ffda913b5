-- The program's words, put together.
use Rattle.std.proofs.Common.{◌≡◌, ◌∙◌, ℕ, List, Option, ap, ap₂, refl, true, codes}
use Rattle.std.specs.Borrow.{Bor}
use Rattle.clap.specs.Words.{AddsSubcommand, App, Shape, app_of, new_app, with_subcommand}
use Rattle.clap.specs.Simple.{app_of_fields, on_top}
use Rattle.clap.specs.declared.builder.command.Command.{Command}
use Rattle.clap.specs.declared.builder.command.Command.TheViews.{out-Command}
use Rattle.command_words.specs.Programs.{IsLeaf}
use Rattle.command_words.specs.Words.{check, drive, gen_script, program, run, serve, wrap}

abbrev wanting : App → App
wanting = on_top (λ s. record s { subcommand_required = true })

pub described : (old new : Command) (a : App) (about : Option (Bor (List ℕ))) → app_of old ≡ a → out-Command new ≡ record (out-Command old) { about = about } → app_of new ≡ a
described old new a about is told = ap app_of_fields told ∙ is

pub required : (old new : Command) (a : App) → app_of old ≡ a → out-Command new ≡ record (out-Command old) { subcommand_required = true } → app_of new ≡ wanting a
required old new a is wants = ap app_of_fields wants ∙ ap wanting is

pub added : (old sub new : Command) (a : App) (s : Shape) → app_of old ≡ a → IsLeaf s sub → AddsSubcommand old sub new → app_of new ≡ with_subcommand a s
added old sub new a s is leaf adds = adds.shape leaf.1 ∙ ap₂ with_subcommand is (ap (λ (x : App). x.top) leaf.0)

abbrev put_together : App
put_together = with_subcommand (with_subcommand (with_subcommand (with_subcommand (with_subcommand (with_subcommand (wanting (new_app (codes "ae"))) run) serve) drive) check) wrap) gen_script

pub whole : put_together ≡ program
unfolding program
whole = refl
