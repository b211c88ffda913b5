use Rattle.std.proofs.Common.{refl, sym, ◌∙◌, ap}
use Rattle.sql_grammar.specs.Parse.{word}
use Rattle.sql_expressions.proofs.There.{word_there, word_away}
use Rattle.sql_expressions.proofs.cursor.Cursor.word.Goals as goal

pub returns-then-not-next_is : goal.returns-then-not-next_is
returns-then-not-next_is c = rw c.syntax.ensures (refl, word_away c.args.keyword c.args.self.now (sym c.next_is.ensures ∙ c.if-not-next_is.true))

pub returns-in-Some : goal.returns-in-Some
returns-in-Some c = word_there c.args.keyword c.args.self.now (sym c.next_is.ensures ∙ c.if-not-next_is.false) ∙ c.in-Some.ensures

pub returns-in-None : goal.returns-in-None
returns-in-None c = rw c.syntax-in-None.ensures (refl, ap (word c.args.keyword) c.in-None.ensures)
