-- By what the vault answers.
use Rattle.std.proofs.Common.{refl}
use Rattle.ae_edge.proofs.Interface.{same_device}
use Rattle.wrap_command.proofs.Reading.{is_read, makes_line}
use Rattle.wrap_command.proofs.commands.wrap_input.Goals as goal

pub returns-in-Found-clause-makes : goal.returns-in-Found-clause-makes
returns-in-Found-clause-makes g c =
    let vault = g.V.Vault.seen c.args.vault.now in
    let asked = g.V.Vault.seen c.master.new.self in
    let call = c.in-Found.ensures in
    makes_line c.put_line.result c.args.path.now c.args.input.now c.line_of.result vault asked (g.W.Sink.seen c.args.out.now) (g.W.Sink.seen c.put_line.new.out)
    (record { key = c.in-Some.key; master = c.in-Found.master; spells = c.in-Some.ensures; found = call.content.1; is = c.line_of.ensures })
    (same_device vault asked call.content.0 call.counts call.same) c.put_line.ensures

pub returns-in-Found-clause-read : goal.returns-in-Found-clause-read
returns-in-Found-clause-read g c = is_read c.put_line.result c.line_of.result (g.W.Sink.seen c.args.out.now) (g.W.Sink.seen c.put_line.new.out) c.put_line.ensures

pub returns-in-NotThere-clause-makes : goal.returns-in-NotThere-clause-makes
returns-in-NotThere-clause-makes g c =
    let call = c.in-NotThere.ensures in
    ((c.in-Some.key, c.in-Some.ensures), call.content.1, same_device (g.V.Vault.seen c.args.vault.now) (g.V.Vault.seen c.master.new.self) call.content.0 call.counts call.same, refl)
