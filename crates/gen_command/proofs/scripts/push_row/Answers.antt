-- The lines of the batch, one after another.
use Rattle.std.proofs.Common.{codes, decimal, string_bytes}
use Rattle.gen_command.specs.Script.{digit_of}
use Rattle.gen_command.proofs.Lines.{four_put}
use Rattle.gen_command.proofs.scripts.push_row.Goals as goal

pub returns : goal.returns
returns c =
    four_put (string_bytes c.args.text.now) (string_bytes c.write.new.self) (string_bytes c.write-2.new.self) (string_bytes c.write-3.new.self) (string_bytes c.push_str.new.self)
    (codes "DECLARE @c NVARCHAR(8) = N'c") (decimal (digit_of c.args.number)) (codes "'")
    (codes "DECLARE @v BIGINT = ") (decimal c.args.number)
    (codes "INSERT INTO t (id, c, v) VALUES (") (decimal c.args.row) (codes ", @c, @v)")
    (codes "GO")
    c.in_ok-write.ensures.bytes c.in_ok-write-2.ensures.bytes c.in_ok-write-3.ensures.bytes c.in_ok-push_str.ensures.bytes
