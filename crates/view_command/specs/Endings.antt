-- How a listing ends: the number of the program's status, and the line on standard error.
use Rattle.std.specs.Prelude.{ℕ, List, [], ◌∷◌, ◌++◌, codes, decimal}
use Rattle.view_command.specs.declared.commands.Viewed.{Viewed}
use Rattle.view_command.specs.declared.commands.Viewed.TheVariants as ended

abbrev pub number_of : Viewed → ℕ
number_of ended.Done = 0
number_of ended.ReadFault = 3
number_of ended.WriteFault = 4
number_of ended.OutOfMemory = 5
number_of ended.TooLong = 9
number_of (ended.BadFrame place) = 10
number_of (ended.CutOff place) = 10

abbrev pub line : List ℕ → List ℕ
line text = codes "ae_view: " ++ text ++ 10 ∷ []

abbrev pub said_of : Viewed → List ℕ
said_of ended.Done = []
said_of ended.ReadFault = line (codes "read fault")
said_of ended.WriteFault = line (codes "write fault")
said_of ended.OutOfMemory = line (codes "out of memory")
said_of ended.TooLong = line (codes "too long")
said_of (ended.BadFrame place) = line (codes "bad frame at " ++ decimal place)
said_of (ended.CutOff place) = line (codes "cut off at " ++ decimal place)
