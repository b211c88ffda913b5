-- How a command ends: its number, and what is said of it on standard error.
use Rattle.std.specs.Prelude.{ℕ, List, [], ◌∷◌, ◌++◌, codes, decimal, encode_utf8_all}
use Rattle.command_words.specs.declared.status.Status.{Status}
use Rattle.command_words.specs.declared.status.Status.TheVariants as status

abbrev pub number_of : Status → ℕ
number_of status.Done = 0
number_of status.Refusals = 1
number_of (status.Usage text) = 2
number_of status.ReadFault = 3
number_of status.WriteFault = 4
number_of status.OutOfMemory = 5
number_of status.EntropyFault = 6
number_of status.VaultFault = 7
number_of (status.BadScript line) = 8
number_of status.TooLong = 9
number_of (status.BadFrame place) = 10
number_of (status.BadReply place) = 11
number_of (status.NoMasterKey path) = 12
number_of (status.BadJournal place) = 13
number_of status.DiskFault = 14
number_of status.JournalFull = 15

abbrev pub line : List ℕ → List ℕ
line text = codes "ae: " ++ text ++ 10 ∷ []

abbrev pub said_of : Status → List ℕ
said_of status.Done = []
said_of status.Refusals = []
said_of (status.Usage text) = encode_utf8_all text
said_of status.ReadFault = line (codes "read fault")
said_of status.WriteFault = line (codes "write fault")
said_of status.OutOfMemory = line (codes "out of memory")
said_of status.EntropyFault = line (codes "entropy fault")
said_of status.VaultFault = line (codes "vault fault")
said_of (status.BadScript n) = line (codes "bad script line " ++ decimal n)
said_of status.TooLong = line (codes "too long")
said_of (status.BadFrame place) = line (codes "bad frame at " ++ decimal place)
said_of (status.BadReply place) = line (codes "bad reply at " ++ decimal place)
said_of (status.NoMasterKey path) = line (codes "no master key " ++ encode_utf8_all path)
said_of (status.BadJournal place) = line (codes "bad journal at " ++ decimal place)
said_of status.DiskFault = line (codes "disk fault")
said_of status.JournalFull = line (codes "journal full")
