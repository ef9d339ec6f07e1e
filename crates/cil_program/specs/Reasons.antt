-- Why files can't be read or written, in words.
use Rattle.std.specs.Prelude.{ℕ, List, codes}
use Rattle.std.specs.declared.io.ErrorKind.{ErrorKind}
use Rattle.std.specs.declared.io.ErrorKind.TheVariants as kinds
use Rattle.cil_program.specs.declared.command_line.reason.Reason.{Reason}
use Rattle.cil_program.specs.declared.command_line.reason.Reason.TheVariants.{NotFound, PermissionDenied, NotADirectory, IsADirectory, SymbolicLinks, LongName, ReadOnly, NoSpace, Exists, OtherOfRead, OtherOfWrite}

-- the reason by what the system says, or else another
abbrev pub reason_of : ErrorKind → Reason → Reason
reason_of kinds.NotFound other = NotFound
reason_of kinds.PermissionDenied other = PermissionDenied
reason_of kinds.NotADirectory other = NotADirectory
reason_of kinds.IsADirectory other = IsADirectory
reason_of kinds.FilesystemLoop other = SymbolicLinks
reason_of kinds.InvalidFilename other = LongName
reason_of kinds.ReadOnlyFilesystem other = ReadOnly
reason_of kinds.StorageFull other = NoSpace
reason_of kinds.AlreadyExists other = Exists
reason_of kind other = other

abbrev pub reason_line : Reason → List ℕ
reason_line NotFound = codes "note: no such file or directory\n"
reason_line PermissionDenied = codes "note: permission denied\n"
reason_line NotADirectory = codes "note: a part of the path isn't a directory\n"
reason_line IsADirectory = codes "note: is a directory\n"
reason_line SymbolicLinks = codes "note: too many symbolic links\n"
reason_line LongName = codes "note: the name is too long\n"
reason_line ReadOnly = codes "note: the file system is read-only\n"
reason_line NoSpace = codes "note: no space is left\n"
reason_line Exists = codes "note: there is such a file already\n"
reason_line OtherOfRead = codes "note: it can't be read\n"
reason_line OtherOfWrite = codes "note: it can't be written\n"
