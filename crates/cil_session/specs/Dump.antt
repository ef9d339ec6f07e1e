-- The commands of a dump.
use Rattle.std.specs.Prelude.{ℕ, List}
use Rattle.cil_store_specs.specs.Store.{Entry}
use Rattle.cil_store_specs.specs.Next.{Edit, install_of, disable}
use Rattle.cil_store_specs.specs.Script.{makes, command_bytes}

-- the command of an edit
abbrev pub edit_command : Edit → List ℕ
edit_command edit = command_bytes (makes edit)

-- the command that installs an entry
abbrev pub install_command : Entry → List ℕ
install_command e = edit_command (install_of e)

-- the command that disables a name
abbrev pub disable_command : List ℕ → List ℕ
disable_command name = edit_command (disable name)
