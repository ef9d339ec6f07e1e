-- Packages of policies, by what they begin with, and the lines that tell what converts them.
use Rattle.std.specs.Prelude.{ℕ, List, [], ◌∷◌, take, bytes_eq, if◌then◌else◌, codes, Option, None, Some}
use Rattle.cil_program.specs.declared.command_line.packed.Packed.{Packed}
use Rattle.cil_program.specs.declared.command_line.packed.Packed.TheVariants.{Plain, Compressed}

-- what a text looks like by its first four bytes, or its first three
abbrev pub packed_of : List ℕ → Option Packed
packed_of text =
    if bytes_eq (take 4 text) (143 ∷ 255 ∷ 124 ∷ 249 ∷ []) then Some Plain
    else if bytes_eq (take 3 text) (codes "BZh") then Some Compressed else None

abbrev pub packed_line : Packed → List ℕ
packed_line Plain = codes "note: the file looks like a policy package, which /usr/libexec/selinux/hll/pp FILE NAME.cil converts\n"
packed_line Compressed = codes "note: the file is compressed by bzip2: bzcat FILE gives its text, or a policy package for /usr/libexec/selinux/hll/pp\n"

-- nothing is told where a text looks like none
abbrev pub packed_text : Option Packed → List ℕ
packed_text None = []
packed_text (Some packed) = packed_line packed
