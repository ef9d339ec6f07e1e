-- Scripts: their commands, and the lines of replies.
use Rattle.std.specs.Prelude.{◌≡◌, ◌≢◌, ℕ, ◌+◌, ◌<◌, ◌≤◌, Bool, ◌&&◌, ◌==◌, nat_le, List, [], ◌∷◌, ◌++◌, map, flat_map, length, codes, decimal, count_by, IsTrue}
use Rattle.std.specs.List.{list_all, join_with_byte, AllByRecursion}
use Rattle.cil_specs.specs.Report.{row_line, dropped_line}
use Rattle.cil_specs.specs.Violations.{violation_line}
use Rattle.cil_store_specs.specs.Store.{Store}
use Rattle.cil_store_specs.specs.Next.{Edit, install, remove, enable, disable, install_of, Refusal, by_store, at_place, for_memory}
use Rattle.cil_store_specs.specs.Run.{Reply, changed_by, refused, listed, printed, violated, dropped_optionals}

-- a command: an edit; the begin of a batch, its commit or its abort; or a question for the listing, the violations, the optionals that
-- drop, the modules, or a script for the store
pub data Command : Type 0 where
  makes : Edit → Command
  begins : Command
  commits : Command
  aborts : Command
  asks_rules : Command
  asks_violations : Command
  asks_dropped : Command
  asks_modules : Command
  asks_dump : Command

-- the words of a command's line; of an install the last one is the length of its text
abbrev pub words_of : Command → List (List ℕ)
words_of (makes (install name priority text)) = codes "install" ∷ name ∷ decimal priority ∷ decimal (length text) ∷ []
words_of (makes (remove name priority)) = codes "remove" ∷ name ∷ decimal priority ∷ []
words_of (makes (enable name)) = codes "enable" ∷ name ∷ []
words_of (makes (disable name)) = codes "disable" ∷ name ∷ []
words_of begins = codes "begin" ∷ []
words_of commits = codes "commit" ∷ []
words_of aborts = codes "abort" ∷ []
words_of asks_rules = codes "rules" ∷ []
words_of asks_violations = codes "violations" ∷ []
words_of asks_dropped = codes "dropped" ∷ []
words_of asks_modules = codes "modules" ∷ []
words_of asks_dump = codes "dump" ∷ []

-- the line of a command, without its line feed: its words, with one space between two
abbrev pub line_of : Command → List ℕ
line_of command = join_with_byte 32 (words_of command)

-- what stands behind the line of a command and its line feed: the text of an install, and a line feed
abbrev pub behind : Command → List ℕ
behind (makes (install name priority text)) = text ++ 10 ∷ []
behind _ = []

-- the bytes of a command
abbrev pub command_bytes : Command → List ℕ
command_bytes command = line_of command ++ 10 ∷ behind command

-- a byte of 0x21 to 0x7E
abbrev pub is_shown : ℕ → Bool
is_shown b = nat_le 33 b && nat_le b 126

-- a name has shown bytes alone
pub record IsGoodName (name : List ℕ) : Type 0 where
  pub some : name ≢ []
  pub shown : IsTrue (list_all is_shown name)

-- a number has at most nine digits
abbrev pub IsShortNumber : ℕ → Type 0
IsShortNumber n = n < 1000000000

abbrev pub HasGoodWords : Command → Type 0
HasGoodWords (makes (install name priority text)) = IsGoodName name × IsShortNumber priority × IsShortNumber (length text)
HasGoodWords (makes (remove name priority)) = IsGoodName name × IsShortNumber priority
HasGoodWords (makes (enable name)) = IsGoodName name
HasGoodWords (makes (disable name)) = IsGoodName name
HasGoodWords _ = Unit {0}

-- a command that a script may have: its line is at most 4096 bytes long
abbrev pub IsCommand : Command → Type 0
IsCommand command = HasGoodWords command × (length (line_of command) ≤ 4096)

-- the last command of a script may lack its line feed, but for an install
abbrev pub MayLackItsEnd : Command → Type 0
MayLackItsEnd (makes (install name priority text)) = ⊥
MayLackItsEnd _ = Unit {0}

-- these bytes begin with no command, and are none that lacks its line feed
abbrev pub IsNoCommand : List ℕ → Type 0
IsNoCommand bytes = ((command : Command) (rest : List ℕ) → IsCommand command → bytes ≡ command_bytes command ++ rest → ⊥)
    × ((command : Command) → IsCommand command → MayLackItsEnd command → bytes ≡ line_of command → ⊥)

-- How a script ends: with its last command, or at a line that is no command, whose number counts the line feeds before it.
pub data End : Type 0 where
  ends : End
  stops : ℕ → End

-- what stands behind commands of these bytes
abbrev pub IsEnd : List ℕ → List ℕ → End → Type 0
IsEnd before rest ends = rest ≡ []
IsEnd before rest (stops line) = (rest ≢ []) × IsNoCommand rest × (line ≡ 1 + count_by (λ b. b == 10) before)

-- the script is these commands, and ends so
pub data Commands (script : List ℕ) (commands : List Command) (end : End) : Type 0 where
  whole : AllByRecursion IsCommand commands → (rest : List ℕ) → script ≡ flat_map command_bytes commands ++ rest → IsEnd (flat_map command_bytes commands) rest end → Commands script commands end
  without_end : (first : List Command) (last : Command) → AllByRecursion IsCommand commands → commands ≡ first ++ last ∷ [] → MayLackItsEnd last
      → script ≡ flat_map command_bytes first ++ line_of last → end ≡ ends → Commands script commands end

-- the line of a refusal
abbrev pub refusal_line : Refusal → List ℕ
refusal_line (by_store code word) = codes "refused " ++ decimal code ++ codes " " ++ word ++ codes "\n"
refusal_line (at_place code module_name at word) = codes "refused " ++ decimal code ++ codes " " ++ module_name ++ codes ":" ++ decimal at.line ++ codes ":" ++ decimal at.column
    ++ codes " " ++ word ++ codes "\n"
refusal_line for_memory = codes "refused 60 memory\n"

-- the last line of a report of so many rows
abbrev pub end_line : ℕ → List ℕ
end_line rows = codes "end " ++ decimal rows ++ codes "\n"

-- the bytes that tell a reply
abbrev pub reply_text : Reply → List ℕ
reply_text (changed_by changes) = codes "ok " ++ decimal (length changes.added) ++ codes " " ++ decimal (length changes.removed) ++ codes "\n"
reply_text (refused refusal) = refusal_line refusal
reply_text (listed listing) = flat_map row_line listing ++ end_line (length listing)
reply_text (printed text) = text
reply_text (violated violations) = flat_map violation_line violations ++ end_line (length violations)
reply_text (dropped_optionals dropped) = flat_map dropped_line dropped ++ end_line (length dropped)

-- the edits that build a store (dump): an install of each entry, in the order of the store, and then a disable of each disabled name
abbrev pub dump_edits : Store → List Edit
dump_edits store = map install_of store.entries ++ map disable store.disabled

-- and the script of them, which makes them as one batch
abbrev pub dump_commands : Store → List Command
dump_commands store = begins ∷ (map makes (dump_edits store) ++ commits ∷ [])

abbrev pub dump_text : Store → List ℕ
dump_text store = flat_map command_bytes (dump_commands store)

-- what is written behind the answers
abbrev pub last_line : End → List ℕ
last_line ends = []
last_line (stops line) = codes "script " ++ decimal line ++ codes "\n"
