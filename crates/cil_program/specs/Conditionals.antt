-- How statements outside the language are taken, by the words of a command line.
use Rattle.std.specs.Prelude.{ℕ, ◌==◌, ◌-◌, Bool, true, false, ◌&&◌, if◌then◌else◌, nat_lt, List, [], ◌∷◌, ◌++◌, map, length, take, drop, codes, bytes_eq, Option, None, Some, option_map}
use Rattle.std.specs.List.{list_any, slice_split}
use Rattle.std.specs.Option.{option_or}
use Rattle.cil_program.specs.declared.command_line.conditionals.Misuse.{Misuse}
use Rattle.cil_program.specs.declared.command_line.conditionals.Misuse.TheVariants.{NoForeign, OtherForeign, OtherBooleans, ListAndOutput}
use Rattle.cil_program.specs.declared.command_line.conditionals.Setting as code_setting
use Rattle.cil_program.specs.declared.command_line.conditionals.Conditionals as code_conditionals
use Rattle.cil_program.specs.declared.command_line.conditionals.Foreign as code
use Rattle.cil_program.specs.declared.command_line.conditionals.Foreign.TheVariants.{Refused, ByNames, Misused}

-- A value that is given to a boolean.
pub record Setting : Type 0 where
  pub name : List ℕ
  pub value : Bool

-- How conditional statements are taken: whether the rules of both branches are, and the values that are given.
pub record Conditionals : Type 0 where
  pub both : Bool
  pub settings : List Setting

-- each conditional statement takes the rules of the branch that holds, with each boolean's own value
abbrev pub as_declared : Conditionals
as_declared = record { both = false; settings = [] }

-- what stands in front of an end, where that is something
abbrev pub front_before : List ℕ → List ℕ → Option (List ℕ)
front_before end word =
    if nat_lt (length end) (length word) && bytes_eq (drop (length word - length end) word) end
    then Some (take (length word - length end) word) else None

abbrev pub given : Bool → Option (List ℕ) → Option Setting
given value = option_map (λ name. record { name = name; value = value })

-- `NAME=true` or `NAME=false`
abbrev pub any_setting_of : List ℕ → Option Setting
any_setting_of word = option_or (given true (front_before (codes "=true") word)) (given false (front_before (codes "=false") word))

-- a setting of a boolean by its own name, which has no dot
abbrev pub by_own_name : Option Setting → Option Setting
by_own_name None = None
by_own_name (Some setting) = if list_any (λ b. b == 46) setting.name then None else Some setting

-- `NAME=true` or `NAME=false`, where NAME has no dot, since booleans are told apart by their last components
abbrev pub setting_of : List ℕ → Option Setting
setting_of word = by_own_name (any_setting_of word)

-- a setting in front of others, where all are there
abbrev pub in_front : Option Setting → Option (List Setting) → Option (List Setting)
in_front None settings = None
in_front (Some setting) None = None
in_front (Some setting) (Some settings) = Some (setting ∷ settings)

abbrev pub settings_of : List (List ℕ) → Option (List Setting)
settings_of [] = Some []
settings_of (part ∷ parts) = in_front (setting_of part) (settings_of parts)

-- `default`, `both`, or settings with commas between them
abbrev pub conditionals_of : List ℕ → Option Conditionals
conditionals_of word =
    if bytes_eq word (codes "default") then Some as_declared
    else if bytes_eq word (codes "both") then Some (record { both = true; settings = [] })
    else option_map (λ settings. record { both = false; settings = settings }) (settings_of (slice_split (λ b. b == 44) word))

-- How statements outside the language are taken: they are refused; by their names alone; or the words don't say.
pub data Foreign : Type 0 where
  refused : Foreign
  by_names : Conditionals → Foreign
  misused : Misuse → Foreign

abbrev pub names_by : Option Conditionals → Foreign
names_by None = misused OtherBooleans
names_by (Some conditionals) = by_names conditionals

-- by what `--booleans` says
abbrev pub conditionals_by : Option (List ℕ) → Option Conditionals
conditionals_by None = Some as_declared
conditionals_by (Some word) = conditionals_of word

-- by what `--foreign` and `--booleans` say
abbrev pub foreign_by : Option (List ℕ) → Option (List ℕ) → Foreign
foreign_by None None = refused
foreign_by None (Some word) = misused NoForeign
foreign_by (Some foreign) booleans = if bytes_eq foreign (codes "names") then names_by (conditionals_by booleans) else misused OtherForeign

-- why words are refused
abbrev pub misuse_line : Misuse → List ℕ
misuse_line NoForeign = codes "error: '--booleans' goes with '--foreign names'\n"
misuse_line OtherForeign = codes "error: '--foreign' takes the word names alone\n"
misuse_line OtherBooleans = codes "error: '--booleans' takes default, both, or NAME=true and NAME=false with commas between them; a NAME has no dots\n"
misuse_line ListAndOutput = codes "error: '--list' and '--output' don't go together\n"

abbrev pub misuse_text : Misuse → List ℕ
misuse_text misuse = misuse_line misuse ++ codes "\nFor more information, try '--help'.\n"

-- what the code's values say
abbrev pub setting_in : code_setting.Setting → Setting
setting_in setting = record { name = setting.name.now; value = setting.value }

abbrev pub conditionals_in : code_conditionals.Conditionals → Conditionals
conditionals_in conditionals = record { both = conditionals.both; settings = map setting_in conditionals.settings.items }

abbrev pub foreign_in : code.Foreign → Foreign
foreign_in Refused = refused
foreign_in (ByNames conditionals) = by_names (conditionals_in conditionals)
foreign_in (Misused misuse) = misused misuse
