-- What edits of the store lead to.
use Rattle.std.specs.Prelude.{◌≡◌, ℕ, Bool, true, false, ◌&&◌, ◌||◌, ◌==◌, nat_le, nat_lt, List, [], ◌∷◌, ◌++◌, map, length, min, codes, decimal, sum_by, Option, Some, None, if◌then◌else◌}
use Rattle.std.specs.List.{list_all}
use Rattle.cil_specs.specs.Place.{Place}
use Rattle.cil_specs.specs.TextFault.{TextFault}
use Rattle.cil_specs.specs.TextFault as text_fault
use Rattle.cil_specs.specs.Names.{is_letter, is_digit}
use Rattle.cil_specs.specs.Statements.{Statements}
use Rattle.cil_specs.specs.ModuleText.{IsModuleText, IsTextFault}
use Rattle.cil_specs.specs.Joined.{Module, Placed, joined}
use Rattle.cil_specs.specs.PolicyFault.{PolicyFault}
use Rattle.cil_specs.specs.PolicyFault as policy_fault
use Rattle.cil_specs.specs.Kept.{Optionals, IsFirstFault}
use Rattle.cil_specs.specs.Meaning.{Meaning, Means}
use Rattle.cil_store_specs.specs.Store.{Entry, Store, empty, put, put_name, without, without_name, has_entry, is_installed, has_room, active}

-- the modules of entries, by the entries' names and texts
abbrev pub AreModules : List Entry → List Module → Type 0
AreModules [] [] = Unit {0}
AreModules (e ∷ entries) (m ∷ modules) = (m.name ≡ e.name) × IsModuleText e.text m.statements × AreModules entries modules
AreModules [] (m ∷ modules) = ⊥
AreModules (e ∷ entries) [] = ⊥

-- the joined policy of a store is that of its active entries
abbrev pub IsPolicyOf : Store → List Placed → Type 0
IsPolicyOf store policy = (modules : List Module) × AreModules (active store) modules × (policy ≡ joined modules)

-- What a store means, whose policy compiles.
pub record IsMeaningOf (store : Store) (meaning : Meaning) : Type 0 where
  pub policy : List Placed
  pub kept : Optionals
  pub is_policy : IsPolicyOf store policy
  pub means : Means policy kept meaning

-- An edit of the store (semodule(8)): a text is installed at a name and a priority, or what stands there is removed; a name is enabled
-- or disabled.
pub data Edit : Type 0 where
  install : List ℕ → ℕ → List ℕ → Edit
  remove : List ℕ → ℕ → Edit
  enable : List ℕ → Edit
  disable : List ℕ → Edit

-- Why an edit is refused: by the store, with a code and a word; by a text or the policy, with a code, a module, a place and a
-- word; or when memory runs out.
pub data Refusal : Type 0 where
  by_store : ℕ → List ℕ → Refusal
  at_place : ℕ → List ℕ → Place → List ℕ → Refusal
  for_memory : Refusal

abbrev pub begins_module_name : ℕ → Bool
begins_module_name b = is_letter b || (is_digit b || b == 95)

-- a letter, a digit or _, then letters, digits, _, - or dots, at most 255 bytes
abbrev pub is_module_name : List ℕ → Bool
is_module_name [] = false
is_module_name (b ∷ bytes) = begins_module_name b && (list_all (λ c. begins_module_name c || (c == 45 || c == 46)) bytes && nat_le (length (b ∷ bytes)) 255)

-- a priority is 1 to 999
abbrev pub is_priority : ℕ → Bool
is_priority priority = nat_le 1 priority && nat_le priority 999

-- How the store refuses an edit by the name, the priority and the rest, by the first that applies.
abbrev pub name_refusal : List ℕ → Option Refusal → Option Refusal
name_refusal name rest = if is_module_name name then rest else Some (by_store 30 name)

abbrev pub priority_refusal : ℕ → Option Refusal → Option Refusal
priority_refusal priority rest = if is_priority priority then rest else Some (by_store 31 (decimal priority))

-- an install of a text of some length: 30, 31, a text of more than 2 ^ 24 bytes, a store that has no room for it
abbrev pub install_refusal : Store → List ℕ → ℕ → ℕ → Option Refusal
install_refusal store name priority size =
    name_refusal name (priority_refusal priority
    (if nat_lt 16777216 size then Some (by_store 34 name)
    else if has_room name priority size store.entries then None else Some (by_store 33 name)))

-- a removal: 30, 31, nothing is installed there
abbrev pub remove_refusal : Store → List ℕ → ℕ → Option Refusal
remove_refusal store name priority =
    name_refusal name (priority_refusal priority (if has_entry name priority store.entries then None else Some (by_store 32 name)))

-- a change of state: 30, nothing of the name is installed
abbrev pub state_refusal : Store → List ℕ → Option Refusal
state_refusal store name = name_refusal name (if is_installed name store.entries then None else Some (by_store 32 name))

-- how the store refuses an edit
abbrev pub store_refusal : Store → Edit → Option Refusal
store_refusal store (install name priority text) = install_refusal store name priority (length text)
store_refusal store (remove name priority) = remove_refusal store name priority
store_refusal store (enable name) = state_refusal store name
store_refusal store (disable name) = state_refusal store name

-- the refusal of an edit for the fault of its text
abbrev pub IsTextRefusal : Edit → Refusal → Type 0
IsTextRefusal (install name priority text) refusal = (fault : TextFault) × IsTextFault text fault × (refusal ≡ at_place (text_fault.code_of fault.kind) name fault.at fault.word)
IsTextRefusal (remove name priority) refusal = ⊥
IsTextRefusal (enable name) refusal = ⊥
IsTextRefusal (disable name) refusal = ⊥

-- the text of an edit, if it brings one, spells a module
abbrev pub HasGoodText : Edit → Type 0
HasGoodText (install name priority text) = (statements : Statements) × IsModuleText text statements
HasGoodText (remove name priority) = Unit {0}
HasGoodText (enable name) = Unit {0}
HasGoodText (disable name) = Unit {0}

-- the disabled names, of which one is left out where nothing of it is installed any more
abbrev pub still_disabled : List ℕ → List Entry → List (List ℕ) → List (List ℕ)
still_disabled name entries names = if is_installed name entries then names else without_name name names

-- The store after an edit. An install leaves the state of its name; with the last priority of a name its state is cleared.
abbrev pub changed : Store → Edit → Store
changed store (install name priority text) = record { entries = put (record { name = name; priority = priority; text = text }) store.entries; disabled = store.disabled }
changed store (remove name priority) = record { entries = without name priority store.entries; disabled = still_disabled name (without name priority store.entries) store.disabled }
changed store (enable name) = record { entries = store.entries; disabled = without_name name store.disabled }
changed store (disable name) = record { entries = store.entries; disabled = put_name name store.disabled }

-- An edit is not taken: the store refuses it, or else its text has a fault. Nothing is asked of the policy.
pub data IsNotTaken (store : Store) (edit : Edit) (refusal : Refusal) : Type 0 where
  by_itself : store_refusal store edit ≡ Some refusal → IsNotTaken store edit refusal
  by_its_text : store_refusal store edit ≡ None → IsTextRefusal edit refusal → IsNotTaken store edit refusal

-- An edit is taken where the store doesn't refuse it and its text, if it brings one, spells a module. The store is then the changed one.
pub record IsTaken (store : Store) (edit : Edit) (new : Store) : Type 0 where
  pub not_refused : store_refusal store edit ≡ None
  pub good_text : HasGoodText edit
  pub is : new ≡ changed store edit

-- the refusal of a store for the first fault of its policy
abbrev pub IsPolicyRefusal : Store → Refusal → Type 0
IsPolicyRefusal store refusal = (policy : List Placed) × (fault : PolicyFault) × IsPolicyOf store policy × IsFirstFault policy fault
    × (refusal ≡ at_place (policy_fault.code_of fault.kind) fault.module_name fault.at fault.word)

-- an edit is accepted, and leads to another store; or it is refused
pub data Judgement : Type 0 where
  accepts : Store → Judgement
  refuses : Refusal → Judgement

-- Edits are taken in turn, each by the store that those before it lead to. Nothing is asked of the policies in between.
abbrev pub AreTaken : Store → List Edit → Store → Type 0
AreTaken store [] new = new ≡ store
AreTaken store (edit ∷ edits) new = (mid : Store) × IsTaken store edit mid × AreTaken mid edits new

-- What is judged of edits that are made at once: the first one that is not taken refuses them; or else the policy of the store that
-- they lead to does; or else that store, which has a meaning, is accepted.
pub data NextOfAll (store : Store) (edits : List Edit) (judgement : Judgement) : Type 0 where
  one_not_taken : (before : List Edit) (edit : Edit) (after : List Edit) (mid : Store) (refusal : Refusal) → edits ≡ before ++ edit ∷ after → AreTaken store before mid
      → IsNotTaken mid edit refusal → judgement ≡ refuses refusal → NextOfAll store edits judgement
  bad_policy_of_all : (new : Store) (refusal : Refusal) → AreTaken store edits new → IsPolicyRefusal new refusal → judgement ≡ refuses refusal → NextOfAll store edits judgement
  all_good : (new : Store) (meaning : Meaning) → AreTaken store edits new → IsMeaningOf new meaning → judgement ≡ accepts new → NextOfAll store edits judgement

-- how many bytes of an edit's text a batch counts: of a text that no store takes, one more than the greatest that it takes
abbrev pub held_bytes : Edit → ℕ
held_bytes (install name priority text) = min (length text) 16777217
held_bytes (remove name priority) = 0
held_bytes (enable name) = 0
held_bytes (disable name) = 0

-- the word of the refusal of a batch that is too long
abbrev pub batch_word : List ℕ
batch_word = codes "batch"

-- a batch has more than 8192 edits, or more than 2 ^ 26 bytes of its texts are counted
abbrev pub is_too_long : List Edit → Bool
is_too_long edits = nat_lt 8192 (length edits) || nat_lt 67108864 (sum_by held_bytes edits)

-- What is judged of a batch, edits that are made as one: it is too long; or else what is judged of its edits at once. An edit is a batch
-- of one.
pub data Next (store : Store) (edits : List Edit) (judgement : Judgement) : Type 0 where
  too_long : is_too_long edits ≡ true → judgement ≡ refuses (by_store 35 batch_word) → Next store edits judgement
  at_once : is_too_long edits ≡ false → NextOfAll store edits judgement → Next store edits judgement

-- an install of an entry
abbrev pub install_of : Entry → Edit
install_of e = install e.name e.priority e.text

-- What a list of entries leads to that are installed at once on the empty store.
abbrev pub Of : List Entry → Judgement → Type 0
Of entries judgement = NextOfAll empty (map install_of entries) judgement
