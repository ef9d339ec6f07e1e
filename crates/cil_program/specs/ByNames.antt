-- What is answered where statements outside the language are taken by their names alone.
use Rattle.std.specs.Prelude.{◌≡◌, ◌<◌, ℕ, true, List, [], ◌∷◌, ◌++◌, Contains, length, map, codes, decimal}
use Rattle.std.specs.List.{AllZip, concat}
use Rattle.cil_specs.specs.TextFault.{TextFault}
use Rattle.cil_specs.specs.TextFault as text_fault
use Rattle.cil_store_specs.specs.Next.{Refusal, at_place, by_store, for_memory}
use Rattle.cil_store_specs.specs.Store.{Entry}
use Rattle.cil_text.specs.Image.{FaultIs, kind_of, place_of, shown}
use Rattle.cil_reader.specs.declared.fault.TextFault.TheVariants as text_faults
use Rattle.cil_projection.specs.Conditions.{Settings, Known, Collects, settings_of, with_value}
use Rattle.cil_projection.specs.Statements.{Counts, IsProjectionFault, Projects, Tallies, no_counts}
use Rattle.cil_projection.specs.declared.projecting.TheConstants.{DECLARATIONS}
use Rattle.cil_program.specs.CommandLine.{Compiles, Content, IsEntryFor, IsReadOf, IsUnreadable, NamesModule, unreadable_line}
use Rattle.cil_program.specs.Conditionals.{Conditionals, Setting}
use Rattle.cil_program.specs.Meanings.{refusal_text}
use Rattle.cil_program.specs.Packed.{packed_of, packed_text}
use Rattle.cil_program.specs.Reasons.{reason_line}
use Rattle.cil_program.specs.Kinds.{kinds_text}
use Rattle.cil_program.specs.Targets.{IsPathIn, unwritable_text}
use Rattle.cil_program.specs.Wanted.{Wanted, compiled, in_folder, kinds, projections}
use Rattle.cil_program.specs.declared.command_line.compile.Report.{Report}
use Rattle.cil_program.specs.declared.command_line.reason.Reason.{Reason}
use Rattle.cil_program.specs.declared.command_line.foreign.Projected.{Projected}
use Rattle.cil_program.specs.declared.command_line.notes.ModuleFault.{ModuleFault}
use Rattle.cil_program.specs.declared.command_line.foreign.NotProjected.{NotProjected}
use Rattle.cil_program.specs.declared.command_line.foreign.NotProjected.TheVariants.{AtFault, TooLong, Memory}

-- what is done with each of some things in turn
abbrev pub InTurn : {X S : Type 0} → (X → S → S → Type 0) → List X → S → S → Type 0
InTurn R [] old new = new ≡ old
InTurn {S = S} R (x ∷ xs) old new = (mid : S) × R x old mid × InTurn R xs mid new

-- a value is given to a boolean
abbrev pub IsGiven : Setting → Known → Known → Type 0
IsGiven setting old new = new ≡ with_value old setting.name setting.value

-- What is known of booleans by what is asked and by what texts declare.
pub record IsKnown (conditionals : Conditionals) (texts : List (List ℕ)) (known : Known) : Type 0 where
  pub given : Known
  pub gives : InTurn IsGiven conditionals.settings (record { both = conditionals.both; names = []; values = [] }) given
  pub collects : InTurn Collects texts given known

-- projections of texts, one of each; there is more behind the first
abbrev pub AreProjections : Settings → List ℕ → List (List ℕ) → List (List ℕ) → Type 0
AreProjections settings more [] [] = Unit {0}
AreProjections settings more [] (projected ∷ others) = ⊥
AreProjections settings more (text ∷ texts) [] = ⊥
AreProjections settings more (text ∷ texts) (projected ∷ others) =
    ((projection : List ℕ) × Projects settings text projection × (projected ≡ projection ++ more)) × AreProjections settings [] texts others

-- Texts are projected as it is asked, and what is taken of them by its names is counted. The declarations stand behind the first.
pub record AreProjected (conditionals : Conditionals) (texts projected : List (List ℕ)) (counts : Counts) : Type 0 where
  pub known : Known
  pub is_known : IsKnown conditionals texts known
  pub projections : AreProjections (settings_of known) DECLARATIONS.now texts projected
  pub counted : InTurn (Tallies (settings_of known)) texts no_counts counts

-- why files aren't projected, of which these are the paths and the texts
abbrev pub AreHindered : List (List ℕ × List ℕ) → NotProjected → Type 0
AreHindered files (AtFault path fault packed) =
    (text : List ℕ) × Contains files (path.now, text) × FaultIs fault (IsProjectionFault text) × (packed ≡ packed_of text)
AreHindered files (TooLong path) = (text : List ℕ) × Contains files (path.now, text) × (16777216 < length text)
AreHindered files Memory = Unit {0}

-- Why the text of a module isn't projected, and what else is told of it: it is longer than a store takes; or it has a fault, and may
-- look like a package.
pub data IsNotProjected (name text : List ℕ) (refusal : Refusal) (hint : List ℕ) : Type 0 where
  is_longer : 16777216 < length text → refusal ≡ by_store 34 name → hint ≡ [] → IsNotProjected name text refusal hint
  is_at_fault : (fault : TextFault) → IsProjectionFault text fault → refusal ≡ at_place (text_fault.code_of fault.kind) name fault.at fault.word
      → hint ≡ packed_text (packed_of text) → IsNotProjected name text refusal hint

-- how many statements of how many kinds are taken by their names
abbrev pub note_line : Counts → List ℕ
note_line counts =
    codes "note: " ++ (decimal counts.statements ++ (codes " statements of " ++ (decimal (length counts.keywords) ++ codes " kinds taken by their names alone\n")))

-- the refusal of a module for a fault of its text
abbrev pub refusal_for : ModuleFault → Refusal
refusal_for fault = at_place (text_fault.code_of (kind_of fault.kind)) fault.name.now (place_of fault.at) (shown fault.word)

-- the refusal that tells why files aren't projected
abbrev pub IsRefusalBy : NotProjected → Refusal → Type 0
IsRefusalBy (AtFault path text_faults.Memory packed) refusal = refusal ≡ for_memory
IsRefusalBy (AtFault path (text_faults.Found kind at word) packed) refusal =
    (name : List ℕ) × NamesModule path.now name × (refusal ≡ at_place (text_fault.code_of (kind_of kind)) name (place_of at) (shown word))
IsRefusalBy (TooLong path) refusal = (name : List ℕ) × NamesModule path.now name × (refusal ≡ by_store 34 name)
IsRefusalBy Memory refusal = refusal ≡ for_memory

-- and what is told behind it
abbrev pub hint_by : NotProjected → List ℕ
hint_by (AtFault path text_faults.Memory packed) = []
hint_by (AtFault path (text_faults.Found kind at word) packed) = packed_text packed
hint_by (TooLong path) = []
hint_by Memory = []

-- a file that can't be read, and why
abbrev pub unreadable_text : List ℕ → Reason → List ℕ
unreadable_text path reason = unreadable_line path ++ reason_line reason

-- entries for files at paths, of these texts
abbrev pub AreEntriesFor : List (List ℕ) → List (List ℕ) → List Entry → Type 0
AreEntriesFor [] [] [] = Unit {0}
AreEntriesFor (path ∷ paths) (text ∷ texts) (entry ∷ entries) = IsEntryFor path text entry × AreEntriesFor paths texts entries
AreEntriesFor paths texts entries = ⊥

-- What is printed and told of projected files, and the exit status: the note, and then what is of them where they are compiled, or the
-- projections, or the kinds of statements that were taken by their names, or that a projection can't be written, and why; or that memory
-- ran out. Of what stands in files that are written nothing is told.
pub data AnswersProjected (paths projected : List (List ℕ)) (counts : Counts) (wanted : Wanted)
    (printed told : List ℕ) (status : ℕ) : Type 0 where
  are_compiled : (report : Report) (entries : List Entry) (answer : List ℕ) → wanted ≡ compiled report → AreEntriesFor paths projected entries
      → Compiles true entries report printed answer status → told ≡ note_line counts ++ answer
      → AnswersProjected paths projected counts wanted printed told status
  are_printed : wanted ≡ projections → printed ≡ concat projected → told ≡ note_line counts → status ≡ 0
      → AnswersProjected paths projected counts wanted printed told status
  are_counted : wanted ≡ kinds → printed ≡ kinds_text counts → told ≡ note_line counts → status ≡ 0
      → AnswersProjected paths projected counts wanted printed told status
  are_stored : (folder : List ℕ) → wanted ≡ in_folder folder → printed ≡ [] → told ≡ note_line counts → status ≡ 0
      → AnswersProjected paths projected counts wanted printed told status
  one_unwritable : (folder path target : List ℕ) (reason : Reason) → wanted ≡ in_folder folder → Contains paths path → IsPathIn folder path target
      → printed ≡ [] → told ≡ note_line counts ++ unwritable_text target reason → status ≡ 3
      → AnswersProjected paths projected counts wanted printed told status
  are_not_held : printed ≡ [] → told ≡ refusal_text true for_memory → status ≡ 1
      → AnswersProjected paths projected counts wanted printed told status

-- what is printed and told of what the code projected
abbrev pub AnswersFor : Projected → Wanted → List ℕ → List ℕ → ℕ → Type 0
AnswersFor p wanted = AnswersProjected (map (λ file. file.path.now) p.files.items) (map (λ file. file.text.items) p.files.items) p.tally wanted

-- What is printed and told of files whose statements outside the language are taken by their names alone, and the exit status: what is
-- of the projections of the texts that were read; or that a file can't be read, or why one isn't projected, or that memory ran out.
pub data AnswersByNames (content : List ℕ → Content) (paths : List (List ℕ)) (conditionals : Conditionals) (wanted : Wanted)
    (printed told : List ℕ) (status : ℕ) : Type 0 where
  answers : (texts projected : List (List ℕ)) (counts : Counts) → AllZip (λ path text. IsReadOf (content path) text) paths texts
      → AreProjected conditionals texts projected counts → AnswersProjected paths projected counts wanted printed told status
      → AnswersByNames content paths conditionals wanted printed told status
  one_unreadable : (path : List ℕ) (reason : Reason) → Contains paths path → IsUnreadable (content path)
      → printed ≡ [] → told ≡ unreadable_text path reason → status ≡ 3
      → AnswersByNames content paths conditionals wanted printed told status
  one_not_projected : (path text name hint : List ℕ) (refusal : Refusal) → Contains paths path → IsReadOf (content path) text
      → NamesModule path name → IsNotProjected name text refusal hint → printed ≡ [] → told ≡ refusal_text true refusal ++ hint → status ≡ 1
      → AnswersByNames content paths conditionals wanted printed told status
  none_held : printed ≡ [] → told ≡ refusal_text true for_memory → status ≡ 1
      → AnswersByNames content paths conditionals wanted printed told status
