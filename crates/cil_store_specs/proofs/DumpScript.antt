-- A dump as a script.
use Rattle.cil_store_specs.proofs.Common.{◌≡◌, inl, inr, ◌∷◌, ◌++◌, [], ℕ, ◌≤◌, List, Bool, true, false, ◌||◌, ◌==◌, nat_le, length, map, codes, decimal, bytes_eq, Option, Some, None, if◌then◌else◌, refl, ap, sym, ◌∙◌, subst, true≢false, length-append, arith, list_all, list_any, AllByRecursion, and_parts, leb-true, or_cases, append-nil, take_all, bytes_eq-Decides, all-weaker, all-append, both_true, Entry, Store, IsStore, empty, is_installed, IsEntryWithinLimits, IsWithinLimits, install, disable, install_of, begins_module_name, is_module_name, Command, makes, commits, is_shown, IsGoodName, IsCommand, End, ends, Commands, whole, dump_edits, dump_commands, dump_text, Batch, state_of, held_as, AnswersAll, IsSession, Status, all_accepted, some_refused, status_of, last_end}
use Rattle.std.proofs.lemmas.Bool.Decides.{nat_tests}
use Rattle.std.proofs.lemmas.Fmt.{length-decimal-le}
use Rattle.cil_specs.proofs.GrowsLemmas.{all-grows}
use Rattle.cil_store_specs.proofs.OneScript.{one-script}
use Rattle.cil_store_specs.proofs.DumpLemmas.{answers-changed}

shown-byte : (b : ℕ) → (begins_module_name b || (b == 45 || b == 46)) ≡ true → is_shown b ≡ true
shown-byte b is = grind (arith, nat_tests)

shown-first : (b : ℕ) → begins_module_name b ≡ true → is_shown b ≡ true
shown-first b is = grind (arith, nat_tests)

-- the name of a module is a word of a script, of at most 255 bytes
word-of-name : (name : List ℕ) → is_module_name name ≡ true → IsGoodName name × (length name ≤ 255)
word-of-name [] is = absurd (true≢false (sym is))
word-of-name (b ∷ bytes) is =
    let first = and_parts (begins_module_name b) _ is in
    let more = and_parts (list_all (λ c. begins_module_name c || (c == 45 || c == 46)) bytes) (nat_le (length (b ∷ bytes)) 255) first.1 in (
      record {
        some = λ none. omega (arith, ap length none);
        shown = both_true (is_shown b) (list_all is_shown bytes) (shown-first b first.0) (all-grows (λ c. begins_module_name c || (c == 45 || c == 46)) is_shown shown-byte bytes more.0);
      },
      leb-true (length (b ∷ bytes)) 255 more.1,
    )

-- Each edit of a dump is a command.

install-command : (e : Entry) → IsEntryWithinLimits e → IsCommand (makes (install_of e))
install-command e is =
    let name = word-of-name e.name is.name in
    let least = leb-true e.priority 999 (and_parts (nat_le 1 e.priority) (nat_le e.priority 999) is.priority).1 in
    let number = length-decimal-le 3 e.priority (omega arith) (omega (arith, least)) (omega (arith, least)) in
    let size = length-decimal-le 8 (length e.text) (omega arith) (omega (arith, is.text)) (omega (arith, is.text)) in (
      (name.0, omega (arith, least), omega (arith, is.text)),
      omega (arith, length-append (codes "install") (32 ∷ (e.name ++ 32 ∷ (decimal e.priority ++ 32 ∷ decimal (length e.text)))), length-append e.name (32 ∷ (decimal e.priority ++ 32 ∷ decimal (length e.text))), length-append (decimal e.priority) (32 ∷ decimal (length e.text)), name.1, number, size),
    )

disable-command : (name : List ℕ) → is_module_name name ≡ true → IsCommand (makes (disable name))
disable-command name is =
    let word = word-of-name name is in
    (word.0, omega (arith, length-append (codes "disable") (32 ∷ name), word.1))

-- a name of which an entry is installed is that of a module
pub installed-name : (entries : List Entry) (name : List ℕ) → AllByRecursion IsEntryWithinLimits entries → is_installed name entries ≡ true → is_module_name name ≡ true
installed-name [] name all there = absurd (true≢false (sym there))
installed-name (e ∷ entries) name all there = elim (or_cases (bytes_eq e.name name) (is_installed name entries) there) [
  | inl same ↦ subst (λ n. is_module_name n ≡ true) ((bytes_eq-Decides e.name name).0 same) all.0.name
  | inr other ↦ installed-name entries name all.1 other
]

all-mapped : {X Y : Type 0} (P : Y → Type 0) (f : X → Y) (xs : List X) → AllByRecursion (λ x. P (f x)) xs → AllByRecursion P (map f xs)
all-mapped P f [] all = tt
all-mapped P f (x ∷ xs) all = (all.0, all-mapped P f xs all.1)

edit-commands : (store : Store) → IsWithinLimits store → AllByRecursion IsCommand (map makes (dump_edits store))
edit-commands store is =
    all-mapped IsCommand makes (dump_edits store) (all-append (λ edit. IsCommand (makes edit)) (map install_of store.entries) (map disable store.disabled)
    (all-mapped (λ edit. IsCommand (makes edit)) install_of store.entries (all-weaker IsEntryWithinLimits (λ e. IsCommand (makes (install_of e))) install-command store.entries is.each))
    (all-mapped (λ edit. IsCommand (makes edit)) disable store.disabled (all-weaker (λ name. is_installed name store.entries ≡ true) (λ name. IsCommand (makes (disable name))) (λ name there. disable-command name (installed-name store.entries name is.each there)) store.disabled is.disabled)))

-- and so are its begin and its commit
all-commands : (store : Store) → IsWithinLimits store → AllByRecursion IsCommand (dump_commands store)
all-commands store is = ((tt, omega arith), all-append IsCommand (map makes (dump_edits store)) (commits ∷ []) (edit-commands store is) ((tt, omega arith), tt))

-- Each of its edits is held as it is.
pub edits-kept : (store : Store) → IsWithinLimits store → AllByRecursion (λ edit. held_as edit ≡ edit) (dump_edits store)
edits-kept store is =
    all-append (λ edit. held_as edit ≡ edit) (map install_of store.entries) (map disable store.disabled)
    (all-mapped (λ edit. held_as edit ≡ edit) install_of store.entries
    (all-weaker IsEntryWithinLimits (λ e. held_as (install_of e) ≡ install_of e) (λ e within. ap (install e.name e.priority) (take_all 16777217 e.text (omega (arith, within.text)))) store.entries is.each))
    (all-mapped (λ edit. held_as edit ≡ edit) disable store.disabled
    (all-weaker (λ name. is_installed name store.entries ≡ true) (λ name. held_as (disable name) ≡ disable name) (λ name there. refl) store.disabled is.disabled))

-- A dump is a script of the batch of its edits.
pub commands-of-dump : (store : Store) → IsWithinLimits store → Commands (dump_text store) (dump_commands store) ends
commands-of-dump store is = whole (all-commands store is) [] (sym (append-nil (dump_text store))) refl

-- And of nothing else.
pub dump-alone : (store : Store) (commands : List Command) (end : End) → IsWithinLimits store → Commands (dump_text store) commands end → (commands ≡ dump_commands store) × (end ≡ ends)
dump-alone store commands end is read = one-script (dump_text store) commands (dump_commands store) end ends read (commands-of-dump store is)

-- A session over a dump answers its commands, and its script ends with them.
pub session-answers : (store new : Store) (written : List ℕ) (status : Status) → IsWithinLimits store → (made : IsSession (dump_text store) true empty new written status)
    → AnswersAll 1 (state_of empty) (dump_commands store) made.answers made.last × (made.end ≡ ends)
session-answers store new written status within made =
    let dump = subst (λ text. Commands text made.commands made.end) (append-nil (dump_text store)) (made.are_commands [] (λ over. refl)) in
    let same = dump-alone store made.commands made.end within dump in
    (subst (λ commands. AnswersAll 1 (state_of empty) commands made.answers made.last) same.0 made.answered, same.1)

-- Where no command is refused, it leaves the store that was dumped.
pub session-of-dump : (store new : Store) (written : List ℕ) → IsStore store → IsWithinLimits store → IsSession (dump_text store) true empty new written all_accepted → new ≡ store
session-of-dump store new written is within made =
    let (answered, end) = session-answers store new written all_accepted within made in
    made.store_is ∙ (answers-changed store made.answers made.last is (edits-kept store within) answered
    (by (list_any (λ a. a.refuses) made.answers) made.last.batch refl (made.status_is ∙ ap (λ e. status_of made.answers (last_end e made.last.batch)) end))).0
  where
    by : (b : Bool) (batch : Option Batch) → list_any (λ a. a.refuses) made.answers ≡ b → all_accepted ≡ status_of made.answers (last_end ends batch) → list_any (λ a. a.refuses) made.answers ≡ false
    by b (Some batch) refused status = absurd cc
    by true None refused status = absurd (let e : all_accepted ≡ some_refused = status ∙ ap (λ b. if b then some_refused else all_accepted) refused in cc)
    by false None accepted status = accepted
