-- Which branch of a conditional statement stays.
use Rattle.std.specs.Prelude.{◌≡◌, ℕ, Bool, true, false, cond, not, is_some, ◌||◌, List, [], ◌∷◌, ◌++◌, codes, bytes_eq, Option, Some, None, IsTrue, refl}
use Rattle.std.specs.Bool.{beq}
use Rattle.std.specs.Option.{option_map_or}
use Rattle.std.proofs.Common.{◌∙◌, sym, ap, subst, append-nil}
use Rattle.std.proofs.lemmas.Bool.{true≢false}
use Rattle.std.proofs.lemmas.Option.{none-some, same_Some}
use Rattle.std.proofs.lemmas.Slice.Eq.{bytes_eq-Decides}
use Rattle.cil_specs.specs.Place.{Place}
use Rattle.cil_specs.specs.Trees.{Trees, none, a_word, a_string, a_list, are_lists}
use Rattle.cil_specs.specs.Shape.{is_among}
use Rattle.cil_specs.proofs.Runs.{both_true}
use Rattle.cil_projection.specs.declared.table.Table.TheVariants.{Booleans, Tunables}
use Rattle.cil_projection.specs.Pieces.{Piece, copied, blanked, taken}
use Rattle.cil_projection.specs.Forms.{joined, truth_word}
use Rattle.cil_projection.specs.Conditions.{Settings, are_branches, branch_value, differ, first_value, list_value}
use Rattle.cil_projection.specs.Statements.{behind_first, branch_projected, branches_need, chosen, condition_names, condition_value, conditional, is_taken, kept_branches, kept_rules, projected, rules, tunable_projected, value_for}
use Rattle.cil_projection.specs.Laws.{trees_for, branch_parts, copies, rule_parts}
use Rattle.cil_projection.proofs.PlainLemmas.{are_found_plain, are_plain, plain_branches, plain_condition}
use Rattle.cil_projection.proofs.WordLemmas.{words_are}

-- What is copied, one piece behind the other.

copies-append : (xs ys : List Piece) → copies (xs ++ ys) ≡ copies xs ++ copies ys
copies-append [] ys = refl
copies-append (copied from to ∷ xs) ys = ap (λ l. (from, to) ∷ l) (copies-append xs ys)
copies-append (_ ∷ xs) ys = copies-append xs ys

-- any word will do
abbrev any_word : List ℕ → Bool
any_word name = true

any_words : (trees : Trees) → IsTrue (words_are any_word trees)
any_words none = refl
any_words (a_word at word rest) = any_words rest
any_words (a_string at text rest) = any_words rest
any_words (a_list at end items rest) = both_true (words_are any_word items) (words_are any_word rest) (any_words items) (any_words rest)

-- pieces that are made of names are no copies
no_copies : (pieces : List Piece) → IsTrue (are_plain any_word pieces) → copies pieces ≡ []
no_copies [] h = refl
no_copies (copied from to ∷ pieces) h = absurd (true≢false (sym h))
no_copies (blanked from to ∷ pieces) h = absurd (true≢false (sym h))
no_copies (_ ∷ pieces) h = no_copies pieces h

copies_cond : (b : Bool) (xs ys : List Piece) → copies (cond b xs ys) ≡ cond b (copies xs) (copies ys)
copies_cond true xs ys = refl
copies_cond false xs ys = refl

-- the rules that are kept
kept_copies : (from : ℕ) (trees : Trees) (to : ℕ) → copies (kept_rules from trees to) ≡ rule_parts trees
kept_copies from none to = refl
kept_copies from (a_word at word rest) to = kept_copies from rest to
kept_copies from (a_string at text rest) to = kept_copies from rest to
kept_copies from (a_list at end (a_word place word arguments) rest) to = by (is_among rules word) (kept_copies end rest to) (kept_copies from rest to)
  where
    by : (b : Bool) → copies (kept_rules end rest to) ≡ rule_parts rest → copies (kept_rules from rest to) ≡ rule_parts rest
        → copies (cond b (blanked from at.offset ∷ copied at.offset end ∷ kept_rules end rest to) (kept_rules from rest to)) ≡ cond b ((at.offset, end) ∷ []) [] ++ rule_parts rest
    by true h k = ap (λ l. (at.offset, end) ∷ l) h
    by false h k = k
kept_copies from (a_list at end _ rest) to = kept_copies from rest to

-- where the rules of the branches that are taken stand
abbrev taken_parts : Settings → Bool → Trees → List (ℕ × ℕ)
taken_parts settings holds none = []
taken_parts settings holds (a_word at word rest) = taken_parts settings holds rest
taken_parts settings holds (a_string at text rest) = taken_parts settings holds rest
taken_parts settings holds (a_list at end (a_word place branch inner) rest) = cond (is_taken settings holds branch) (rule_parts inner) [] ++ taken_parts settings holds rest
taken_parts settings holds (a_list at end items rest) = taken_parts settings holds rest

branch_copies : (settings : Settings) (holds : Bool) (from : ℕ) (trees : Trees) (to : ℕ) → copies (kept_branches settings holds from trees to) ≡ taken_parts settings holds trees
branch_copies settings holds from none to = refl
branch_copies settings holds from (a_word at word rest) to = branch_copies settings holds from rest to
branch_copies settings holds from (a_string at text rest) to = branch_copies settings holds from rest to
branch_copies settings holds from (a_list at end none rest) to = branch_copies settings holds from rest to
branch_copies settings holds from (a_list at end (a_string place text more) rest) to = branch_copies settings holds from rest to
branch_copies settings holds from (a_list at end (a_list place last inner more) rest) to = branch_copies settings holds from rest to
branch_copies settings holds from (a_list at end (a_word place branch inner) rest) to =
    by (is_taken settings holds branch) (branch_copies settings holds end rest to) (branch_copies settings holds from rest to)
  where
    by : (b : Bool) → copies (kept_branches settings holds end rest to) ≡ taken_parts settings holds rest → copies (kept_branches settings holds from rest to) ≡ taken_parts settings holds rest
        → copies (cond b (kept_rules from inner end ++ kept_branches settings holds end rest to) (kept_branches settings holds from rest to))
        ≡ cond b (rule_parts inner) [] ++ taken_parts settings holds rest
    by true h k =
        copies-append (kept_rules from inner end) (kept_branches settings holds end rest to) ∙ ap (λ l. l ++ copies (kept_branches settings holds end rest to)) (kept_copies from inner end)
        ∙ ap (λ l. rule_parts inner ++ l) h
    by false h k = k

-- The words of branches.

-- the word of a branch for a value
abbrev word_for : Bool → List ℕ
word_for holds = cond holds (codes "true") (codes "false")

truth_is : (word : List ℕ) (value : Bool) → truth_word word ≡ Some value → word ≡ word_for value
truth_is word value is = by (bytes_eq word (codes "true")) (bytes_eq word (codes "false")) (bytes_eq-Decides word (codes "true")).0 (bytes_eq-Decides word (codes "false")).0 is
  where
    by : (b c : Bool) → (b ≡ true → word ≡ codes "true") → (c ≡ true → word ≡ codes "false") → cond b (Some true) (cond c (Some false) None) ≡ Some value → word ≡ word_for value
    by true c h k is = h refl ∙ ap word_for (same_Some true value is)
    by false true h k is = k refl ∙ ap word_for (same_Some false value is)
    by false false h k is = absurd (none-some value is)

same_words : (value holds : Bool) → bytes_eq (word_for value) (word_for holds) ≡ beq holds value
same_words true true = refl
same_words true false = refl
same_words false true = refl
same_words false false = refl

is_word_for : (word : List ℕ) (value holds : Bool) → truth_word word ≡ Some value → bytes_eq word (word_for holds) ≡ beq holds value
is_word_for word value holds is = ap (λ word. bytes_eq word (word_for holds)) (truth_is word value is) ∙ same_words value holds

truth_of : (place : Place) (word : List ℕ) (inner : Trees) (value : Bool) → branch_value (a_word place word inner) ≡ Some value → truth_word word ≡ Some value
truth_of place word none value is = absurd (none-some value is)
truth_of place word (a_word second id rest) value is = absurd (none-some value is)
truth_of place word (a_string second text rest) value is = absurd (none-some value is)
truth_of place word (a_list at end items rest) value is = by (are_lists rest) is
  where
    by : (b : Bool) → cond b (truth_word word) None ≡ Some value → truth_word word ≡ Some value
    by true is = is
    by false is = absurd (none-some value is)

-- What holds of one branch, and of two for different values, holds of branches.
module _ (P : Trees → Type 0)
    (one : (at place : Place) (end : ℕ) (word : List ℕ) (inner : Trees) (value : Bool) → branch_value (a_word place word inner) ≡ Some value → P (a_list at end (a_word place word inner) none))
    (two : (at place : Place) (end : ℕ) (word : List ℕ) (inner : Trees) (value : Bool) (second spot : Place) (last : ℕ) (id : List ℕ) (others : Trees) (other : Bool)
    → branch_value (a_word place word inner) ≡ Some value → branch_value (a_word spot id others) ≡ Some other → not (beq value other) ≡ true
    → P (a_list at end (a_word place word inner) (a_list second last (a_word spot id others) none))) where
  first_branch : (at : Place) (end : ℕ) (items : Trees) (found : Option Bool) → branch_value items ≡ found → is_some found ≡ true → P (a_list at end items none)
  first_branch at end items None is some = absurd (true≢false (sym some))
  first_branch at end none (Some value) is some = absurd (none-some value is)
  first_branch at end (a_word place word inner) (Some value) is some = one at place end word inner value is
  first_branch at end (a_string place text rest) (Some value) is some = absurd (none-some value is)
  first_branch at end (a_list place last inner rest) (Some value) is some = absurd (none-some value is)

  second_branch : (at second : Place) (end last : ℕ) (items others : Trees) (x y : Option Bool) → branch_value items ≡ x → branch_value others ≡ y → differ x y ≡ true
      → P (a_list at end items (a_list second last others none))
  second_branch at second end last items others None y is are differs = absurd (true≢false (sym differs))
  second_branch at second end last items others (Some value) None is are differs = absurd (true≢false (sym differs))
  second_branch at second end last none others (Some value) (Some other) is are differs = absurd (none-some value is)
  second_branch at second end last (a_string place text rest) others (Some value) (Some other) is are differs = absurd (none-some value is)
  second_branch at second end last (a_list place from inner rest) others (Some value) (Some other) is are differs = absurd (none-some value is)
  second_branch at second end last (a_word place word inner) none (Some value) (Some other) is are differs = absurd (none-some other are)
  second_branch at second end last (a_word place word inner) (a_string spot text rest) (Some value) (Some other) is are differs = absurd (none-some other are)
  second_branch at second end last (a_word place word inner) (a_list spot from more rest) (Some value) (Some other) is are differs = absurd (none-some other are)
  second_branch at second end last (a_word place word inner) (a_word spot id others) (Some value) (Some other) is are differs =
      two at place end word inner value second spot last id others other is are differs

  branches_are : (trees : Trees) → IsTrue (are_branches trees) → P trees
  branches_are none h = absurd (true≢false (sym h))
  branches_are (a_word at word rest) h = absurd (true≢false (sym h))
  branches_are (a_string at text rest) h = absurd (true≢false (sym h))
  branches_are (a_list at end items none) h = first_branch at end items (branch_value items) refl h
  branches_are (a_list at end items (a_word second word rest)) h = absurd (true≢false (sym h))
  branches_are (a_list at end items (a_string second text rest)) h = absurd (true≢false (sym h))
  branches_are (a_list at end items (a_list second last others none)) h = second_branch at second end last items others (branch_value items) (branch_value others) refl refl h
  branches_are (a_list at end items (a_list second last others (a_word place word rest))) h = absurd (true≢false (sym h))
  branches_are (a_list at end items (a_list second last others (a_string place text rest))) h = absurd (true≢false (sym h))
  branches_are (a_list at end items (a_list second last others (a_list place from inner rest))) h = absurd (true≢false (sym h))

-- The rules of branches.

one_chosen : (b : Bool) (inner : Trees) → cond b (rule_parts inner) [] ++ [] ≡ rule_parts (cond b inner none)
one_chosen true inner = append-nil (rule_parts inner)
one_chosen false inner = refl

two_chosen : (holds value other : Bool) (inner others : Trees) → not (beq value other) ≡ true
    → cond (beq holds value) (rule_parts inner) [] ++ (cond (beq holds other) (rule_parts others) [] ++ []) ≡ rule_parts (cond (beq holds value) inner (cond (beq holds other) others none))
two_chosen true true true inner others differs = absurd (true≢false (sym differs))
two_chosen true true false inner others differs = append-nil (rule_parts inner)
two_chosen true false true inner others differs = append-nil (rule_parts others)
two_chosen true false false inner others differs = refl
two_chosen false true true inner others differs = refl
two_chosen false true false inner others differs = append-nil (rule_parts others)
two_chosen false false true inner others differs = append-nil (rule_parts inner)
two_chosen false false false inner others differs = absurd (true≢false (sym differs))

-- where not both are taken
taken_is : (settings : Settings) (holds : Bool) (place : Place) (word : List ℕ) (inner : Trees) (value : Bool) → settings.both ≡ false → branch_value (a_word place word inner) ≡ Some value
    → is_taken settings holds word ≡ beq holds value
taken_is settings holds place word inner value not_both is =
    ap (λ b. b || bytes_eq word (word_for holds)) not_both ∙ is_word_for word value holds (truth_of place word inner value is)

for_is : (holds : Bool) (at : Place) (end : ℕ) (items rest : Trees) (value : Bool) → branch_value items ≡ Some value
    → trees_for holds (a_list at end items rest) ≡ cond (beq holds value) (behind_first items) (trees_for holds rest)
for_is holds at end items rest value is = ap (λ found. cond (option_map_or (beq holds) found false) (behind_first items) (trees_for holds rest)) is

chosen_parts : (settings : Settings) (holds : Bool) (trees : Trees) → settings.both ≡ false → IsTrue (are_branches trees) → taken_parts settings holds trees ≡ rule_parts (trees_for holds trees)
chosen_parts settings holds trees not_both =
    branches_are (λ trees. taken_parts settings holds trees ≡ rule_parts (trees_for holds trees))
    (λ at place end word inner value is.
    ap (λ b. cond b (rule_parts inner) [] ++ []) (taken_is settings holds place word inner value not_both is) ∙ one_chosen (beq holds value) inner
    ∙ ap rule_parts (sym (for_is holds at end (a_word place word inner) none value is)))
    (λ at place end word inner value second spot last id others other is are differs.
    ap (λ b. cond b (rule_parts inner) [] ++ (cond (is_taken settings holds id) (rule_parts others) [] ++ [])) (taken_is settings holds place word inner value not_both is)
    ∙ ap (λ b. cond (beq holds value) (rule_parts inner) [] ++ (cond b (rule_parts others) [] ++ [])) (taken_is settings holds spot id others other not_both are)
    ∙ two_chosen holds value other inner others differs
    ∙ ap (λ rest. rule_parts (cond (beq holds value) inner rest)) (sym (for_is holds second last (a_word spot id others) none other are))
    ∙ ap rule_parts (sym (for_is holds at end (a_word place word inner) (a_list second last (a_word spot id others) none) value is)))
    trees

-- where both are
both_parts : (settings : Settings) (holds : Bool) (trees : Trees) → settings.both ≡ true → IsTrue (are_branches trees) → taken_parts settings holds trees ≡ branch_parts trees
both_parts settings holds trees both =
    branches_are (λ trees. taken_parts settings holds trees ≡ branch_parts trees)
    (λ at place end word inner value is. ap (λ b. cond (b || bytes_eq word (word_for holds)) (rule_parts inner) [] ++ []) both)
    (λ at place end word inner value second spot last id others other is are differs.
    ap (λ b. cond (b || bytes_eq word (word_for holds)) (rule_parts inner) [] ++ (cond (b || bytes_eq id (word_for holds)) (rule_parts others) [] ++ [])) both)
    trees

-- A conditional statement that is taken.

joined_is : (front pieces : List Piece) (found : Option (List Piece)) → joined (Some front) found ≡ Some pieces → (more : List Piece) × (found ≡ Some more) × (pieces ≡ front ++ more)
joined_is front pieces None is = absurd (none-some pieces is)
joined_is front pieces (Some more) is = (more, refl, sym (same_Some (front ++ more) pieces is))

abbrev TakenAs : Settings → ℕ → ℕ → Bool → List Piece → Trees → List Piece → Type 0
TakenAs settings from to holds names inner pieces = IsTrue (are_branches inner)
    × (joined (Some (kept_branches settings holds from inner to ++ taken (codes "booleanif") ∷ names)) (branches_need settings holds inner) ≡ Some pieces)

chosen_is : (settings : Settings) (from to : ℕ) (holds : Bool) (names : List Piece) (inner : Trees) (pieces : List Piece) → chosen settings from to (Some holds) names inner ≡ Some pieces
    → TakenAs settings from to holds names inner pieces
chosen_is settings from to holds names inner pieces is = by (are_branches inner) is
  where
    found : Option (List Piece)
    found = joined (Some (kept_branches settings holds from inner to ++ taken (codes "booleanif") ∷ names)) (branches_need settings holds inner)

    by : (b : Bool) → cond b found None ≡ Some pieces → IsTrue b × (found ≡ Some pieces)
    by true is = (refl, is)
    by false is = absurd (none-some pieces is)

-- of it the rules of taken branches are copied, and nothing else
taken_copies : (settings : Settings) (from to : ℕ) (holds : Bool) (arguments inner : Trees) (pieces : List Piece) → TakenAs settings from to holds (condition_names Booleans arguments) inner pieces
    → copies pieces ≡ taken_parts settings holds inner
taken_copies settings from to holds arguments inner pieces h =
    let names : List Piece = taken (codes "booleanif") ∷ condition_names Booleans arguments in
    let kept : List Piece = kept_branches settings holds from inner to in
    let p = joined_is (kept ++ names) pieces (branches_need settings holds inner) h.1 in
    ap copies p.2 ∙ copies-append (kept ++ names) p.0
    ∙ ap (λ l. copies (kept ++ names) ++ l) (no_copies p.0 (subst (λ found. IsTrue (are_found_plain any_word found)) p.1 (plain_branches any_word settings holds inner (any_words inner))))
    ∙ append-nil (copies (kept ++ names)) ∙ copies-append kept names
    ∙ ap (λ l. copies kept ++ l) (no_copies names (plain_condition any_word arguments (any_words arguments)))
    ∙ append-nil (copies kept) ∙ branch_copies settings holds from inner to

pub chosen_copied : (settings : Settings) (from to : ℕ) (arguments : Trees) (holds : Bool) (pieces : List Piece) → settings.both ≡ false → condition_value settings arguments ≡ Some holds
    → conditional settings from to arguments ≡ Some pieces → copies pieces ≡ rule_parts (trees_for holds (behind_first arguments))
chosen_copied settings from to arguments holds pieces not_both value is =
    let inner : Trees = behind_first arguments in
    let h = chosen_is settings from to holds (condition_names Booleans arguments) inner pieces (ap (λ value. chosen settings from to value (condition_names Booleans arguments) inner) (sym value) ∙ is) in
    taken_copies settings from to holds arguments inner pieces h ∙ chosen_parts settings holds inner not_both h.0

pub both_copied : (settings : Settings) (from to : ℕ) (arguments : Trees) (pieces : List Piece) → settings.both ≡ true → conditional settings from to arguments ≡ Some pieces
    → copies pieces ≡ branch_parts (behind_first arguments)
both_copied settings from to arguments pieces both = by (condition_value settings arguments)
  where
    inner : Trees
    inner = behind_first arguments

    by : (value : Option Bool) → chosen settings from to value (condition_names Booleans arguments) inner ≡ Some pieces → copies pieces ≡ branch_parts inner
    by None is = absurd (none-some pieces is)
    by (Some holds) is =
        let h = chosen_is settings from to holds (condition_names Booleans arguments) inner pieces is in
        taken_copies settings from to holds arguments inner pieces h ∙ both_parts settings holds inner both h.0

-- Conditional statements of tunables.

one_for : (settings : Settings) (from : ℕ) (b : Bool) (inner rest : Trees) (to : ℕ)
    → cond b (projected settings false from inner to) (projected settings false from rest to) ≡ projected settings false from (cond b inner rest) to
one_for settings from true inner rest to = refl
one_for settings from false inner rest to = refl

branch_is : (settings : Settings) (holds : Bool) (from to : ℕ) (trees : Trees) → IsTrue (are_branches trees)
    → branch_projected settings holds from to trees ≡ projected settings false from (trees_for holds trees) to
branch_is settings holds from to =
    branches_are (λ trees. branch_projected settings holds from to trees ≡ projected settings false from (trees_for holds trees) to)
    (λ at place end word inner value is. step at end place word inner none value is refl)
    (λ at place end word inner value second spot last id others other is are differs.
    step at end place word inner (a_list second last (a_word spot id others) none) value is (step second last spot id others none other are refl))
  where
    step : (at : Place) (end : ℕ) (place : Place) (word : List ℕ) (inner rest : Trees) (value : Bool) → branch_value (a_word place word inner) ≡ Some value
        → branch_projected settings holds from to rest ≡ projected settings false from (trees_for holds rest) to
        → branch_projected settings holds from to (a_list at end (a_word place word inner) rest) ≡ projected settings false from (trees_for holds (a_list at end (a_word place word inner) rest)) to
    step at end place word inner rest value is others =
        ap (λ b. cond b (projected settings false from inner to) (branch_projected settings holds from to rest)) (is_word_for word value holds (truth_of place word inner value is))
        ∙ ap (cond (beq holds value) (projected settings false from inner to)) others ∙ one_for settings from (beq holds value) inner (trees_for holds rest) to
        ∙ ap (λ trees. projected settings false from trees to) (sym (for_is holds at end (a_word place word inner) rest value is))

value_is : (value : Option Bool) (holds : Bool) (branches : Trees) → value ≡ Some holds → IsTrue (are_branches branches) → value_for value branches ≡ Some holds
value_is value holds branches is h = ap (λ b. cond b value None) h ∙ is

pub tunable_is : (settings : Settings) (from to : ℕ) (arguments : Trees) (holds : Bool) → first_value settings.value arguments ≡ Some holds → IsTrue (are_branches (behind_first arguments))
    → tunable_projected settings from to arguments ≡ projected settings false from (trees_for holds (behind_first arguments)) to ++ taken (codes "tunableif") ∷ condition_names Tunables arguments
tunable_is settings from to none holds value h = absurd (none-some holds value)
tunable_is settings from to (a_string at text rest) holds value h = absurd (none-some holds value)
tunable_is settings from to (a_word at word rest) holds value h =
    let names : List Piece = taken (codes "tunableif") ∷ condition_names Tunables (a_word at word rest) in
    ap (λ value. option_map_or (λ holds. branch_projected settings holds from to rest ++ names) value (copied from to ∷ [])) (value_is (settings.value word) holds rest value h)
    ∙ ap (λ l. l ++ names) (branch_is settings holds from to rest h)
tunable_is settings from to (a_list at end items rest) holds value h =
    let names : List Piece = taken (codes "tunableif") ∷ condition_names Tunables (a_list at end items rest) in
    ap (λ value. option_map_or (λ holds. branch_projected settings holds from to rest ++ names) value (copied from to ∷ [])) (value_is (list_value settings.value items) holds rest value h)
    ∙ ap (λ l. l ++ names) (branch_is settings holds from to rest h)
