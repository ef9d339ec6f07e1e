-- Where the bytes of a text that a projection has as they are come from.
use Rattle.std.specs.Prelude.{◌≡◌, ◌≢◌, ℕ, ◌++◌, Bool, true, false, cond, List, [], ◌∷◌, Option, Some, None, codes, bytes_eq, refl}
use Rattle.std.proofs.Common.{sym, ◌∙◌, inl, inr}
use Rattle.std.proofs.lemmas.Bool.{true≢false}
use Rattle.std.specs.List.{AllByRecursion}
use Rattle.std.specs.Option.{option_map_or}
use Rattle.cil_specs.proofs.NamesLemmas.{all-append}
use Rattle.cil_specs.specs.Place.{Place}
use Rattle.cil_specs.specs.Trees.{Trees, none, a_word, a_string, a_list}
use Rattle.cil_specs.specs.Shape.{is_among}
use Rattle.cil_projection.specs.declared.part.Part.{Part}
use Rattle.cil_projection.specs.declared.table.Table.TheVariants.{Booleans, Tunables}
use Rattle.cil_projection.specs.Pieces.{Piece, copied, blanked, taken, declared, needed, a_class, a_permission_set, opened, permission, closed}
use Rattle.cil_projection.specs.Forms.{joined, or_else, name_or_operator, names_in, fit, forms, fitting}
use Rattle.cil_projection.specs.Conditions.{Settings, are_branches, containers, list_value}
use Rattle.cil_projection.specs.Statements.{rules, is_taken, kept_rules, kept_branches, condition_names, condition_value, behind_first, branches_need, chosen, conditional, by_names, statement, or_copied, between, value_for, projected, one_projected, body_projected, tunable_projected, branch_projected, inner_projected}
use Rattle.cil_projection.specs.Readings.{tunable_value, AreLastOf, all_of_them, behind_word, behind_string, behind_list, AreStatements, top, past_word, past_string, past_list, in_body, in_branch, IsUnprojectedByWord, HasRule, BranchesHave, HasSource}
use Rattle.cil_projection.proofs.ReadingPieces.{AreMade, AreGood, MaybeMade, fit_made, name_made, names_made, branches_made, condition_made}

-- any name is good
abbrev pub Any : List ℕ → Type 0
Any name = Unit {0}

pub any_good : (trees : Trees) → AreGood Any trees
any_good none = tt
any_good (a_word at word rest) = (tt, any_good rest)
any_good (a_string at text rest) = any_good rest
any_good (a_list at end items rest) = (any_good items, any_good rest)

module _ (settings : Settings) (trees : Trees) (size : ℕ) where
  -- each has a source
  abbrev Sourced : List Piece → Type 0
  Sourced = AllByRecursion (HasSource settings trees size)

  append_sourced : (xs ys : List Piece) → Sourced xs → Sourced ys → Sourced (xs ++ ys)
  append_sourced xs ys = all-append (HasSource settings trees size) xs ys

  made_sourced : (inside : Bool) (pieces : List Piece) → AreMade Any inside pieces → Sourced pieces
  made_sourced inside [] made = tt
  made_sourced false (taken keyword ∷ pieces) made = (tt, made_sourced false pieces made)
  made_sourced false (declared table name ∷ pieces) made = (tt, made_sourced false pieces made.1)
  made_sourced false (needed table name ∷ pieces) made = (tt, made_sourced false pieces made.1)
  made_sourced false (a_class name ∷ pieces) made = (tt, made_sourced false pieces made.1)
  made_sourced false (a_permission_set name ∷ pieces) made = (tt, made_sourced false pieces made.1)
  made_sourced false (opened name ∷ pieces) made = (tt, made_sourced true pieces made.1)
  made_sourced true (permission name ∷ pieces) made = (tt, made_sourced true pieces made.1)
  made_sourced true (closed ∷ pieces) made = (tt, made_sourced false pieces made)
  made_sourced _ _ made = absurd made

  -- pieces that are there have sources
  abbrev MaybeSourced : Option (List Piece) → Type 0
  MaybeSourced None = Unit {0}
  MaybeSourced (Some pieces) = Sourced pieces

  maybe_made : (found : Option (List Piece)) → MaybeMade Any found → MaybeSourced found
  maybe_made None made = tt
  maybe_made (Some pieces) made = made_sourced false pieces made

  joined_sourced : (x y : Option (List Piece)) → MaybeSourced x → MaybeSourced y → MaybeSourced (joined x y)
  joined_sourced None y some more = tt
  joined_sourced (Some xs) None some more = tt
  joined_sourced (Some xs) (Some ys) some more = append_sourced xs ys some more

  -- the rules that stay
  rules_sourced : (from : ℕ) (inner : Trees) (to : ℕ) → ((a b : ℕ) → HasRule a b inner → HasSource settings trees size (copied a b)) → Sourced (kept_rules from inner to)
  rules_sourced from none to has = (tt, tt)
  rules_sourced from (a_word at word rest) to has = rules_sourced from rest to has
  rules_sourced from (a_string at text rest) to has = rules_sourced from rest to has
  rules_sourced from (a_list at end none rest) to has = rules_sourced from rest to has
  rules_sourced from (a_list at end (a_string p t r) rest) to has = rules_sourced from rest to has
  rules_sourced from (a_list at end (a_list p e i r) rest) to has = rules_sourced from rest to has
  rules_sourced from (a_list at end (a_word place word arguments) rest) to has =
      by (rules_sourced end rest to (λ a b h. has a b (inr h))) (rules_sourced from rest to (λ a b h. has a b (inr h))) (is_among rules word) refl
    where
      by : Sourced (kept_rules end rest to) → Sourced (kept_rules from rest to) → (b : Bool) → is_among rules word ≡ b
          → Sourced (cond b (blanked from at.offset ∷ copied at.offset end ∷ kept_rules end rest to) (kept_rules from rest to))
      by behind without true is = (tt, (has at.offset end (inl (is, refl, refl)), behind))
      by behind without false is = without

  branches_sourced : (holds : Bool) (from : ℕ) (inner : Trees) (to : ℕ)
      → ((a b : ℕ) → BranchesHave settings holds a b inner → HasSource settings trees size (copied a b)) → Sourced (kept_branches settings holds from inner to)
  branches_sourced holds from none to has = (tt, tt)
  branches_sourced holds from (a_word at word rest) to has = branches_sourced holds from rest to has
  branches_sourced holds from (a_string at text rest) to has = branches_sourced holds from rest to has
  branches_sourced holds from (a_list at end none rest) to has = branches_sourced holds from rest to has
  branches_sourced holds from (a_list at end (a_string p t r) rest) to has = branches_sourced holds from rest to has
  branches_sourced holds from (a_list at end (a_list p e i r) rest) to has = branches_sourced holds from rest to has
  branches_sourced holds from (a_list at end (a_word place branch inner) rest) to has =
      by (branches_sourced holds end rest to (λ a b h. has a b (inr h))) (branches_sourced holds from rest to (λ a b h. has a b (inr h))) (is_taken settings holds branch) refl
    where
      by : Sourced (kept_branches settings holds end rest to) → Sourced (kept_branches settings holds from rest to) → (b : Bool) → is_taken settings holds branch ≡ b
          → Sourced (cond b (kept_rules from inner end ++ kept_branches settings holds end rest to) (kept_branches settings holds from rest to))
      by behind without true is =
          append_sourced (kept_rules from inner end) (kept_branches settings holds end rest to) (rules_sourced from inner end (λ a b h. has a b (inl (is, h)))) behind
      by behind without false is = without

  chosen_sourced : (from to : ℕ) (value : Option Bool) (names : List Piece) (inner : Trees) → AreMade Any false names
      → ((holds : Bool) (a b : ℕ) → value ≡ Some holds → BranchesHave settings holds a b inner → HasSource settings trees size (copied a b))
      → MaybeSourced (chosen settings from to value names inner)
  chosen_sourced from to None names inner made has = tt
  chosen_sourced from to (Some holds) names inner made has = by (are_branches inner)
    where
      kept : List Piece
      kept = kept_branches settings holds from inner to

      by : (b : Bool) → MaybeSourced (cond b (joined (Some (kept ++ (taken (codes "booleanif") ∷ names))) (branches_need settings holds inner)) None)
      by true = joined_sourced (Some (kept ++ (taken (codes "booleanif") ∷ names))) (branches_need settings holds inner)
          (append_sourced kept (taken (codes "booleanif") ∷ names) (branches_sourced holds from inner to (λ a b h. has holds a b refl h)) (tt, made_sourced false names made))
          (maybe_made (branches_need settings holds inner) (branches_made Any settings holds inner (any_good inner)))
      by false = tt

  fitting_sourced : (from to : ℕ) (some : List (List ℕ × List Part)) (word : List ℕ) (arguments : Trees) → MaybeSourced (fitting from to some word arguments)
  fitting_sourced from to [] word arguments = tt
  fitting_sourced from to ((keyword, parts) ∷ more) word arguments =
      by (bytes_eq word keyword) (fit parts arguments) (fit_made Any parts arguments (any_good arguments)) (fitting from to more word arguments) (fitting_sourced from to more word arguments)
    where
      by : (b : Bool) (found : Option (List Piece)) → MaybeMade Any found → (other : Option (List Piece)) → MaybeSourced other
          → MaybeSourced (or_else (cond b (joined (Some (blanked from to ∷ taken keyword ∷ [])) found) None) other)
      by true None made other sourced = sourced
      by true (Some pieces) made other sourced = (tt, (tt, made_sourced false pieces made))
      by false found made other sourced = sourced

  statement_sourced : (from to : ℕ) (word : List ℕ) (arguments : Trees)
      → ((holds : Bool) (a b : ℕ) → bytes_eq word (codes "booleanif") ≡ true → condition_value settings arguments ≡ Some holds → BranchesHave settings holds a b (behind_first arguments)
      → HasSource settings trees size (copied a b))
      → MaybeSourced (statement settings from to word arguments)
  statement_sourced from to word arguments has = by (bytes_eq word (codes "booleanif")) refl
    where
      by : (b : Bool) → bytes_eq word (codes "booleanif") ≡ b → MaybeSourced (cond b (conditional settings from to arguments) (by_names from to word arguments))
      by true is = chosen_sourced from to (condition_value settings arguments) (condition_names Booleans arguments) (behind_first arguments)
          (condition_made Any arguments (any_good arguments)) (λ holds a b value have. has holds a b is value have)
      by false is = fitting_sourced from to forms word arguments

  -- a statement with a first word that is not projected
  unprojected_word : (stays : Bool) (low high : ℕ) (at place : Place) (end : ℕ) (word : List ℕ) (arguments rest : Trees)
      → AreStatements settings trees size stays low (a_list at end (a_word place word arguments) rest) high → IsUnprojectedByWord settings at.offset end word arguments → Sourced (copied at.offset end ∷ [])
  unprojected_word stays low high at place end word arguments rest stands is = (inr (inl (stays, low, high, at, a_word place word arguments, rest, stands, refl, is)), tt)

  other_sourced : (stays : Bool) (low high : ℕ) (at place : Place) (end : ℕ) (word : List ℕ) (arguments rest : Trees)
      → AreStatements settings trees size stays low (a_list at end (a_word place word arguments) rest) high → is_among containers word ≡ false → bytes_eq word (codes "tunableif") ≡ false
      → Sourced (or_copied at.offset end (statement settings at.offset end word arguments))
  other_sourced stays low high at place end word arguments rest stands no_container no_tunable =
      by (statement settings at.offset end word arguments) refl
      (statement_sourced at.offset end word arguments
      (λ holds a b is value have. inr (inr (stays, low, high, end, at, place, word, arguments, rest, holds, stands, is, value, have))))
    where
      by : (found : Option (List Piece)) → statement settings at.offset end word arguments ≡ found → MaybeSourced found → Sourced (or_copied at.offset end found)
      by (Some pieces) is sourced = sourced
      by None is sourced = unprojected_word stays low high at place end word arguments rest stands (record {
        without_name = λ yes second id body e. true≢false (sym yes ∙ no_container);
        without_value = λ other yes. absurd (true≢false (sym yes ∙ no_tunable));
        without_form = λ x y. is;
      })

  -- a block, an optional or a `tunableif` with arguments that it can't have
  unprojected_body : (stays : Bool) (low high : ℕ) (at place : Place) (end : ℕ) (word : List ℕ) (arguments rest : Trees)
      → AreStatements settings trees size stays low (a_list at end (a_word place word arguments) rest) high → is_among containers word ≡ true
      → ((second : Place) (id : List ℕ) (body : Trees) → arguments ≢ a_word second id body) → Sourced (copied at.offset end ∷ [])
  unprojected_body stays low high at place end word arguments rest stands is nameless = unprojected_word stays low high at place end word arguments rest stands (record {
    without_name = λ yes. nameless;
    without_value = λ x. absurd (true≢false (sym is ∙ x));
    without_form = λ x. absurd (true≢false (sym is ∙ x));
  })

  unprojected_tunable : (stays : Bool) (low high : ℕ) (at place : Place) (end : ℕ) (word : List ℕ) (arguments rest : Trees)
      → AreStatements settings trees size stays low (a_list at end (a_word place word arguments) rest) high → is_among containers word ≡ false
      → bytes_eq word (codes "tunableif") ≡ true → tunable_value settings arguments ≡ None → Sourced (copied at.offset end ∷ [])
  unprojected_tunable stays low high at place end word arguments rest stands no_container is absent = unprojected_word stays low high at place end word arguments rest stands (record {
    without_name = λ yes. absurd (true≢false (sym yes ∙ no_container));
    without_value = λ other yes. absent;
    without_form = λ x y. absurd (true≢false (sym is ∙ y));
  })

  -- what stands between statements

  last_sourced : (stays : Bool) (from to : ℕ) → AreStatements settings trees size stays from none to → HasSource settings trees size (between stays from to)
  last_sourced true from to stand = inl (inl stand)
  last_sourced false from to stand = tt

  between_sourced : (stays : Bool) (from to : ℕ) (at : Place) (end : ℕ) (items rest : Trees) → AreStatements settings trees size stays from (a_list at end items rest) to
      → HasSource settings trees size (between stays from at.offset)
  between_sourced true from to at end items rest stand = inl (inr (at, end, to, items, rest, stand, refl))
  between_sourced false from to at end items rest stand = tt

  tunable_parts : (found : Option Bool) (rest : Bool → List Piece) (from to : ℕ) → ((holds : Bool) → found ≡ Some holds → Sourced (rest holds)) → (found ≡ None → Sourced (copied from to ∷ []))
      → Sourced (option_map_or rest found (copied from to ∷ []))
  tunable_parts (Some holds) rest from to some none_there = some holds refl
  tunable_parts None rest from to some none_there = none_there refl

  mutual
    projected_sourced : (stays : Bool) (from : ℕ) (rest : Trees) (to : ℕ) → AreStatements settings trees size stays from rest to → Sourced (projected settings stays from rest to)
    projected_sourced stays from none to stand = (last_sourced stays from to stand, tt)
    projected_sourced stays from (a_word at word rest) to stand = projected_sourced stays from rest to (past_word stand)
    projected_sourced stays from (a_string at text rest) to stand = projected_sourced stays from rest to (past_string stand)
    projected_sourced stays from (a_list at end items rest) to stand = (
      between_sourced stays from to at end items rest stand,
      append_sourced (one_projected settings at.offset end items) (projected settings stays end rest to) (one_sourced stays from to at end items rest stand)
          (projected_sourced stays end rest to (past_list stand)),
    )

    one_sourced : (stays : Bool) (low high : ℕ) (at : Place) (end : ℕ) (items rest : Trees) → AreStatements settings trees size stays low (a_list at end items rest) high → Sourced (one_projected settings at.offset end items)
    one_sourced stays low high at end none rest stand = (inr (inl (stays, low, high, at, none, rest, stand, refl, tt)), tt)
    one_sourced stays low high at end (a_string p t r) rest stand = (inr (inl (stays, low, high, at, a_string p t r, rest, stand, refl, tt)), tt)
    one_sourced stays low high at end (a_list p e i r) rest stand = (inr (inl (stays, low, high, at, a_list p e i r, rest, stand, refl, tt)), tt)
    one_sourced stays low high at end (a_word place word arguments) rest stand =
        by (is_among containers word) (bytes_eq word (codes "tunableif")) refl refl
        (body_sourced stays low high at place end word arguments rest stand) (tunable_sourced stays low high at place end word arguments rest stand)
      where
        by : (b c : Bool) → is_among containers word ≡ b → bytes_eq word (codes "tunableif") ≡ c → (is_among containers word ≡ true → Sourced (body_projected settings at.offset end arguments))
            → (is_among containers word ≡ false → bytes_eq word (codes "tunableif") ≡ true → Sourced (tunable_projected settings at.offset end arguments))
            → Sourced (cond b (body_projected settings at.offset end arguments)
            (cond c (tunable_projected settings at.offset end arguments) (or_copied at.offset end (statement settings at.offset end word arguments))))
        by true c is other body tunable = body is
        by false true is other body tunable = tunable is other
        by false false is other body tunable = other_sourced stays low high at place end word arguments rest stand is other

    body_sourced : (stays : Bool) (low high : ℕ) (at place : Place) (end : ℕ) (word : List ℕ) (arguments rest : Trees) → AreStatements settings trees size stays low (a_list at end (a_word place word arguments) rest) high
        → is_among containers word ≡ true → Sourced (body_projected settings at.offset end arguments)
    body_sourced stays low high at place end word none rest stand is = unprojected_body stays low high at place end word none rest stand is (λ second id body e. cc)
    body_sourced stays low high at place end word (a_string p t r) rest stand is = unprojected_body stays low high at place end word (a_string p t r) rest stand is (λ second id body e. cc)
    body_sourced stays low high at place end word (a_list p e i r) rest stand is = unprojected_body stays low high at place end word (a_list p e i r) rest stand is (λ second id body e. cc)
    body_sourced stays low high at place end word (a_word second id body) rest stand is = projected_sourced true at.offset body end (in_body stand is)

    tunable_sourced : (stays : Bool) (low high : ℕ) (at place : Place) (end : ℕ) (word : List ℕ) (arguments rest : Trees) → AreStatements settings trees size stays low (a_list at end (a_word place word arguments) rest) high
        → is_among containers word ≡ false → bytes_eq word (codes "tunableif") ≡ true → Sourced (tunable_projected settings at.offset end arguments)
    tunable_sourced stays low high at place end word none rest stand other is = unprojected_tunable stays low high at place end word none rest stand other is refl
    tunable_sourced stays low high at place end word (a_string p t r) rest stand other is = unprojected_tunable stays low high at place end word (a_string p t r) rest stand other is refl
    tunable_sourced stays low high at place end word (a_word p w branches) rest stand other is =
        tunable_parts (value_for (settings.value w) branches) (λ holds. branch_projected settings holds at.offset end branches ++ (taken (codes "tunableif") ∷ name_or_operator Tunables w)) at.offset end
        (λ holds value. append_sourced (branch_projected settings holds at.offset end branches) (taken (codes "tunableif") ∷ name_or_operator Tunables w)
        (branch_sourced stays low high at place end word (a_word p w branches) rest stand is holds value branches all_of_them) (tt, made_sourced false (name_or_operator Tunables w) (name_made Any Tunables w tt)))
        (unprojected_tunable stays low high at place end word (a_word p w branches) rest stand other is)
    tunable_sourced stays low high at place end word (a_list p e items branches) rest stand other is =
        tunable_parts (value_for (list_value settings.value items) branches) (λ holds. branch_projected settings holds at.offset end branches ++ (taken (codes "tunableif") ∷ names_in Tunables items)) at.offset end
        (λ holds value. append_sourced (branch_projected settings holds at.offset end branches) (taken (codes "tunableif") ∷ names_in Tunables items)
        (branch_sourced stays low high at place end word (a_list p e items branches) rest stand is holds value branches all_of_them) (tt, made_sourced false (names_in Tunables items) (names_made Any Tunables items (any_good items))))
        (unprojected_tunable stays low high at place end word (a_list p e items branches) rest stand other is)

    branch_sourced : (stays : Bool) (low high : ℕ) (at place : Place) (end : ℕ) (word : List ℕ) (arguments rest : Trees) → AreStatements settings trees size stays low (a_list at end (a_word place word arguments) rest) high
        → bytes_eq word (codes "tunableif") ≡ true → (holds : Bool) → tunable_value settings arguments ≡ Some holds → (branches : Trees) → AreLastOf branches (behind_first arguments)
        → Sourced (branch_projected settings holds at.offset end branches)
    branch_sourced stays low high at place end word arguments rest stand is holds value none last = (tt, tt)
    branch_sourced stays low high at place end word arguments rest stand is holds value (a_word p w more) last = branch_sourced stays low high at place end word arguments rest stand is holds value more (behind_word last)
    branch_sourced stays low high at place end word arguments rest stand is holds value (a_string p w more) last = branch_sourced stays low high at place end word arguments rest stand is holds value more (behind_string last)
    branch_sourced stays low high at place end word arguments rest stand is holds value (a_list spot close items more) last =
        inner_sourced stays low high at place end word arguments rest stand is holds value spot close items more last (branch_projected settings holds at.offset end more)
        (branch_sourced stays low high at place end word arguments rest stand is holds value more (behind_list last))

    inner_sourced : (stays : Bool) (low high : ℕ) (at place : Place) (end : ℕ) (word : List ℕ) (arguments rest : Trees) → AreStatements settings trees size stays low (a_list at end (a_word place word arguments) rest) high
        → bytes_eq word (codes "tunableif") ≡ true → (holds : Bool) → tunable_value settings arguments ≡ Some holds → (spot : Place) (close : ℕ) (items more : Trees)
        → AreLastOf (a_list spot close items more) (behind_first arguments) → (others : List Piece) → Sourced others → Sourced (inner_projected settings holds at.offset end items others)
    inner_sourced stays low high at place end word arguments rest stand is holds value spot close none more last others sourced = sourced
    inner_sourced stays low high at place end word arguments rest stand is holds value spot close (a_string p t r) more last others sourced = sourced
    inner_sourced stays low high at place end word arguments rest stand is holds value spot close (a_list p e i r) more last others sourced = sourced
    inner_sourced stays low high at place end word arguments rest stand is holds value spot close (a_word position branch inner) more last others sourced =
        by (bytes_eq branch (cond holds (codes "true") (codes "false"))) refl (λ same. projected_sourced false at.offset inner end (in_branch stand is value last same))
      where
        by : (b : Bool) → bytes_eq branch (cond holds (codes "true") (codes "false")) ≡ b
            → (bytes_eq branch (cond holds (codes "true") (codes "false")) ≡ true → Sourced (projected settings false at.offset inner end)) → Sourced (cond b (projected settings false at.offset inner end) others)
        by true same found = found same
        by false same found = sourced

  -- The bytes of a text that its projection has as they are stand between statements, or are a statement that is not projected, or a rule of a branch that is taken.
  pub all_sourced : AllByRecursion (HasSource settings trees size) (projected settings true 0 trees size)
  all_sourced = projected_sourced true 0 trees size top
