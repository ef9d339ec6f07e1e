-- The statements of a projection whose first words are no keywords are statements of the text that are not projected.
use Rattle.std.specs.Prelude.{◌≡◌, ℕ, ◌⊎◌, Bool, true, false, cond, List, [], ◌∷◌, Option, Some, None, codes, bytes_eq, refl}
use Rattle.std.specs.List.{AllByRecursion, list_any}
use Rattle.std.specs.Option.{option_map_or}
use Rattle.std.proofs.Common.{sym, ap, ◌∙◌, subst, inl, inr}
use Rattle.std.proofs.lemmas.Bool.{or_cases, true≢false}
use Rattle.std.proofs.lemmas.Slice.Eq.{bytes_eq-Decides}
use Rattle.cil_specs.specs.Place.{Place}
use Rattle.cil_specs.specs.Trees.{Trees, none, a_word, a_string, a_list}
use Rattle.cil_specs.specs.Shape.{is_among, keywords}
use Rattle.cil_projection.specs.declared.table.Table.TheVariants.{Tunables}
use Rattle.cil_projection.specs.Pieces.{Piece, copied, blanked, taken, declared, needed, a_class, a_permission_set, opened, permission, closed}
use Rattle.cil_projection.specs.Forms.{name_or_operator, names_in}
use Rattle.cil_projection.specs.Conditions.{Settings, containers, list_value}
use Rattle.cil_projection.specs.Statements.{rules, is_taken, condition_value, behind_first, statement, value_for}
use Rattle.cil_projection.specs.Readings.{tunable_value, AreLastOf, all_of_them, behind_word, behind_string, behind_list, AreStatements, top, past_word, past_string, past_list, in_body, in_branch, IsUnprojectedByWord, nowhere, followed_by, plain_list, without_places, made_trees, rules_of, rules_taken, stays_of, or_unprojected, projected_trees, one_tree, body_trees, tunable_trees, branch_trees, inner_trees, HasStatement, IsUnprojectedInText}

-- words that are among others stand to more words as those do
among_all : (is : Bool) (words others : List (List ℕ)) (text : List ℕ) → AllByRecursion (λ word. is_among others word ≡ is) words → is_among words text ≡ true → is_among others text ≡ is
among_all is [] others text all h = absurd (true≢false (sym h))
among_all is (word ∷ words) others text all h = by (or_cases (bytes_eq text word) (list_any (bytes_eq text) words) h) (λ k. among_all is words others text all.1 k)
  where
    by : (bytes_eq text word ≡ true) ⊎ (is_among words text ≡ true) → (is_among words text ≡ true → is_among others text ≡ is) → is_among others text ≡ is
    by (inl same) rest = ap (is_among others) ((bytes_eq-Decides text word).0 same) ∙ all.0
    by (inr more) rest = rest more

container_keyword : (text : List ℕ) → is_among containers text ≡ true → is_among keywords text ≡ true
container_keyword text h = among_all true containers keywords text (refl, (refl, tt)) h

rule_keyword : (text : List ℕ) → is_among rules text ≡ true → is_among keywords text ≡ true
rule_keyword text h = among_all true rules keywords text (refl, (refl, (refl, (refl, tt)))) h

rule_holds_none : (text : List ℕ) → is_among rules text ≡ true → is_among containers text ≡ false
rule_holds_none text h = among_all false rules containers text (refl, (refl, (refl, (refl, tt)))) h

module _ (settings : Settings) (trees : Trees) (size : ℕ) (word : List ℕ) (arguments : Trees) (free : is_among keywords word ≡ false) where
  -- the statement is one that stays
  abbrev Unprojected : Type 0
  Unprojected = IsUnprojectedInText settings trees size word arguments

  -- it would have a keyword
  other_word : (text : List ℕ) → is_among keywords text ≡ true → word ≡ text → ⊥
  other_word text is same = true≢false (sym is ∙ ap (is_among keywords) (sym same) ∙ free)

  followed_has : (s t : Trees) → HasStatement word arguments (followed_by s t) → HasStatement word arguments s ⊎ HasStatement word arguments t
  followed_has none t h = inr h
  followed_has (a_word at text rest) t h = followed_has rest t h
  followed_has (a_string at text rest) t h = followed_has rest t h
  followed_has (a_list at end items rest) t (inl h) = inl (inl h)
  followed_has (a_list at end items rest) t (inr (inl h)) = inl (inr (inl h))
  followed_has (a_list at end items rest) t (inr (inr h)) = by (followed_has rest t h)
    where
      by : HasStatement word arguments rest ⊎ HasStatement word arguments t → HasStatement word arguments (a_list at end items rest) ⊎ HasStatement word arguments t
      by (inl k) = inl (inr (inr k))
      by (inr k) = inr k

  -- what is made has keywords
  made_none : (pieces : List Piece) → HasStatement word arguments (made_trees pieces) → ⊥
  made_none [] h = h
  made_none (copied from to ∷ pieces) h = made_none pieces h
  made_none (blanked from to ∷ pieces) h = made_none pieces h
  made_none (taken keyword ∷ pieces) h = made_none pieces h
  made_none (declared table name ∷ pieces) (inl h) = other_word (codes "typeattribute") refl h.0
  made_none (declared table name ∷ pieces) (inr (inl h)) = true≢false (sym h.0)
  made_none (declared table name ∷ pieces) (inr (inr h)) = made_none pieces h
  made_none (needed table name ∷ pieces) (inl h) = other_word (codes "dontaudit") refl h.0
  made_none (needed table name ∷ pieces) (inr (inl h)) = true≢false (sym h.0)
  made_none (needed table name ∷ pieces) (inr (inr h)) = made_none pieces h
  made_none (a_class name ∷ pieces) (inl h) = other_word (codes "dontaudit") refl h.0
  made_none (a_class name ∷ pieces) (inr (inl h)) = true≢false (sym h.0)
  made_none (a_class name ∷ pieces) (inr (inr h)) = made_none pieces h
  made_none (a_permission_set name ∷ pieces) (inl h) = other_word (codes "dontaudit") refl h.0
  made_none (a_permission_set name ∷ pieces) (inr (inl h)) = true≢false (sym h.0)
  made_none (a_permission_set name ∷ pieces) (inr (inr h)) = made_none pieces h
  made_none (opened name ∷ pieces) (inl h) = other_word (codes "dontaudit") refl h.0
  made_none (opened name ∷ pieces) (inr (inl h)) = true≢false (sym h.0)
  made_none (opened name ∷ pieces) (inr (inr h)) = made_none pieces h
  made_none (permission name ∷ pieces) h = made_none pieces h
  made_none (closed ∷ pieces) h = made_none pieces h

  -- rules that stay have keywords
  rules_none : (some : Trees) → HasStatement word arguments (rules_of some) → ⊥
  rules_none none h = h
  rules_none (a_word at text rest) h = rules_none rest h
  rules_none (a_string at text rest) h = rules_none rest h
  rules_none (a_list at end (a_word place text operands) rest) h = by (is_among rules text) refl (rules_none rest) h
    where
      by : (b : Bool) → is_among rules text ≡ b → (HasStatement word arguments (rules_of rest) → ⊥)
          → HasStatement word arguments (cond b (plain_list (a_word nowhere text (without_places operands)) (rules_of rest)) (rules_of rest)) → ⊥
      by false is rest_none k = rest_none k
      by true is rest_none (inl k) = other_word text (rule_keyword text is) k.0
      by true is rest_none (inr (inl k)) = true≢false (sym k.0 ∙ rule_holds_none text is)
      by true is rest_none (inr (inr k)) = rest_none k
  rules_none (a_list at end _ rest) h = rules_none rest h

  taken_none : (holds : Bool) (some : Trees) → HasStatement word arguments (rules_taken settings holds some) → ⊥
  taken_none holds none h = h
  taken_none holds (a_word at text rest) h = taken_none holds rest h
  taken_none holds (a_string at text rest) h = taken_none holds rest h
  taken_none holds (a_list at end (a_word place branch inner) rest) h = by (is_taken settings holds branch) (taken_none holds rest) h
    where
      either : HasStatement word arguments (rules_of inner) ⊎ HasStatement word arguments (rules_taken settings holds rest) → (HasStatement word arguments (rules_taken settings holds rest) → ⊥) → ⊥
      either (inl k) rest_none = rules_none inner k
      either (inr k) rest_none = rest_none k

      by : (b : Bool) → (HasStatement word arguments (rules_taken settings holds rest) → ⊥)
          → HasStatement word arguments (cond b (followed_by (rules_of inner) (rules_taken settings holds rest)) (rules_taken settings holds rest)) → ⊥
      by false rest_none k = rest_none k
      by true rest_none k = either (followed_has (rules_of inner) (rules_taken settings holds rest) k) rest_none
  taken_none holds (a_list at end _ rest) h = taken_none holds rest h

  stays_none : (text : List ℕ) (operands : Trees) → HasStatement word arguments (stays_of settings text operands) → ⊥
  stays_none text operands h = by (bytes_eq text (codes "booleanif")) (condition_value settings operands) h
    where
      by : (b : Bool) (value : Option Bool) → HasStatement word arguments (cond b (option_map_or (λ holds. rules_taken settings holds (behind_first operands)) value none) none) → ⊥
      by false value k = k
      by true None k = k
      by true (Some holds) k = taken_none holds (behind_first operands) k

  -- a statement of the text that is not projected
  unprojected_has : (stays : Bool) (low high end : ℕ) (at place : Place) (text : List ℕ) (operands rest : Trees) → AreStatements settings trees size stays low (a_list at end (a_word place text operands) rest) high
      → IsUnprojectedByWord settings at.offset end text operands → word ≡ text → arguments ≡ without_places operands → Unprojected
  unprojected_has stays low high end at place text operands rest stand is same are = (
    stays,
    low,
    high,
    end,
    at,
    place,
    operands,
    rest,
    subst (λ w. AreStatements settings trees size stays low (a_list at end (a_word place w operands) rest) high) (sym same) stand,
    subst (λ w. IsUnprojectedByWord settings at.offset end w operands) (sym same) is,
    are,
  )

  -- a list that is copied
  copied_has : (stays : Bool) (low high end : ℕ) (at place : Place) (text : List ℕ) (operands rest : Trees) → AreStatements settings trees size stays low (a_list at end (a_word place text operands) rest) high
      → IsUnprojectedByWord settings at.offset end text operands → is_among containers text ≡ false → HasStatement word arguments (plain_list (without_places (a_word place text operands)) none) → Unprojected
  copied_has stays low high end at place text operands rest stand is other (inl h) = unprojected_has stays low high end at place text operands rest stand is h.0 h.1
  copied_has stays low high end at place text operands rest stand is other (inr (inl h)) = absurd (true≢false (sym h.0 ∙ other))
  copied_has stays low high end at place text operands rest stand is other (inr (inr h)) = absurd h

  statement_has : (stays : Bool) (low high end : ℕ) (at place : Place) (text : List ℕ) (operands rest : Trees) → AreStatements settings trees size stays low (a_list at end (a_word place text operands) rest) high
      → is_among containers text ≡ false → bytes_eq text (codes "tunableif") ≡ false
      → HasStatement word arguments (or_unprojected (a_word place text operands) (stays_of settings text operands) (statement settings at.offset end text operands)) → Unprojected
  statement_has stays low high end at place text operands rest stand no_container no_tunable h = by (statement settings at.offset end text operands) refl h
    where
      either : (pieces : List Piece) → HasStatement word arguments (stays_of settings text operands) ⊎ HasStatement word arguments (made_trees pieces) → Unprojected
      either pieces (inl k) = absurd (stays_none text operands k)
      either pieces (inr k) = absurd (made_none pieces k)

      by : (found : Option (List Piece)) → statement settings at.offset end text operands ≡ found → HasStatement word arguments (or_unprojected (a_word place text operands) (stays_of settings text operands) found) → Unprojected
      by (Some pieces) is k = either pieces (followed_has (stays_of settings text operands) (made_trees pieces) k)
      by None is k = copied_has stays low high end at place text operands rest stand (record {
        without_name = λ yes. absurd (true≢false (sym yes ∙ no_container));
        without_value = λ x yes. absurd (true≢false (sym yes ∙ no_tunable));
        without_form = λ x y. is;
      }) no_container k

  unprojected_tunable : (stays : Bool) (low high end : ℕ) (at place : Place) (text : List ℕ) (operands rest : Trees) → AreStatements settings trees size stays low (a_list at end (a_word place text operands) rest) high
      → is_among containers text ≡ false → bytes_eq text (codes "tunableif") ≡ true → tunable_value settings operands ≡ None → HasStatement word arguments (plain_list (without_places (a_word place text operands)) none) → Unprojected
  unprojected_tunable stays low high end at place text operands rest stand no_container is absent h = copied_has stays low high end at place text operands rest stand (record {
    without_name = λ yes. absurd (true≢false (sym yes ∙ no_container));
    without_value = λ x y. absent;
    without_form = λ x y. absurd (true≢false (sym is ∙ y));
  }) no_container h

  tunable_parts : (value : Option Bool) (f : Bool → Trees) (names : List Piece) (other : Trees) → ((holds : Bool) → value ≡ Some holds → HasStatement word arguments (f holds) → Unprojected) → (value ≡ None → HasStatement word arguments other → Unprojected)
      → HasStatement word arguments (option_map_or (λ holds. followed_by (f holds) (made_trees names)) value other) → Unprojected
  tunable_parts None f names other some without h = without refl h
  tunable_parts (Some holds) f names other some without h = by (followed_has (f holds) (made_trees names) h)
    where
      by : HasStatement word arguments (f holds) ⊎ HasStatement word arguments (made_trees names) → Unprojected
      by (inl k) = some holds refl k
      by (inr k) = absurd (made_none names k)

  mutual
    projected_has : (stays : Bool) (rest : Trees) (from to : ℕ) → AreStatements settings trees size stays from rest to → HasStatement word arguments (projected_trees settings stays rest) → Unprojected
    projected_has stays none from to stand h = absurd h
    projected_has true (a_word at text rest) from to stand h = projected_has true rest from to (past_word stand) h
    projected_has false (a_word at text rest) from to stand h = projected_has false rest from to (past_word stand) h
    projected_has true (a_string at text rest) from to stand h = projected_has true rest from to (past_string stand) h
    projected_has false (a_string at text rest) from to stand h = projected_has false rest from to (past_string stand) h
    projected_has stays (a_list at end items rest) from to stand h =
        by (followed_has (one_tree settings at.offset end items) (projected_trees settings stays rest) h) (one_has items stays from to at end rest stand) (projected_has stays rest end to (past_list stand))
      where
        by : HasStatement word arguments (one_tree settings at.offset end items) ⊎ HasStatement word arguments (projected_trees settings stays rest)
            → (HasStatement word arguments (one_tree settings at.offset end items) → Unprojected) → (HasStatement word arguments (projected_trees settings stays rest) → Unprojected) → Unprojected
        by (inl k) one more = one k
        by (inr k) one more = more k

    one_has : (items : Trees) (stays : Bool) (low high : ℕ) (at : Place) (end : ℕ) (rest : Trees) → AreStatements settings trees size stays low (a_list at end items rest) high → HasStatement word arguments (one_tree settings at.offset end items) → Unprojected
    one_has none stays low high at end rest stand (inl h) = absurd h
    one_has none stays low high at end rest stand (inr (inl h)) = absurd h
    one_has none stays low high at end rest stand (inr (inr h)) = absurd h
    one_has (a_string p t r) stays low high at end rest stand (inl h) = absurd h
    one_has (a_string p t r) stays low high at end rest stand (inr (inl h)) = absurd h
    one_has (a_string p t r) stays low high at end rest stand (inr (inr h)) = absurd h
    one_has (a_list p e i r) stays low high at end rest stand (inl h) = absurd h
    one_has (a_list p e i r) stays low high at end rest stand (inr (inl h)) = absurd h
    one_has (a_list p e i r) stays low high at end rest stand (inr (inr h)) = absurd h
    one_has (a_word place text operands) stays low high at end rest stand h =
        by (is_among containers text) (bytes_eq text (codes "tunableif")) refl refl (body_has operands stays low high at place end text rest stand) (tunable_has operands stays low high at place end text rest stand) h
      where
        by : (b c : Bool) → is_among containers text ≡ b → bytes_eq text (codes "tunableif") ≡ c
            → (is_among containers text ≡ true → HasStatement word arguments (body_trees settings text operands) → Unprojected)
            → (is_among containers text ≡ false → bytes_eq text (codes "tunableif") ≡ true → HasStatement word arguments (tunable_trees settings text operands) → Unprojected)
            → HasStatement word arguments (cond b (body_trees settings text operands) (cond c (tunable_trees settings text operands)
            (or_unprojected (a_word place text operands) (stays_of settings text operands) (statement settings at.offset end text operands)))) → Unprojected
        by true c is other body tunable k = body is k
        by false true is other body tunable k = tunable is other k
        by false false is other body tunable k = statement_has stays low high end at place text operands rest stand is other k

    body_has : (operands : Trees) (stays : Bool) (low high : ℕ) (at place : Place) (end : ℕ) (text : List ℕ) (rest : Trees) → AreStatements settings trees size stays low (a_list at end (a_word place text operands) rest) high
        → is_among containers text ≡ true → HasStatement word arguments (body_trees settings text operands) → Unprojected
    body_has none stays low high at place end text rest stand is (inl h) = absurd (other_word text (container_keyword text is) h.0)
    body_has none stays low high at place end text rest stand is (inr (inl h)) = absurd h.1
    body_has none stays low high at place end text rest stand is (inr (inr h)) = absurd h
    body_has (a_string p t r) stays low high at place end text rest stand is (inl h) = absurd (other_word text (container_keyword text is) h.0)
    body_has (a_string p t r) stays low high at place end text rest stand is (inr (inl h)) = absurd h.1
    body_has (a_string p t r) stays low high at place end text rest stand is (inr (inr h)) = absurd h
    body_has (a_list p e i r) stays low high at place end text rest stand is (inl h) = absurd (other_word text (container_keyword text is) h.0)
    body_has (a_list p e i r) stays low high at place end text rest stand is (inr (inl h)) = absurd h.1
    body_has (a_list p e i r) stays low high at place end text rest stand is (inr (inr h)) = absurd h
    body_has (a_word second id body) stays low high at place end text rest stand is (inl h) = absurd (other_word text (container_keyword text is) h.0)
    body_has (a_word second id body) stays low high at place end text rest stand is (inr (inl h)) = projected_has true body at.offset end (in_body stand is) h.1
    body_has (a_word second id body) stays low high at place end text rest stand is (inr (inr h)) = absurd h

    tunable_has : (operands : Trees) (stays : Bool) (low high : ℕ) (at place : Place) (end : ℕ) (text : List ℕ) (rest : Trees) → AreStatements settings trees size stays low (a_list at end (a_word place text operands) rest) high
        → is_among containers text ≡ false → bytes_eq text (codes "tunableif") ≡ true → HasStatement word arguments (tunable_trees settings text operands) → Unprojected
    tunable_has none stays low high at place end text rest stand other is h = unprojected_tunable stays low high end at place text none rest stand other is refl h
    tunable_has (a_string p t r) stays low high at place end text rest stand other is h = unprojected_tunable stays low high end at place text (a_string p t r) rest stand other is refl h
    tunable_has (a_word p name branches) stays low high at place end text rest stand other is h =
        tunable_parts (value_for (settings.value name) branches) (λ holds. branch_trees settings holds branches) (name_or_operator Tunables name) (plain_list (without_places (a_word place text (a_word p name branches))) none)
        (λ holds value. branch_has branches stays low high at place end text (a_word p name branches) rest stand is holds value all_of_them)
        (unprojected_tunable stays low high end at place text (a_word p name branches) rest stand other is) h
    tunable_has (a_list p e items branches) stays low high at place end text rest stand other is h =
        tunable_parts (value_for (list_value settings.value items) branches) (λ holds. branch_trees settings holds branches) (names_in Tunables items) (plain_list (without_places (a_word place text (a_list p e items branches))) none)
        (λ holds value. branch_has branches stays low high at place end text (a_list p e items branches) rest stand is holds value all_of_them)
        (unprojected_tunable stays low high end at place text (a_list p e items branches) rest stand other is) h

    branch_has : (branches : Trees) (stays : Bool) (low high : ℕ) (at place : Place) (end : ℕ) (text : List ℕ) (operands rest : Trees) → AreStatements settings trees size stays low (a_list at end (a_word place text operands) rest) high
        → bytes_eq text (codes "tunableif") ≡ true → (holds : Bool) → tunable_value settings operands ≡ Some holds → AreLastOf branches (behind_first operands) → HasStatement word arguments (branch_trees settings holds branches) → Unprojected
    branch_has none stays low high at place end text operands rest stand is holds value last h = absurd h
    branch_has (a_word p w more) stays low high at place end text operands rest stand is holds value last h = branch_has more stays low high at place end text operands rest stand is holds value (behind_word last) h
    branch_has (a_string p w more) stays low high at place end text operands rest stand is holds value last h = branch_has more stays low high at place end text operands rest stand is holds value (behind_string last) h
    branch_has (a_list spot close items more) stays low high at place end text operands rest stand is holds value last h =
        inner_has items stays low high at place end text operands rest stand is holds value spot close more last (branch_trees settings holds more)
        (branch_has more stays low high at place end text operands rest stand is holds value (behind_list last)) h

    inner_has : (items : Trees) (stays : Bool) (low high : ℕ) (at place : Place) (end : ℕ) (text : List ℕ) (operands rest : Trees) → AreStatements settings trees size stays low (a_list at end (a_word place text operands) rest) high
        → bytes_eq text (codes "tunableif") ≡ true → (holds : Bool) → tunable_value settings operands ≡ Some holds → (spot : Place) (close : ℕ) (more : Trees) → AreLastOf (a_list spot close items more) (behind_first operands)
        → (others : Trees) → (HasStatement word arguments others → Unprojected) → HasStatement word arguments (inner_trees settings holds items others) → Unprojected
    inner_has none stays low high at place end text operands rest stand is holds value spot close more last others go h = go h
    inner_has (a_string p t r) stays low high at place end text operands rest stand is holds value spot close more last others go h = go h
    inner_has (a_list p e i r) stays low high at place end text operands rest stand is holds value spot close more last others go h = go h
    inner_has (a_word position branch inner) stays low high at place end text operands rest stand is holds value spot close more last others go h =
        by (bytes_eq branch (cond holds (codes "true") (codes "false"))) refl (λ same. projected_has false inner at.offset end (in_branch stand is value last same)) h
      where
        by : (b : Bool) → bytes_eq branch (cond holds (codes "true") (codes "false")) ≡ b
            → (bytes_eq branch (cond holds (codes "true") (codes "false")) ≡ true → HasStatement word arguments (projected_trees settings false inner) → Unprojected)
            → HasStatement word arguments (cond b (projected_trees settings false inner) others) → Unprojected
        by true same found k = found same k
        by false same found k = go k

  pub all_unprojected : HasStatement word arguments (projected_trees settings true trees) → Unprojected
  all_unprojected h = projected_has true trees 0 size top h
