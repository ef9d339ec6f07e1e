-- The projection of a text spells its trees.
use Rattle.cil_specs.proofs.Common.{◌≡◌, ℕ, ◌+◌, Bool, true, false, cond, List, [], ◌∷◌, ◌++◌, codes, bytes_eq, length, drop, refl, ap, sym, ◌∙◌, subst, append_assoc, append-nil, Option, Some, None, Part, word, string, opening, closing, EndsBefore, Mark, word_at, string_at, opening_at, closing_before, marks, is_among}
use Rattle.std.specs.Option.{option_map_or}
use Rattle.std.proofs.lemmas.Bool.{true≢false}
use Rattle.cil_specs.specs.Place.{Place}
use Rattle.cil_specs.specs.Trees.{Trees, none, a_word, a_string, a_list}
use Rattle.cil_projection.specs.declared.part.Part as form
use Rattle.cil_projection.specs.declared.table.Table.TheVariants.{Booleans, Tunables}
use Rattle.cil_projection.specs.Pieces.{Piece, copied, blanked, taken, rendered}
use Rattle.cil_projection.specs.Forms.{joined, or_else, name_or_operator, names_in, fit, forms, fitting}
use Rattle.cil_projection.specs.Conditions.{Settings, are_branches, containers, list_value}
use Rattle.cil_projection.specs.Statements.{rules, is_taken, kept_rules, kept_branches, condition_names, condition_value, behind_first, branches_need, chosen, conditional, by_names, statement, or_copied, between, value_for, projected, one_projected, body_projected, tunable_projected, branch_projected, inner_projected}
use Rattle.cil_projection.specs.Readings.{nowhere, followed_by, plain_list, plain_words, without_places, made_trees, rules_taken, stays_of, or_unprojected, projected_trees, one_tree, body_trees, tunable_trees, branch_trees, inner_trees}
use Rattle.cil_projection.proofs.ReadingPieces.{AreMade, AreGood, MaybeMade, made_append, fit_made, name_made, names_made, branches_made, condition_made}
use Rattle.cil_projection.proofs.ReadingParts.{Between, IsWord, LastEnds, StartsApart, between_append, ends_apart, begins_apart, last_all, last_closed, marks_followed, starts_append, tokens, tokens_append}
use Rattle.cil_projection.proofs.ReadingLies.{Lies, lies_good, lies_parts}
use Rattle.cil_projection.proofs.ReadingMade.{Spelt, made_spelt, spelt_append, spelt_is}
use Rattle.cil_projection.proofs.ReadingKept.{spelt_must, kept, between_piece, Listed, listed_of, copy_list, Gap, gap_more, gap_trees, gap_word, gap_string, gap_inside, gap_list, blank_gap, branches_spelt}

-- copied and blanked pieces make no statements
rules_make_none : (trees : Trees) (from to : ℕ) (more : List Piece) → made_trees (kept_rules from trees to ++ more) ≡ made_trees more
rules_make_none none from to more = refl
rules_make_none (a_word at bytes rest) from to more = rules_make_none rest from to more
rules_make_none (a_string at bytes rest) from to more = rules_make_none rest from to more
rules_make_none (a_list at end none rest) from to more = rules_make_none rest from to more
rules_make_none (a_list at end (a_string p t r) rest) from to more = rules_make_none rest from to more
rules_make_none (a_list at end (a_list p e i r) rest) from to more = rules_make_none rest from to more
rules_make_none (a_list at end (a_word place bytes arguments) rest) from to more = by (is_among rules bytes) (rules_make_none rest end to more) (rules_make_none rest from to more)
  where
    by : (b : Bool) → made_trees (kept_rules end rest to ++ more) ≡ made_trees more → made_trees (kept_rules from rest to ++ more) ≡ made_trees more
        → made_trees (cond b (blanked from at.offset ∷ copied at.offset end ∷ kept_rules end rest to) (kept_rules from rest to) ++ more) ≡ made_trees more
    by true after without = after
    by false after without = without

branches_make_none : (settings : Settings) (holds : Bool) (trees : Trees) (from to : ℕ) (more : List Piece) → made_trees (kept_branches settings holds from trees to ++ more) ≡ made_trees more
branches_make_none settings holds none from to more = refl
branches_make_none settings holds (a_word at bytes rest) from to more = branches_make_none settings holds rest from to more
branches_make_none settings holds (a_string at bytes rest) from to more = branches_make_none settings holds rest from to more
branches_make_none settings holds (a_list at end none rest) from to more = branches_make_none settings holds rest from to more
branches_make_none settings holds (a_list at end (a_string p t r) rest) from to more = branches_make_none settings holds rest from to more
branches_make_none settings holds (a_list at end (a_list p e i r) rest) from to more = branches_make_none settings holds rest from to more
branches_make_none settings holds (a_list at end (a_word place branch inner) rest) from to more =
    by (is_taken settings holds branch) (branches_make_none settings holds rest end to more) (branches_make_none settings holds rest from to more)
  where
    by : (b : Bool) → made_trees (kept_branches settings holds end rest to ++ more) ≡ made_trees more → made_trees (kept_branches settings holds from rest to ++ more) ≡ made_trees more
        → made_trees (cond b (kept_rules from inner end ++ kept_branches settings holds end rest to) (kept_branches settings holds from rest to) ++ more) ≡ made_trees more
    by true after without = ap made_trees (append_assoc (kept_rules from inner end) (kept_branches settings holds end rest to) more)
        ∙ rules_make_none inner from end (kept_branches settings holds end rest to ++ more) ∙ after
    by false after without = without

-- what begins so under a condition that holds
pub surely : (text : List ℕ) (pieces : List Piece) (rest : List ℕ) (seen : List Mark) (Must : Type 0) → Must → Spelt text pieces rest seen Must → Spelt text pieces rest seen (Unit {0})
surely text pieces rest seen Must must spelt = spelt_must text pieces rest seen Must (Unit {0}) (λ u. must) spelt

-- the parts inside a list, from its ( on
opened_gap : (text : List ℕ) (from end : ℕ) (items : Trees) → Listed text from end items → Gap text from (from + 1) (Unit {0})
opened_gap text from end items list = record { parts = opening ∷ []; is = list.opens; apart = λ must. tt }

-- all of it
gap_whole : (text : List ℕ) (from end : ℕ) (items : Trees) → Listed text from end items → Gap text from end (Unit {0})
gap_whole text from end items list = gap_more text from list.inner (Unit {0}) (gap_trees text from (from + 1) (Unit {0}) (opened_gap text from end items list) items list.inner list.inside) (closing ∷ []) end list.closes

module _ (settings : Settings) (text : List ℕ) where
  -- pieces that are there spell what stays, and what they make
  abbrev MaybeSpelt : Trees → Option (List Piece) → Type 0
  MaybeSpelt stay None = Unit {0}
  MaybeSpelt stay (Some pieces) = (rest : List ℕ) → Spelt text pieces rest (marks (followed_by stay (made_trees pieces))) (Unit {0})

  fitting_spelt : (from end : ℕ) (items : Trees) → Listed text from end items → (some : List (List ℕ × List form.Part)) (bytes : List ℕ) (arguments : Trees) → AreGood IsWord arguments
      → MaybeSpelt none (fitting from end some bytes arguments)
  fitting_spelt from end items list [] bytes arguments good = tt
  fitting_spelt from end items list ((keyword, parts) ∷ more) bytes arguments good =
      by (bytes_eq bytes keyword) (fit parts arguments) (fit_made IsWord parts arguments good) (fitting from end more bytes arguments) (fitting_spelt from end items list more bytes arguments good)
    where
      by : (b : Bool) (found : Option (List Piece)) → MaybeMade IsWord found → (other : Option (List Piece)) → MaybeSpelt none other
          → MaybeSpelt none (or_else (cond b (joined (Some (blanked from end ∷ taken keyword ∷ [])) found) None) other)
      by true None made other spelt = spelt
      by true (Some pieces) made other spelt = λ rest.
          let whole : Gap text from end (Unit {0}) = gap_whole text from end items list in
          spelt_append text (blanked from end ∷ []) (taken keyword ∷ pieces) rest [] (marks (made_trees pieces)) (Unit {0}) ⊥
          (blank_gap text from end (Unit {0}) whole (rendered text (taken keyword ∷ pieces) ++ rest)) (made_spelt text (taken keyword ∷ pieces) rest made)
      by false found made other spelt = spelt

  -- what stays of a conditional statement, by the value of its condition
  abbrev stays_by : Option Bool → Trees → Trees
  stays_by value inner = option_map_or (λ holds. rules_taken settings holds inner) value none

  chosen_spelt : (from end here last : ℕ) (value : Option Bool) (names : List Piece) (inner : Trees) → AreMade IsWord false names → AreGood IsWord inner
      → Gap text from here (Unit {0}) → Lies text here inner last → Between text last (closing ∷ []) end → MaybeSpelt (stays_by value inner) (chosen settings from end value names inner)
  chosen_spelt from end here last None names inner made good gap lies closes = tt
  chosen_spelt from end here last (Some holds) names inner made good gap lies closes = by (are_branches inner) (branches_need settings holds inner) (branches_made IsWord settings holds inner good)
    where
      stay : List Piece
      stay = kept_branches settings holds from inner end

      by : (b : Bool) (needs : Option (List Piece)) → MaybeMade IsWord needs → MaybeSpelt (rules_taken settings holds inner) (cond b (joined (Some (stay ++ (taken (codes "booleanif") ∷ names))) needs) None)
      by false needs are = tt
      by true None are = tt
      by true (Some more) are = λ rest.
          let behind : List Piece = taken (codes "booleanif") ∷ (names ++ more) in
          let spelt = spelt_append text stay behind rest (marks (rules_taken settings holds inner)) (marks (made_trees behind)) (Unit {0}) ⊥
          (branches_spelt text settings holds inner from here last end (Unit {0}) (rendered text behind ++ rest) gap lies (λ low Low before. gap_more text low last Low before (closing ∷ []) end closes))
          (made_spelt text behind rest (made_append IsWord false names more made are)) in
          let same : stay ++ behind ≡ (stay ++ (taken (codes "booleanif") ∷ names)) ++ more = sym (append_assoc stay (taken (codes "booleanif") ∷ names) more) in
          let makes : made_trees behind ≡ made_trees ((stay ++ (taken (codes "booleanif") ∷ names)) ++ more) = sym (branches_make_none settings holds inner from end behind) ∙ ap made_trees same in
          subst (λ pieces. Spelt text pieces rest (marks (followed_by (rules_taken settings holds inner) (made_trees ((stay ++ (taken (codes "booleanif") ∷ names)) ++ more)))) (Unit {0})) same
          (spelt_is text (stay ++ behind) rest (marks (rules_taken settings holds inner) ++ marks (made_trees behind))
          (marks (followed_by (rules_taken settings holds inner) (made_trees ((stay ++ (taken (codes "booleanif") ∷ names)) ++ more)))) (Unit {0}) spelt
          (sym (marks_followed (rules_taken settings holds inner) (made_trees behind)) ∙ ap (λ trees. marks (followed_by (rules_taken settings holds inner) trees)) makes))

  conditional_spelt : (from end here last : ℕ) (arguments : Trees) → AreGood IsWord arguments → Gap text from here (Unit {0}) → Lies text here arguments last → Between text last (closing ∷ []) end
      → MaybeSpelt (stays_by (condition_value settings arguments) (behind_first arguments)) (conditional settings from end arguments)
  conditional_spelt from end here last none good gap lies closes = tt
  conditional_spelt from end here last (a_word at bytes rest) good gap lies closes =
      chosen_spelt from end (at.offset + length bytes) last (settings.value bytes) (condition_names Booleans (a_word at bytes rest)) rest (condition_made IsWord (a_word at bytes rest) good) good.1
      (gap_word text from here (Unit {0}) gap at bytes rest last lies) lies.4 closes
  conditional_spelt from end here last (a_string at bytes rest) good gap lies closes = tt
  conditional_spelt from end here last (a_list at close items rest) good gap lies closes =
      chosen_spelt from end close last (list_value settings.value items) (condition_names Booleans (a_list at close items rest)) rest (condition_made IsWord (a_list at close items rest) good) good.1
      (gap_list text from here (Unit {0}) gap at close items rest last lies) lies.7 closes

  -- a statement that holds no others
  statement_spelt : (from end : ℕ) (place : Place) (bytes : List ℕ) (arguments : Trees) (rest : List ℕ) → Listed text from end (a_word place bytes arguments)
      → Spelt text (or_copied from end (statement settings from end bytes arguments)) rest
      (marks (or_unprojected (a_word place bytes arguments) (stays_of settings bytes arguments) (statement settings from end bytes arguments))) (Unit {0})
  statement_spelt from end place bytes arguments rest list = by (bytes_eq bytes (codes "booleanif"))
    where
      good : AreGood IsWord arguments
      good = (lies_good text (from + 1) (a_word place bytes arguments) list.inner list.inside).1

      either : (stay : Trees) (found : Option (List Piece)) → MaybeSpelt stay found
          → Spelt text (or_copied from end found) rest (marks (or_unprojected (a_word place bytes arguments) stay found)) (Unit {0})
      either stay None spelt = copy_list text from end (a_word place bytes arguments) rest list
      either stay (Some pieces) spelt = spelt rest

      by : (b : Bool) → Spelt text (or_copied from end (cond b (conditional settings from end arguments) (by_names from end bytes arguments))) rest
          (marks (or_unprojected (a_word place bytes arguments) (cond b (stays_by (condition_value settings arguments) (behind_first arguments)) none)
          (cond b (conditional settings from end arguments) (by_names from end bytes arguments)))) (Unit {0})
      by true = either (stays_by (condition_value settings arguments) (behind_first arguments)) (conditional settings from end arguments)
          (conditional_spelt from end (place.offset + length bytes) list.inner arguments good
          (gap_word text from (from + 1) (Unit {0}) (opened_gap text from end (a_word place bytes arguments) list) place bytes arguments list.inner list.inside) list.inside.4 list.closes)
      by false = either none (by_names from end bytes arguments) (fitting_spelt from end (a_word place bytes arguments) list forms bytes arguments good)

  -- the marks of parts that stay, with another part behind them
  kept_more : (stays : Bool) (parts gap : List Part) (part : Part) (mark : Mark) (more : List Mark) → tokens gap ≡ [] → tokens (part ∷ []) ≡ mark ∷ []
      → kept stays ((parts ++ gap) ++ part ∷ []) ++ more ≡ kept stays parts ++ cond stays (mark ∷ more) more
  kept_more false parts gap part mark more quiet is = refl
  kept_more true parts gap part mark more quiet is =
      ap (λ l. l ++ more) (tokens_append (parts ++ gap) (part ∷ []) ∙ (λ i. tokens_append parts gap i ++ is i) ∙ ap (λ l. (tokens parts ++ l) ++ mark ∷ []) quiet
      ∙ ap (λ l. l ++ mark ∷ []) (append-nil (tokens parts)))
      ∙ append_assoc (tokens parts) (mark ∷ []) more

  kept_gap : (stays : Bool) (parts gap : List Part) → tokens gap ≡ [] → kept stays (parts ++ gap) ≡ kept stays parts
  kept_gap false parts gap quiet = refl
  kept_gap true parts gap quiet = tokens_append parts gap ∙ ap (λ l. tokens parts ++ l) quiet ∙ append-nil (tokens parts)

  kept_append : (stays : Bool) (parts more : List Part) → kept stays (parts ++ more) ≡ kept stays parts ++ kept stays more
  kept_append false parts more = refl
  kept_append true parts more = tokens_append parts more

  marks_either : (stays : Bool) (s t : Trees) (more : List Mark) → cond stays (marks s ++ more) (marks t ++ more) ≡ marks (cond stays s t) ++ more
  marks_either true s t more = refl
  marks_either false s t more = refl

  kept_none : (stays : Bool) (more : List Mark) → kept stays [] ++ more ≡ more
  kept_none true more = refl
  kept_none false more = refl

  -- what the last bytes are followed by
  abbrev EndsWell : Bool → List Part → ℕ → List ℕ → Type 0
  EndsWell stays behind to rest = stays ≡ true → (parts : List Part) → LastEnds (parts ++ behind) (drop to text) rest

  last_gap : (stays : Bool) (from here : ℕ) (parts : List Part) (last : ℕ) (behind : List Part) (to : ℕ) (rest : List ℕ) → Between text from parts here → Lies text here none last → Between text last behind to
      → EndsWell stays behind to rest → Spelt text (between stays from to ∷ []) rest (kept stays parts ++ kept stays behind) (StartsApart parts)
  last_gap stays from here parts last behind to rest is lies ends well =
      let whole : List Part = (parts ++ lies.0) ++ behind in
      let between_is : Between text from whole to = between_append text from (parts ++ lies.0) last behind to (between_append text from parts here lies.0 last is lies.1) ends in
      spelt_must text (between stays from to ∷ []) rest (kept stays parts ++ kept stays behind) (StartsApart whole) (StartsApart parts)
      (λ starts. starts_append (parts ++ lies.0) behind (starts_append parts lies.0 starts))
      (spelt_is text (between stays from to ∷ []) rest (kept stays whole) (kept stays parts ++ kept stays behind) (StartsApart whole)
      (between_piece text stays from whole to rest between_is (λ yes. well yes (parts ++ lies.0)))
      (kept_append stays (parts ++ lies.0) behind ∙ ap (λ l. l ++ kept stays behind) (kept_gap stays parts lies.0 lies.2)))

  -- what stands before a statement, the statement, and what comes behind it
  gap_then : (stays : Bool) (from here : ℕ) (parts : List Part) (at : Place) (end : ℕ) (items more : Trees) (last to : ℕ) (rest : List ℕ) (one behind : List Piece) (first after : Trees) (final : List Mark)
      → Between text from parts here → Lies text here (a_list at end items more) last → Spelt text one (rendered text behind ++ rest) (marks first) (Unit {0})
      → Spelt text behind rest (kept stays [] ++ (marks after ++ final)) ⊥
      → Spelt text (between stays from at.offset ∷ (one ++ behind)) rest (kept stays parts ++ (marks (followed_by first after) ++ final)) (StartsApart parts)
  gap_then stays from here parts at end items more last to rest one behind first after final is lies one_spelt behind_spelt =
      let both : Spelt text (one ++ behind) rest (marks first ++ (kept stays [] ++ (marks after ++ final))) (Unit {0}) =
      spelt_append text one behind rest (marks first) (kept stays [] ++ (marks after ++ final)) (Unit {0}) ⊥ one_spelt behind_spelt in
      let tail : List ℕ = rendered text (one ++ behind) ++ rest in
      let apart = begins_apart tail both.parts rest both.splits (both.apart tt) in
      let whole : List Part = parts ++ lies.0 in
      let ends : LastEnds whole (drop at.offset text) tail = last_all whole (drop at.offset text) tail (λ part e. ends_apart part lies.3.0 tail apart (subst (EndsBefore part) lies.3.1 e)) in
      let gap : Spelt text (between stays from at.offset ∷ []) tail (kept stays whole) (StartsApart whole) =
      between_piece text stays from whole at.offset tail (between_append text from parts here lies.0 at.offset is lies.1) (λ yes. ends) in
      spelt_is text (between stays from at.offset ∷ (one ++ behind)) rest (kept stays whole ++ (marks first ++ (kept stays [] ++ (marks after ++ final))))
      (kept stays parts ++ (marks (followed_by first after) ++ final)) (StartsApart parts)
      (spelt_must text (between stays from at.offset ∷ (one ++ behind)) rest (kept stays whole ++ (marks first ++ (kept stays [] ++ (marks after ++ final)))) (StartsApart whole) (StartsApart parts)
      (λ starts. starts_append parts lies.0 starts)
      (spelt_append text (between stays from at.offset ∷ []) (one ++ behind) rest (kept stays whole) (marks first ++ (kept stays [] ++ (marks after ++ final))) (StartsApart whole) (Unit {0}) gap both))
      ((λ i. kept_gap stays parts lies.0 lies.2 i ++ (marks first ++ kept_none stays (marks after ++ final) i))
      ∙ ap (λ l. kept stays parts ++ l) (sym (append_assoc (marks first) (marks after) final) ∙ ap (λ l. l ++ final) (sym (marks_followed first after))))

  -- a `tunableif` by the value of its condition
  tunable_parts : (value : Option Bool) (branches : Trees) (names : List Piece) (from end : ℕ) (place : Place) (bytes : List ℕ) (arguments : Trees) (rest : List ℕ) → Listed text from end (a_word place bytes arguments)
      → AreMade IsWord false names
      → ((holds : Bool) (others : List ℕ) → Spelt text (branch_projected settings holds from end branches) others (marks (branch_trees settings holds branches)) (Unit {0}))
      → Spelt text (option_map_or (λ holds. branch_projected settings holds from end branches ++ (taken (codes "tunableif") ∷ names)) value (copied from end ∷ [])) rest
      (marks (option_map_or (λ holds. followed_by (branch_trees settings holds branches) (made_trees names)) value (plain_list (plain_words (bytes ∷ []) (without_places arguments)) none))) (Unit {0})
  tunable_parts None branches names from end place bytes arguments rest list made branch = copy_list text from end (a_word place bytes arguments) rest list
  tunable_parts (Some holds) branches names from end place bytes arguments rest list made branch =
      let first : List Piece = branch_projected settings holds from end branches in
      let then : List Piece = taken (codes "tunableif") ∷ names in
      spelt_is text (first ++ then) rest (marks (branch_trees settings holds branches) ++ marks (made_trees names)) (marks (followed_by (branch_trees settings holds branches) (made_trees names))) (Unit {0})
      (spelt_append text first then rest (marks (branch_trees settings holds branches)) (marks (made_trees names)) (Unit {0}) ⊥ (branch holds (rendered text then ++ rest)) (made_spelt text then rest made))
      (sym (marks_followed (branch_trees settings holds branches) (made_trees names)))

  -- a branch that is for a value, or others
  inner_parts : (b : Bool) (inner : Trees) (from end : ℕ) (rest : List ℕ) (others : List Piece) (others_trees : Trees) → Spelt text others rest (marks others_trees) (Unit {0})
      → (parts : List Part) → StartsApart parts → Spelt text (projected settings false from inner end) rest ([] ++ (marks (projected_trees settings false inner) ++ [])) (StartsApart parts)
      → Spelt text (cond b (projected settings false from inner end) others) rest (marks (cond b (projected_trees settings false inner) others_trees)) (Unit {0})
  inner_parts false inner from end rest others others_trees spelt parts starts found = spelt
  inner_parts true inner from end rest others others_trees spelt parts starts found =
      surely text (projected settings false from inner end) rest (marks (projected_trees settings false inner)) (StartsApart parts) starts
      (spelt_is text (projected settings false from inner end) rest (marks (projected_trees settings false inner) ++ []) (marks (projected_trees settings false inner)) (StartsApart parts) found
      (append-nil (marks (projected_trees settings false inner))))

  mutual
    projected_spelt : (stays : Bool) (trees : Trees) (from here : ℕ) (parts : List Part) (last : ℕ) (behind : List Part) (to : ℕ) (rest : List ℕ) → Between text from parts here → Lies text here trees last
        → Between text last behind to → EndsWell stays behind to rest
        → Spelt text (projected settings stays from trees to) rest (kept stays parts ++ (marks (projected_trees settings stays trees) ++ kept stays behind)) (StartsApart parts)
    projected_spelt stays none from here parts last behind to rest is lies ends well = last_gap stays from here parts last behind to rest is lies ends well
    projected_spelt stays (a_word at bytes more) from here parts last behind to rest is lies ends well =
        let whole : List Part = (parts ++ lies.0) ++ word bytes ∷ [] in
        let inner : List Mark = marks (projected_trees settings stays more) ++ kept stays behind in
        let goes : Between text from whole (at.offset + length bytes) =
        between_append text from (parts ++ lies.0) at.offset (word bytes ∷ []) (at.offset + length bytes) (between_append text from parts here lies.0 at.offset is lies.1) lies.3 in
        let spelt = projected_spelt stays more from (at.offset + length bytes) whole last behind to rest goes lies.4 ends well in
        spelt_must text (projected settings stays from more to) rest (kept stays parts ++ (marks (projected_trees settings stays (a_word at bytes more)) ++ kept stays behind)) (StartsApart whole) (StartsApart parts)
        (λ starts. starts_append (parts ++ lies.0) (word bytes ∷ []) (starts_append parts lies.0 starts))
        (spelt_is text (projected settings stays from more to) rest (kept stays whole ++ inner) (kept stays parts ++ (marks (projected_trees settings stays (a_word at bytes more)) ++ kept stays behind)) (StartsApart whole) spelt
        (kept_more stays parts lies.0 (word bytes) (word_at nowhere bytes) inner lies.2 refl
        ∙ ap (λ l. kept stays parts ++ l) (marks_either stays (a_word nowhere bytes (projected_trees settings stays more)) (projected_trees settings stays more) (kept stays behind))))
    projected_spelt stays (a_string at bytes more) from here parts last behind to rest is lies ends well =
        let whole : List Part = (parts ++ lies.0) ++ string lies.3 ∷ [] in
        let inner : List Mark = marks (projected_trees settings stays more) ++ kept stays behind in
        let goes : Between text from whole (at.offset + length bytes) =
        between_append text from (parts ++ lies.0) at.offset (string lies.3 ∷ []) (at.offset + length bytes) (between_append text from parts here lies.0 at.offset is lies.1) lies.5 in
        let spelt = projected_spelt stays more from (at.offset + length bytes) whole last behind to rest goes lies.6 ends well in
        spelt_must text (projected settings stays from more to) rest (kept stays parts ++ (marks (projected_trees settings stays (a_string at bytes more)) ++ kept stays behind)) (StartsApart whole) (StartsApart parts)
        (λ starts. starts_append (parts ++ lies.0) (string lies.3 ∷ []) (starts_append parts lies.0 starts))
        (spelt_is text (projected settings stays from more to) rest (kept stays whole ++ inner) (kept stays parts ++ (marks (projected_trees settings stays (a_string at bytes more)) ++ kept stays behind)) (StartsApart whole) spelt
        (kept_more stays parts lies.0 (string lies.3) (string_at nowhere bytes) inner lies.2 (ap (λ l. string_at nowhere l ∷ []) (sym lies.4))
        ∙ ap (λ l. kept stays parts ++ l) (marks_either stays (a_string nowhere bytes (projected_trees settings stays more)) (projected_trees settings stays more) (kept stays behind))))
    projected_spelt stays (a_list at end items more) from here parts last behind to rest is lies ends well =
        gap_then stays from here parts at end items more last to rest (one_projected settings at.offset end items) (projected settings stays end more to) (one_tree settings at.offset end items)
        (projected_trees settings stays more) (kept stays behind) is lies
        (one_spelt items at.offset end (rendered text (projected settings stays end more to) ++ rest) (listed_of text here at end items more last lies))
        (projected_spelt stays more end end [] last behind to rest refl lies.7 ends well)

    one_spelt : (items : Trees) (from end : ℕ) (rest : List ℕ) → Listed text from end items → Spelt text (one_projected settings from end items) rest (marks (one_tree settings from end items)) (Unit {0})
    one_spelt none from end rest list = copy_list text from end none rest list
    one_spelt (a_string p t r) from end rest list = copy_list text from end (a_string p t r) rest list
    one_spelt (a_list p e i r) from end rest list = copy_list text from end (a_list p e i r) rest list
    one_spelt (a_word place bytes arguments) from end rest list =
        by (is_among containers bytes) (bytes_eq bytes (codes "tunableif")) (body_spelt arguments from end place bytes rest list) (tunable_spelt arguments from end place bytes rest list)
      where
        by : (b c : Bool) → Spelt text (body_projected settings from end arguments) rest (marks (body_trees settings bytes arguments)) (Unit {0})
            → Spelt text (tunable_projected settings from end arguments) rest (marks (tunable_trees settings bytes arguments)) (Unit {0})
            → Spelt text (cond b (body_projected settings from end arguments) (cond c (tunable_projected settings from end arguments) (or_copied from end (statement settings from end bytes arguments)))) rest
            (marks (cond b (body_trees settings bytes arguments) (cond c (tunable_trees settings bytes arguments)
            (or_unprojected (a_word place bytes arguments) (stays_of settings bytes arguments) (statement settings from end bytes arguments))))) (Unit {0})
        by true c body tunable = body
        by false true body tunable = tunable
        by false false body tunable = statement_spelt from end place bytes arguments rest list

    body_spelt : (arguments : Trees) (from end : ℕ) (place : Place) (bytes : List ℕ) (rest : List ℕ) → Listed text from end (a_word place bytes arguments)
        → Spelt text (body_projected settings from end arguments) rest (marks (body_trees settings bytes arguments)) (Unit {0})
    body_spelt none from end place bytes rest list = copy_list text from end (a_word place bytes none) rest list
    body_spelt (a_string p t r) from end place bytes rest list = copy_list text from end (a_word place bytes (a_string p t r)) rest list
    body_spelt (a_list p e i r) from end place bytes rest list = copy_list text from end (a_word place bytes (a_list p e i r)) rest list
    body_spelt (a_word second id body) from end place bytes rest list =
        let first : List Part = list.inside.0 ++ word bytes ∷ [] in
        let then : List Part = list.inside.4.0 ++ word id ∷ [] in
        let front : List Part = opening ∷ (first ++ then) in
        let here : ℕ = second.offset + length id in
        let past_first : Between text (from + 1) first (place.offset + length bytes) =
        between_append text (from + 1) list.inside.0 place.offset (word bytes ∷ []) (place.offset + length bytes) list.inside.1 list.inside.3 in
        let past_then : Between text (place.offset + length bytes) then here =
        between_append text (place.offset + length bytes) list.inside.4.0 second.offset (word id ∷ []) here list.inside.4.1 list.inside.4.3 in
        let is : Between text from front here =
        between_append text from (opening ∷ []) (from + 1) (first ++ then) here list.opens (between_append text (from + 1) first (place.offset + length bytes) then here past_first past_then) in
        let front_tokens : tokens front ≡ opening_at nowhere ∷ word_at nowhere bytes ∷ word_at nowhere id ∷ [] =
        ap (λ l. opening_at nowhere ∷ l) (tokens_append first then
        ∙ (λ i. tokens_append list.inside.0 (word bytes ∷ []) i ++ tokens_append list.inside.4.0 (word id ∷ []) i)
        ∙ (λ i. (list.inside.2 i ++ word_at nowhere bytes ∷ []) ++ (list.inside.4.2 i ++ word_at nowhere id ∷ []))) in
        surely text (projected settings true from body end) rest (marks (body_trees settings bytes (a_word second id body))) (StartsApart front) tt
        (spelt_is text (projected settings true from body end) rest (tokens front ++ (marks (projected_trees settings true body) ++ closing_before 0 ∷ [])) (marks (body_trees settings bytes (a_word second id body))) (StartsApart front)
        (projected_spelt true body from here front list.inner (closing ∷ []) end rest is list.inside.4.4 list.closes (λ yes parts. last_closed parts (drop end text) rest))
        (ap (λ l. l ++ (marks (projected_trees settings true body) ++ closing_before 0 ∷ [])) front_tokens))

    tunable_spelt : (arguments : Trees) (from end : ℕ) (place : Place) (bytes : List ℕ) (rest : List ℕ) → Listed text from end (a_word place bytes arguments)
        → Spelt text (tunable_projected settings from end arguments) rest (marks (tunable_trees settings bytes arguments)) (Unit {0})
    tunable_spelt none from end place bytes rest list = copy_list text from end (a_word place bytes none) rest list
    tunable_spelt (a_string p t r) from end place bytes rest list = copy_list text from end (a_word place bytes (a_string p t r)) rest list
    tunable_spelt (a_word p name branches) from end place bytes rest list =
        let within = gap_word text from (from + 1) (Unit {0}) (opened_gap text from end (a_word place bytes (a_word p name branches)) list) place bytes (a_word p name branches) list.inner list.inside in
        tunable_parts (value_for (settings.value name) branches) branches (name_or_operator Tunables name) from end place bytes (a_word p name branches) rest list
        (name_made IsWord Tunables name (lies_good text (from + 1) (a_word place bytes (a_word p name branches)) list.inner list.inside).1.0)
        (λ holds others. branch_spelt branches holds from (p.offset + length name) list.inner (closing ∷ []) end others
        (gap_word text from (place.offset + length bytes) (Unit {0}) within p name branches list.inner list.inside.4) list.inside.4.4 list.closes)
    tunable_spelt (a_list p close items branches) from end place bytes rest list =
        let within = gap_word text from (from + 1) (Unit {0}) (opened_gap text from end (a_word place bytes (a_list p close items branches)) list) place bytes (a_list p close items branches) list.inner list.inside in
        tunable_parts (value_for (list_value settings.value items) branches) branches (names_in Tunables items) from end place bytes (a_list p close items branches) rest list
        (names_made IsWord Tunables items (lies_good text (from + 1) (a_word place bytes (a_list p close items branches)) list.inner list.inside).1.0)
        (λ holds others. branch_spelt branches holds from close list.inner (closing ∷ []) end others
        (gap_list text from (place.offset + length bytes) (Unit {0}) within p close items branches list.inner list.inside.4) list.inside.4.7 list.closes)

    branch_spelt : (branches : Trees) (holds : Bool) (from here last : ℕ) (behind : List Part) (end : ℕ) (rest : List ℕ) → Gap text from here (Unit {0}) → Lies text here branches last → Between text last behind end
        → Spelt text (branch_projected settings holds from end branches) rest (marks (branch_trees settings holds branches)) (Unit {0})
    branch_spelt none holds from here last behind end rest gap lies ends =
        blank_gap text from end (Unit {0}) (gap_more text from last (Unit {0}) (gap_trees text from here (Unit {0}) gap none last lies) behind end ends) rest
    branch_spelt (a_word at bytes more) holds from here last behind end rest gap lies ends =
        branch_spelt more holds from (at.offset + length bytes) last behind end rest (gap_word text from here (Unit {0}) gap at bytes more last lies) lies.4 ends
    branch_spelt (a_string at bytes more) holds from here last behind end rest gap lies ends =
        branch_spelt more holds from (at.offset + length bytes) last behind end rest (gap_string text from here (Unit {0}) gap at bytes more last lies) lies.6 ends
    branch_spelt (a_list at close items more) holds from here last behind end rest gap lies ends =
        let left = lies_parts text close more last lies.7 in
        inner_spelt items holds from (at.offset + 1) lies.4 (closing ∷ (left.0 ++ behind)) end rest (gap_inside text from here (Unit {0}) gap at close items more last lies) lies.5
        (between_append text lies.4 (closing ∷ []) close (left.0 ++ behind) end lies.6 (between_append text close left.0 last behind end left.1 ends))
        (branch_projected settings holds from end more) (branch_trees settings holds more)
        (branch_spelt more holds from close last behind end rest (gap_list text from here (Unit {0}) gap at close items more last lies) lies.7 ends)

    inner_spelt : (items : Trees) (holds : Bool) (from here last : ℕ) (behind : List Part) (end : ℕ) (rest : List ℕ) → Gap text from here (Unit {0}) → Lies text here items last → Between text last behind end
        → (others : List Piece) (others_trees : Trees) → Spelt text others rest (marks others_trees) (Unit {0})
        → Spelt text (inner_projected settings holds from end items others) rest (marks (inner_trees settings holds items others_trees)) (Unit {0})
    inner_spelt none holds from here last behind end rest gap lies ends others others_trees spelt = spelt
    inner_spelt (a_string p t r) holds from here last behind end rest gap lies ends others others_trees spelt = spelt
    inner_spelt (a_list p e i r) holds from here last behind end rest gap lies ends others others_trees spelt = spelt
    inner_spelt (a_word place branch inner) holds from here last behind end rest gap lies ends others others_trees spelt =
        let within = gap_word text from here (Unit {0}) gap place branch inner last lies in
        inner_parts (bytes_eq branch (cond holds (codes "true") (codes "false"))) inner from end rest others others_trees spelt
        within.parts (within.apart tt)
        (projected_spelt false inner from (place.offset + length branch) within.parts last behind end rest within.is lies.4 ends (λ yes. absurd (true≢false (sym yes))))

  -- the projection of trees that lie in the text from its front to its end
  pub all_spelt : (trees : Trees) → Lies text 0 trees (length text) → Spelt text (projected settings true 0 trees (length text)) [] (marks (projected_trees settings true trees)) ⊥
  all_spelt trees lies =
      spelt_is text (projected settings true 0 trees (length text)) [] (marks (projected_trees settings true trees) ++ []) (marks (projected_trees settings true trees)) ⊥
      (projected_spelt true trees 0 0 [] (length text) [] (length text) [] refl lies refl
      (λ yes parts. last_all (parts ++ []) (drop (length text) text) [] (λ part e. tt)))
      (append-nil (marks (projected_trees settings true trees)))
