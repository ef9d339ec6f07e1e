-- Bytes of a text that a projection has as they are or blanked, and the rules of branches that stay.
use Rattle.cil_specs.proofs.Common.{◌≡◌, ℕ, ◌+◌, Bool, true, false, cond, List, [], ◌∷◌, ◌++◌, length, drop, map, refl, ap, sym, ◌∙◌, subst, append-nil, Part, word, string, opening, closing, Splits, Mark, opening_at, closing_before, marks, is_among}
use Rattle.cil_specs.specs.Place.{Place}
use Rattle.cil_specs.specs.Trees.{Trees, none, a_word, a_string, a_list}
use Rattle.cil_projection.specs.Pieces.{Piece, blank, copied, blanked, part_of, rendered}
use Rattle.cil_projection.specs.Conditions.{Settings}
use Rattle.cil_projection.specs.Statements.{between, is_taken, kept_branches, kept_rules, rules}
use Rattle.cil_projection.specs.Readings.{nowhere, followed_by, plain_list, rules_of, rules_taken, without_places}
use Rattle.cil_projection.proofs.ReadingParts.{Between, LastEnds, StartsApart, between_append, blanked_splits, blanks, blanks_start, blanks_tokens, copied_splits, last_closed, marks_followed, starts_append, tokens, tokens_append}
use Rattle.cil_projection.proofs.ReadingLies.{Lies, lies_parts}
use Rattle.cil_projection.proofs.ReadingMade.{Spelt, spelt_append, spelt_is}

-- what begins so under one condition does so under another that gives it
pub spelt_must : (text : List ℕ) (pieces : List Piece) (rest : List ℕ) (seen : List Mark) (Must Other : Type 0) → (Other → Must) → Spelt text pieces rest seen Must → Spelt text pieces rest seen Other
spelt_must text pieces rest seen Must Other gives spelt = record {
  parts = spelt.parts;
  splits = spelt.splits;
  tokens_are = spelt.tokens_are;
  apart = λ other. spelt.apart (gives other);
}

-- bytes as they are
pub copy_piece : (text : List ℕ) (from : ℕ) (parts : List Part) (to : ℕ) (rest : List ℕ) → Between text from parts to → LastEnds parts (drop to text) rest
    → Spelt text (copied from to ∷ []) rest (tokens parts) (StartsApart parts)
copy_piece text from parts to rest is ends = record {
  parts = parts;
  splits = subst (λ l. Splits (l ++ rest) parts rest) (sym (append-nil (part_of text from to))) (copied_splits text from parts to rest is ends);
  tokens_are = refl;
  apart = λ starts. starts;
}

pub blank_piece : (text : List ℕ) (from : ℕ) (parts : List Part) (to : ℕ) (rest : List ℕ) → Between text from parts to → Spelt text (blanked from to ∷ []) rest [] (StartsApart parts)
blank_piece text from parts to rest is = record {
  parts = blanks (part_of text from to);
  splits = subst (λ l. Splits (l ++ rest) (blanks (part_of text from to)) rest) (sym (append-nil (map blank (part_of text from to)))) (blanked_splits (part_of text from to) rest);
  tokens_are = blanks_tokens (part_of text from to);
  apart = blanks_start text from parts to is;
}

-- the marks of parts that stay
abbrev pub kept : Bool → List Part → List Mark
kept stays parts = cond stays (tokens parts) []

pub between_piece : (text : List ℕ) (stays : Bool) (from : ℕ) (parts : List Part) (to : ℕ) (rest : List ℕ) → Between text from parts to → (stays ≡ true → LastEnds parts (drop to text) rest)
    → Spelt text (between stays from to ∷ []) rest (kept stays parts) (StartsApart parts)
between_piece text true from parts to rest is ends = copy_piece text from parts to rest is (ends refl)
between_piece text false from parts to rest is ends = blank_piece text from parts to rest is

-- A list stands in a text from an offset up to another.
pub record Listed (text : List ℕ) (from end : ℕ) (items : Trees) : Type 0 where
  pub opens : Between text from (opening ∷ []) (from + 1)
  pub inner : ℕ
  pub inside : Lies text (from + 1) items inner
  pub closes : Between text inner (closing ∷ []) end

pub list_parts : (text : List ℕ) (from end : ℕ) (items : Trees) → Listed text from end items
    → (parts : List Part) × Between text from (opening ∷ (parts ++ closing ∷ [])) end × (tokens parts ≡ marks (without_places items))
list_parts text from end items list =
    let found = lies_parts text (from + 1) items list.inner list.inside in
    (found.0, between_append text from (opening ∷ []) (from + 1) (found.0 ++ closing ∷ []) end list.opens (between_append text (from + 1) found.0 list.inner (closing ∷ []) end found.1 list.closes), found.2)

-- it is copied
pub copy_list : (text : List ℕ) (from end : ℕ) (items : Trees) (rest : List ℕ) → Listed text from end items
    → Spelt text (copied from end ∷ []) rest (marks (plain_list (without_places items) none)) (Unit {0})
copy_list text from end items rest list =
    let found = list_parts text from end items list in
    let parts : List Part = opening ∷ (found.0 ++ closing ∷ []) in
    let spelt = copy_piece text from parts end rest found.1 (last_closed (opening ∷ found.0) (drop end text) rest) in
    spelt_must text (copied from end ∷ []) rest (marks (plain_list (without_places items) none)) (StartsApart parts) (Unit {0}) (λ must. tt)
    (spelt_is text (copied from end ∷ []) rest (tokens parts) (marks (plain_list (without_places items) none)) (StartsApart parts) spelt
    (ap (λ l. opening_at nowhere ∷ l) (tokens_append found.0 (closing ∷ []) ∙ ap (λ l. l ++ closing_before 0 ∷ []) found.2)))

-- Parts of a text from an offset up to another, whatever they are; where `Must` holds they begin with one that is no word.
pub record Gap (text : List ℕ) (from to : ℕ) (Must : Type 0) : Type 0 where
  pub parts : List Part
  pub is : Between text from parts to
  pub apart : Must → StartsApart parts

pub no_gap : (text : List ℕ) (at : ℕ) → Gap text at at ⊥
no_gap text at = record { parts = []; is = refl; apart = λ must. absurd must }

module _ (text : List ℕ) (from here : ℕ) (Must : Type 0) (gap : Gap text from here Must) where
  pub gap_more : (parts : List Part) (to : ℕ) → Between text here parts to → Gap text from to Must
  gap_more parts to is = record {
    parts = gap.parts ++ parts;
    is = between_append text from gap.parts here parts to gap.is is;
    apart = λ must. starts_append gap.parts parts (gap.apart must);
  }

  pub gap_trees : (trees : Trees) (to : ℕ) → Lies text here trees to → Gap text from to Must
  gap_trees trees to lies = let found = lies_parts text here trees to lies in gap_more found.0 to found.1

  pub gap_word : (at : Place) (bytes : List ℕ) (rest : Trees) (to : ℕ) → Lies text here (a_word at bytes rest) to → Gap text from (at.offset + length bytes) Must
  gap_word at bytes rest to lies =
      gap_more (lies.0 ++ word bytes ∷ []) (at.offset + length bytes) (between_append text here lies.0 at.offset (word bytes ∷ []) (at.offset + length bytes) lies.1 lies.3)

  pub gap_string : (at : Place) (bytes : List ℕ) (rest : Trees) (to : ℕ) → Lies text here (a_string at bytes rest) to → Gap text from (at.offset + length bytes) Must
  gap_string at bytes rest to lies =
      gap_more (lies.0 ++ string lies.3 ∷ []) (at.offset + length bytes) (between_append text here lies.0 at.offset (string lies.3 ∷ []) (at.offset + length bytes) lies.1 lies.5)

  pub gap_before : (at : Place) (end : ℕ) (items rest : Trees) (to : ℕ) → Lies text here (a_list at end items rest) to → Gap text from at.offset Must
  gap_before at end items rest to lies = gap_more lies.0 at.offset lies.1

  pub gap_inside : (at : Place) (end : ℕ) (items rest : Trees) (to : ℕ) → Lies text here (a_list at end items rest) to → Gap text from (at.offset + 1) Must
  gap_inside at end items rest to lies =
      gap_more (lies.0 ++ opening ∷ []) (at.offset + 1) (between_append text here lies.0 at.offset (opening ∷ []) (at.offset + 1) lies.1 lies.3)

  pub blank_gap : (rest : List ℕ) → Spelt text (blanked from here ∷ []) rest [] Must
  blank_gap rest = spelt_must text (blanked from here ∷ []) rest [] (StartsApart gap.parts) Must gap.apart (blank_piece text from gap.parts here rest gap.is)

pub listed_of : (text : List ℕ) (here : ℕ) (at : Place) (end : ℕ) (items rest : Trees) (to : ℕ) → Lies text here (a_list at end items rest) to → Listed text at.offset end items
listed_of text here at end items rest to lies = record { opens = lies.3; inner = lies.4; inside = lies.5; closes = lies.6 }

pub gap_list : (text : List ℕ) (from here : ℕ) (Must : Type 0) → Gap text from here Must → (at : Place) (end : ℕ) (items rest : Trees) (to : ℕ) → Lies text here (a_list at end items rest) to → Gap text from end Must
gap_list text from here Must gap at end items rest to lies =
    let found = list_parts text at.offset end items (listed_of text here at end items rest to lies) in
    gap_more text from at.offset Must (gap_before text from here Must gap at end items rest to lies) (opening ∷ (found.0 ++ closing ∷ [])) end found.1

module _ (text : List ℕ) where
  -- the rules that stay among the trees that lie from an offset on
  pub rules_spelt : (trees : Trees) (from here last to : ℕ) (Must : Type 0) (rest : List ℕ) → Gap text from here Must → Lies text here trees last → ((low : ℕ) (Low : Type 0) → Gap text low last Low → Gap text low to Low)
      → Spelt text (kept_rules from trees to) rest (marks (rules_of trees)) Must
  rules_spelt none from here last to Must rest gap lies behind = blank_gap text from to Must (behind from Must (gap_trees text from here Must gap none last lies)) rest
  rules_spelt (a_word at bytes more) from here last to Must rest gap lies behind =
      rules_spelt more from (at.offset + length bytes) last to Must rest (gap_word text from here Must gap at bytes more last lies) lies.4 behind
  rules_spelt (a_string at bytes more) from here last to Must rest gap lies behind =
      rules_spelt more from (at.offset + length bytes) last to Must rest (gap_string text from here Must gap at bytes more last lies) lies.6 behind
  rules_spelt (a_list at end none more) from here last to Must rest gap lies behind =
      rules_spelt more from end last to Must rest (gap_list text from here Must gap at end none more last lies) lies.7 behind
  rules_spelt (a_list at end (a_string p t r) more) from here last to Must rest gap lies behind =
      rules_spelt more from end last to Must rest (gap_list text from here Must gap at end (a_string p t r) more last lies) lies.7 behind
  rules_spelt (a_list at end (a_list p e i r) more) from here last to Must rest gap lies behind =
      rules_spelt more from end last to Must rest (gap_list text from here Must gap at end (a_list p e i r) more last lies) lies.7 behind
  rules_spelt (a_list at end (a_word place bytes arguments) more) from here last to Must rest gap lies behind =
      by (is_among rules bytes) (rules_spelt more end end last to ⊥ rest (no_gap text end) lies.7 behind)
      (rules_spelt more from end last to Must rest (gap_list text from here Must gap at end (a_word place bytes arguments) more last lies) lies.7 behind)
    where
      rule : Trees
      rule = plain_list (a_word nowhere bytes (without_places arguments)) none

      by : (b : Bool) → Spelt text (kept_rules end more to) rest (marks (rules_of more)) ⊥ → Spelt text (kept_rules from more to) rest (marks (rules_of more)) Must
          → Spelt text (cond b (blanked from at.offset ∷ copied at.offset end ∷ kept_rules end more to) (kept_rules from more to)) rest
          (marks (cond b (plain_list (a_word nowhere bytes (without_places arguments)) (rules_of more)) (rules_of more))) Must
      by false after without = without
      by true after without =
          let list = copy_list text at.offset end (a_word place bytes arguments) (rendered text (kept_rules end more to) ++ rest) (listed_of text here at end (a_word place bytes arguments) more last lies) in
          let both = spelt_append text (copied at.offset end ∷ []) (kept_rules end more to) rest (marks rule) (marks (rules_of more)) (Unit {0}) ⊥ list after in
          spelt_is text (blanked from at.offset ∷ copied at.offset end ∷ kept_rules end more to) rest (marks rule ++ marks (rules_of more))
          (marks (plain_list (a_word nowhere bytes (without_places arguments)) (rules_of more))) Must
          (spelt_append text (blanked from at.offset ∷ []) (copied at.offset end ∷ kept_rules end more to) rest [] (marks rule ++ marks (rules_of more)) Must (Unit {0})
          (blank_gap text from at.offset Must (gap_before text from here Must gap at end (a_word place bytes arguments) more last lies) (rendered text (copied at.offset end ∷ kept_rules end more to) ++ rest))
          both)
          (sym (marks_followed rule (rules_of more)))

  pub branches_spelt : (settings : Settings) (holds : Bool) (trees : Trees) (from here last to : ℕ) (Must : Type 0) (rest : List ℕ) → Gap text from here Must → Lies text here trees last
      → ((low : ℕ) (Low : Type 0) → Gap text low last Low → Gap text low to Low) → Spelt text (kept_branches settings holds from trees to) rest (marks (rules_taken settings holds trees)) Must
  branches_spelt settings holds none from here last to Must rest gap lies behind = blank_gap text from to Must (behind from Must (gap_trees text from here Must gap none last lies)) rest
  branches_spelt settings holds (a_word at bytes more) from here last to Must rest gap lies behind =
      branches_spelt settings holds more from (at.offset + length bytes) last to Must rest (gap_word text from here Must gap at bytes more last lies) lies.4 behind
  branches_spelt settings holds (a_string at bytes more) from here last to Must rest gap lies behind =
      branches_spelt settings holds more from (at.offset + length bytes) last to Must rest (gap_string text from here Must gap at bytes more last lies) lies.6 behind
  branches_spelt settings holds (a_list at end none more) from here last to Must rest gap lies behind =
      branches_spelt settings holds more from end last to Must rest (gap_list text from here Must gap at end none more last lies) lies.7 behind
  branches_spelt settings holds (a_list at end (a_string p t r) more) from here last to Must rest gap lies behind =
      branches_spelt settings holds more from end last to Must rest (gap_list text from here Must gap at end (a_string p t r) more last lies) lies.7 behind
  branches_spelt settings holds (a_list at end (a_list p e i r) more) from here last to Must rest gap lies behind =
      branches_spelt settings holds more from end last to Must rest (gap_list text from here Must gap at end (a_list p e i r) more last lies) lies.7 behind
  branches_spelt settings holds (a_list at end (a_word place branch inner) more) from here last to Must rest gap lies behind =
      by (is_taken settings holds branch) (branches_spelt settings holds more end end last to ⊥ rest (no_gap text end) lies.7 behind)
      (branches_spelt settings holds more from end last to Must rest (gap_list text from here Must gap at end (a_word place branch inner) more last lies) lies.7 behind)
    where
      within : Gap text from (place.offset + length branch) Must
      within = gap_word text from (at.offset + 1) Must (gap_inside text from here Must gap at end (a_word place branch inner) more last lies) place branch inner lies.4 lies.5

      by : (b : Bool) → Spelt text (kept_branches settings holds end more to) rest (marks (rules_taken settings holds more)) ⊥
          → Spelt text (kept_branches settings holds from more to) rest (marks (rules_taken settings holds more)) Must
          → Spelt text (cond b (kept_rules from inner end ++ kept_branches settings holds end more to) (kept_branches settings holds from more to)) rest
          (marks (cond b (followed_by (rules_of inner) (rules_taken settings holds more)) (rules_taken settings holds more))) Must
      by false after without = without
      by true after without =
          spelt_is text (kept_rules from inner end ++ kept_branches settings holds end more to) rest (marks (rules_of inner) ++ marks (rules_taken settings holds more))
          (marks (followed_by (rules_of inner) (rules_taken settings holds more))) Must
          (spelt_append text (kept_rules from inner end) (kept_branches settings holds end more to) rest (marks (rules_of inner)) (marks (rules_taken settings holds more)) Must ⊥
          (rules_spelt inner from (place.offset + length branch) lies.4 end Must (rendered text (kept_branches settings holds end more to) ++ rest) within lies.5.4
          (λ low Low gap. gap_more text low lies.4 Low gap (closing ∷ []) end lies.6))
          after)
          (sym (marks_followed (rules_of inner) (rules_taken settings holds more)))
