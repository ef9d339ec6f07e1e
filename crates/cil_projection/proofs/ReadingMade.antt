-- The statements that are made of pieces are spelt by them.
use Rattle.cil_specs.proofs.Common.{◌≡◌, ℕ, ◌-◌, Bool, true, false, cond, ◌&&◌, List, [], ◌∷◌, ◌++◌, codes, length, take, drop, refl, ap, sym, ◌∙◌, subst, append_assoc, length-append, arith, list_all, is_word_byte, Part, white, word, opening, closing, EndsBefore, Splits, Mark, word_at, opening_at, closing_before, marks}
use Rattle.std.proofs.lemmas.List.{length-take-le, nil_from_length, take-append-drop}
use Rattle.std.proofs.lemmas.List.Folds.{list_all-append}
use Rattle.cil_specs.proofs.Runs.{ends-closing, ends-opening, both_true, first_true, second_true}
use Rattle.cil_projection.specs.declared.table.Table.{Table}
use Rattle.cil_projection.specs.declared.table.Table.TheVariants.{Types, Roles, Users, Booleans, Tunables, Categories, Sensitivities, Levels, Ranges, Contexts, Sids, Addresses, ExtendedPermissions}
use Rattle.cil_projection.specs.Pieces.{Piece, taken, declared, needed, a_class, a_permission_set, opened, permission, closed, attribute_of, is_dotted, last_component, prefix, rendered, spelled}
use Rattle.cil_projection.specs.Readings.{nowhere, made_trees, permissions_of}
use Rattle.cil_projection.proofs.ComponentLemmas.{last_within}
use Rattle.cil_projection.proofs.ReadingPieces.{AreMade}
use Rattle.cil_projection.proofs.ReadingParts.{IsWord, StartsApart, splits_append, starts_append, tokens, tokens_append}

-- Pieces, and the bytes behind them, are parts with these marks; where `Must` holds they begin with a part that is no word.
pub record Spelt (text : List ℕ) (pieces : List Piece) (rest : List ℕ) (seen : List Mark) (Must : Type 0) : Type 0 where
  pub parts : List Part
  pub splits : Splits (rendered text pieces ++ rest) parts rest
  pub tokens_are : tokens parts ≡ seen
  pub apart : Must → StartsApart parts

pub rendered_append : (text : List ℕ) (xs ys : List Piece) → rendered text (xs ++ ys) ≡ rendered text xs ++ rendered text ys
rendered_append text [] ys = refl
rendered_append text (x ∷ xs) ys = ap (λ l. spelled text x ++ l) (rendered_append text xs ys) ∙ sym (append_assoc (spelled text x) (rendered text xs) (rendered text ys))

-- pieces, and others behind them
pub spelt_append : (text : List ℕ) (xs ys : List Piece) (rest : List ℕ) (seen more : List Mark) (Must Other : Type 0) → Spelt text xs (rendered text ys ++ rest) seen Must → Spelt text ys rest more Other
    → Spelt text (xs ++ ys) rest (seen ++ more) Must
spelt_append text xs ys rest seen more Must Other first second =
    let same : rendered text (xs ++ ys) ++ rest ≡ rendered text xs ++ (rendered text ys ++ rest) =
    ap (λ l. l ++ rest) (rendered_append text xs ys) ∙ append_assoc (rendered text xs) (rendered text ys) rest in
    record {
      parts = first.parts ++ second.parts;
      splits = subst (λ l. Splits l (first.parts ++ second.parts) rest) (sym same)
          (splits_append (rendered text xs ++ (rendered text ys ++ rest)) first.parts (rendered text ys ++ rest) second.parts rest first.splits second.splits);
      tokens_are = tokens_append first.parts second.parts ∙ (λ i. first.tokens_are i ++ second.tokens_are i);
      apart = λ must. starts_append first.parts second.parts (first.apart must);
    }

-- the same with other marks that are the same
pub spelt_is : (text : List ℕ) (pieces : List Piece) (rest : List ℕ) (seen other : List Mark) (Must : Type 0) → Spelt text pieces rest seen Must → seen ≡ other → Spelt text pieces rest other Must
spelt_is text pieces rest seen other Must spelt same = subst (λ l. Spelt text pieces rest l Must) same spelt

ends_white : (b : ℕ) (tail : List ℕ) → EndsBefore (white b) tail
ends_white b [] = tt
ends_white b (c ∷ tail) = refl

-- Bytes up to others are parts with these marks.
pub record Cut (bytes rest : List ℕ) (seen : List Mark) : Type 0 where
  pub parts : List Part
  pub splits : Splits bytes parts rest
  pub tokens_are : tokens parts ≡ seen

opens : {tail rest : List ℕ} {seen : List Mark} → Cut tail rest seen → Cut (40 ∷ tail) rest (opening_at nowhere ∷ seen)
opens {tail} cut = record {
  parts = opening ∷ cut.parts;
  splits = (tail, refl, tt, ends-opening tail, cut.splits);
  tokens_are = ap (λ l. opening_at nowhere ∷ l) cut.tokens_are;
}

closes : {tail rest : List ℕ} {seen : List Mark} → Cut tail rest seen → Cut (41 ∷ tail) rest (closing_before 0 ∷ seen)
closes {tail} cut = record {
  parts = closing ∷ cut.parts;
  splits = (tail, refl, tt, ends-closing tail, cut.splits);
  tokens_are = ap (λ l. closing_before 0 ∷ l) cut.tokens_are;
}

spaces : {tail rest : List ℕ} {seen : List Mark} → Cut tail rest seen → Cut (32 ∷ tail) rest seen
spaces {tail} cut = record {
  parts = white 32 ∷ cut.parts;
  splits = (tail, refl, refl, ends_white 32 tail, cut.splits);
  tokens_are = cut.tokens_are;
}

-- a word, behind which stands no byte of one
words : {b : ℕ} {tail rest : List ℕ} {seen : List Mark} (bytes : List ℕ) → IsWord bytes → is_word_byte b ≡ false → Cut (b ∷ tail) rest seen → Cut (bytes ++ b ∷ tail) rest (word_at nowhere bytes ∷ seen)
words {b} {tail} bytes is ends cut = record {
  parts = word bytes ∷ cut.parts;
  splits = (b ∷ tail, refl, is, ends, cut.splits);
  tokens_are = ap (λ l. word_at nowhere bytes ∷ l) cut.tokens_are;
}

-- the bytes behind a name
behind_name : (name after others rest : List ℕ) → ((name ++ after) ++ others) ++ rest ≡ name ++ ((after ++ others) ++ rest)
behind_name name after others rest = ap (λ l. l ++ rest) (append_assoc name after others) ∙ append_assoc name (after ++ others) rest

-- a name and what stands behind it
names : (name after others rest : List ℕ) (seen : List Mark) → Cut (name ++ ((after ++ others) ++ rest)) rest seen → Cut (((name ++ after) ++ others) ++ rest) rest seen
names name after others rest seen cut = subst (λ l. Cut l rest seen) (sym (behind_name name after others rest)) cut

is_dontaudit : IsWord (codes "dontaudit")
is_dontaudit = ((λ e. omega (arith, ap length e)), refl)

is_typeattribute : IsWord (codes "typeattribute")
is_typeattribute = ((λ e. omega (arith, ap length e)), refl)

is_none : IsWord (codes "cilsem__none")
is_none = ((λ e. omega (arith, ap length e)), refl)

is_self : IsWord (codes "self")
is_self = ((λ e. omega (arith, ap length e)), refl)

prefix_bytes : (table : Table) → list_all is_word_byte (prefix table) ≡ true
prefix_bytes Types = refl
prefix_bytes Roles = refl
prefix_bytes Users = refl
prefix_bytes Booleans = refl
prefix_bytes Tunables = refl
prefix_bytes Categories = refl
prefix_bytes Sensitivities = refl
prefix_bytes Levels = refl
prefix_bytes Ranges = refl
prefix_bytes Contexts = refl
prefix_bytes Sids = refl
prefix_bytes Addresses = refl
prefix_bytes ExtendedPermissions = refl

last_bytes : (name : List ℕ) → list_all is_word_byte name ≡ true → list_all is_word_byte (last_component name) ≡ true
last_bytes [] all = refl
last_bytes (b ∷ name) all = by (is_dotted (b ∷ name)) (last_bytes name (second_true (is_word_byte b) (list_all is_word_byte name) all))
  where
    by : (dotted : Bool) → list_all is_word_byte (last_component name) ≡ true → list_all is_word_byte (cond dotted (last_component name) (b ∷ name)) ≡ true
    by true last = last
    by false last = all

append_bytes : (xs ys : List ℕ) → list_all is_word_byte xs ≡ true → list_all is_word_byte ys ≡ true → list_all is_word_byte (xs ++ ys) ≡ true
append_bytes xs ys p q = list_all-append is_word_byte xs ys ∙ both_true (list_all is_word_byte xs) (list_all is_word_byte ys) p q

-- where the attribute has no bytes the name has none
empty : (table : Table) (name : List ℕ) → attribute_of table name ≡ [] → length name ≡ 0
empty table name e =
    let last : List ℕ = last_component name in
    let front : List ℕ = take (length name - length last) name in
    let none_there : length ((front ++ prefix table) ++ last) ≡ 0 = ap length e in
    let long : length front ≡ length name - length last = length-take-le (length name - length last) name (omega arith) in
    omega (arith, none_there, length-append (front ++ prefix table) last, length-append front (prefix table), long, last_within name)

-- the attribute that stands for a name is a word
attribute_word : (table : Table) (name : List ℕ) → IsWord name → IsWord (attribute_of table name)
attribute_word table name is =
    let last : List ℕ = last_component name in
    let front : List ℕ = take (length name - length last) name in
    let whole : list_all is_word_byte (front ++ drop (length name - length last) name) ≡ true = ap (list_all is_word_byte) (take-append-drop (length name - length last) name) ∙ is.1 in
    let parts : (list_all is_word_byte front && list_all is_word_byte (drop (length name - length last) name)) ≡ true =
    sym (list_all-append is_word_byte front (drop (length name - length last) name)) ∙ whole in (
      (λ e. is.0 (nil_from_length name (empty table name e))),
      append_bytes (front ++ prefix table) last
          (append_bytes front (prefix table) (first_true (list_all is_word_byte front) (list_all is_word_byte (drop (length name - length last) name)) parts) (prefix_bytes table))
          (last_bytes name is.1),
    )

-- what the pieces of whole statements spell
abbrev marks_inside : Bool → List Piece → List Mark
marks_inside false pieces = marks (made_trees pieces)
marks_inside true pieces = marks (permissions_of pieces) ++ (closing_before 0 ∷ closing_before 0 ∷ closing_before 0 ∷ marks (made_trees pieces))

-- what stands behind the permissions of a rule
closed_marks : (inner more : List Mark) → ((inner ++ closing_before 0 ∷ []) ++ closing_before 0 ∷ []) ++ closing_before 0 ∷ more ≡ inner ++ closing_before 0 ∷ closing_before 0 ∷ closing_before 0 ∷ more
closed_marks inner more =
    append_assoc (inner ++ closing_before 0 ∷ []) (closing_before 0 ∷ []) (closing_before 0 ∷ more) ∙ append_assoc inner (closing_before 0 ∷ []) (closing_before 0 ∷ closing_before 0 ∷ more)

abbrev CutPieces : List ℕ → Bool → List Piece → List ℕ → Type 0
CutPieces text inside pieces rest = Cut (rendered text pieces ++ rest) rest (marks_inside inside pieces)

module _ (text rest : List ℕ) where
  cut_declared : (table : Table) (name : List ℕ) (pieces : List Piece) → IsWord name → CutPieces text false pieces rest → CutPieces text false (declared table name ∷ pieces) rest
  cut_declared table name pieces is more =
      let attribute : List ℕ = attribute_of table name in
      opens (words (codes "typeattribute") is_typeattribute refl (spaces (names attribute (codes ")") (rendered text pieces) rest
      (word_at nowhere attribute ∷ closing_before 0 ∷ marks (made_trees pieces))
      (words attribute (attribute_word table name is) refl (closes more)))))

  cut_needed : (table : Table) (name : List ℕ) (pieces : List Piece) → IsWord name → CutPieces text false pieces rest → CutPieces text false (needed table name ∷ pieces) rest
  cut_needed table name pieces is more =
      let attribute : List ℕ = attribute_of table name in
      opens (words (codes "dontaudit") is_dontaudit refl (spaces (names attribute (codes " cilsem__none (cilsem__none ()))") (rendered text pieces) rest
      (word_at nowhere attribute ∷ word_at nowhere (codes "cilsem__none") ∷ opening_at nowhere ∷ word_at nowhere (codes "cilsem__none") ∷ opening_at nowhere
      ∷ closing_before 0 ∷ closing_before 0 ∷ closing_before 0 ∷ marks (made_trees pieces))
      (words attribute (attribute_word table name is) refl (spaces (words (codes "cilsem__none") is_none refl (spaces (opens
      (words (codes "cilsem__none") is_none refl (spaces (opens (closes (closes (closes more))))))))))))))

  cut_class : (name : List ℕ) (pieces : List Piece) → IsWord name → CutPieces text false pieces rest → CutPieces text false (a_class name ∷ pieces) rest
  cut_class name pieces is more =
      opens (words (codes "dontaudit") is_dontaudit refl (spaces (words (codes "cilsem__none") is_none refl (spaces (words (codes "self") is_self refl (spaces (opens
      (names name (codes " ()))") (rendered text pieces) rest
      (word_at nowhere name ∷ opening_at nowhere ∷ closing_before 0 ∷ closing_before 0 ∷ closing_before 0 ∷ marks (made_trees pieces))
      (words name is refl (spaces (opens (closes (closes (closes more))))))))))))))

  cut_set : (name : List ℕ) (pieces : List Piece) → IsWord name → CutPieces text false pieces rest → CutPieces text false (a_permission_set name ∷ pieces) rest
  cut_set name pieces is more =
      opens (words (codes "dontaudit") is_dontaudit refl (spaces (words (codes "cilsem__none") is_none refl (spaces (words (codes "self") is_self refl (spaces
      (names name (codes ")") (rendered text pieces) rest (word_at nowhere name ∷ closing_before 0 ∷ marks (made_trees pieces)) (words name is refl (closes more)))))))))

  cut_opened : (name : List ℕ) (pieces : List Piece) → IsWord name → CutPieces text true pieces rest → CutPieces text false (opened name ∷ pieces) rest
  cut_opened name pieces is more =
      let inner : List Mark = marks (permissions_of pieces) in
      let after : List Mark = marks (made_trees pieces) in
      opens (words (codes "dontaudit") is_dontaudit refl (spaces (words (codes "cilsem__none") is_none refl (spaces (words (codes "self") is_self refl (spaces (opens
      (names name (codes " (") (rendered text pieces) rest
      (word_at nowhere name ∷ opening_at nowhere ∷ (((inner ++ closing_before 0 ∷ []) ++ closing_before 0 ∷ []) ++ closing_before 0 ∷ after))
      (words name is refl (spaces (opens (subst (λ l. Cut (rendered text pieces ++ rest) rest l) (sym (closed_marks inner after)) more))))))))))))

  cut_permission : (name : List ℕ) (pieces : List Piece) → IsWord name → CutPieces text true pieces rest → CutPieces text true (permission name ∷ pieces) rest
  cut_permission name pieces is more =
      names name (codes " ") (rendered text pieces) rest (marks_inside true (permission name ∷ pieces)) (words name is refl (spaces more))

  cut_closed : (pieces : List Piece) → CutPieces text false pieces rest → CutPieces text true (closed ∷ pieces) rest
  cut_closed pieces more = closes (closes (closes more))

  cut_pieces : (inside : Bool) (pieces : List Piece) → AreMade IsWord inside pieces → CutPieces text inside pieces rest
  cut_pieces false [] made = record { parts = []; splits = refl; tokens_are = refl }
  cut_pieces false (taken keyword ∷ pieces) made = cut_pieces false pieces made
  cut_pieces false (declared table name ∷ pieces) made = cut_declared table name pieces made.0 (cut_pieces false pieces made.1)
  cut_pieces false (needed table name ∷ pieces) made = cut_needed table name pieces made.0 (cut_pieces false pieces made.1)
  cut_pieces false (a_class name ∷ pieces) made = cut_class name pieces made.0 (cut_pieces false pieces made.1)
  cut_pieces false (a_permission_set name ∷ pieces) made = cut_set name pieces made.0 (cut_pieces false pieces made.1)
  cut_pieces false (opened name ∷ pieces) made = cut_opened name pieces made.0 (cut_pieces true pieces made.1)
  cut_pieces true (permission name ∷ pieces) made = cut_permission name pieces made.0 (cut_pieces true pieces made.1)
  cut_pieces true (closed ∷ pieces) made = cut_closed pieces (cut_pieces false pieces made)
  cut_pieces _ _ made = absurd made

-- pieces of whole statements spell them
pub made_spelt : (text : List ℕ) (pieces : List Piece) (rest : List ℕ) → AreMade IsWord false pieces → Spelt text pieces rest (marks (made_trees pieces)) ⊥
made_spelt text pieces rest made =
    let cut = cut_pieces text rest false pieces made in
    record {
      parts = cut.parts;
      splits = cut.splits;
      tokens_are = cut.tokens_are;
      apart = λ must. absurd must;
    }
