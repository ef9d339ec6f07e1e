-- The pieces of a projection cover the text from its front to its end, and what is put between them has no line feed.
use Rattle.std.specs.Prelude.{◌≡◌, ℕ, ◌+◌, ◌-◌, ◌≤◌, min, Bool, true, false, cond, List, [], ◌∷◌, ◌++◌, length, take, drop, codes, bytes_eq, Option, Some, None, IsTrue, refl}
use Rattle.std.specs.Option.{option_map_or}
use Rattle.std.proofs.Common.{◌∙◌, sym, ap, subst, arith, length-drop}
use Rattle.std.proofs.lemmas.Bool.{and_parts, true≢false}
use Rattle.std.proofs.lemmas.List.{length-take, take-append-le, take-take}
use Rattle.std.proofs.Math.Seq.{take-append-add}
use Rattle.cil_specs.specs.Trees.{Trees, Reads, none, a_word, a_string, a_list}
use Rattle.cil_specs.specs.Shape.{is_among}
use Rattle.cil_projection.specs.declared.table.Table.TheVariants.{Booleans, Tunables}
use Rattle.cil_projection.specs.declared.part.Part.{Part}
use Rattle.cil_projection.specs.Pieces.{Piece, copied, blanked, taken, declared, needed, a_class, a_permission_set, opened, permission, closed, attribute_of, part_of, rendered, spelled}
use Rattle.cil_projection.specs.Forms.{fit, fitting, forms, joined, name_or_operator, names_in, or_else, taken_by}
use Rattle.cil_projection.specs.Conditions.{Settings, are_branches, containers, list_value}
use Rattle.cil_projection.specs.Statements.{behind_first, between, body_projected, branch_projected, branches_need, by_names, chosen, condition_names, condition_value, conditional, inner_projected, is_taken, kept_branches, kept_rules, one_projected, or_copied, projected, rules, statement, tunable_projected, value_for}
use Rattle.cil_projection.specs.Laws.{line_at}
use Rattle.cil_projection.proofs.LanguageLemmas.{rendered-append}
use Rattle.cil_projection.proofs.StandLemmas.{Stands, reading_stands, stands_behind, stands_le, stands_list, stands_string, stands_wide, stands_word}
use Rattle.cil_projection.proofs.FeedLemmas.{feeds, feeds-append, feeds-blank, feeds-part, feeds_none, is_one_line, one_line_append, one_line_attribute}
use Rattle.cil_projection.proofs.WordLemmas.{have_one_line, reading_has_one_line}
use Rattle.cil_projection.proofs.PlainLemmas.{are_found_plain, are_plain, is_plain, plain_branches, plain_condition, plain_fit, plain_name, plain_names}

-- a piece of a name without a line feed is spelt without a line feed
pub plain_spelled : (text : List ℕ) (piece : Piece) → IsTrue (is_plain is_one_line piece) → IsTrue (is_one_line (spelled text piece))
plain_spelled text (copied from to) h = absurd (true≢false (sym h))
plain_spelled text (blanked from to) h = absurd (true≢false (sym h))
plain_spelled text (taken keyword) h = refl
plain_spelled text (declared table name) h =
    one_line_append (codes "(typeattribute " ++ attribute_of table name) (codes ")")
    (one_line_append (codes "(typeattribute ") (attribute_of table name) refl (one_line_attribute table name h)) refl
plain_spelled text (needed table name) h =
    one_line_append (codes "(dontaudit " ++ attribute_of table name) (codes " cilsem__none (cilsem__none ()))")
    (one_line_append (codes "(dontaudit ") (attribute_of table name) refl (one_line_attribute table name h)) refl
plain_spelled text (a_class name) h =
    one_line_append (codes "(dontaudit cilsem__none self (" ++ name) (codes " ()))") (one_line_append (codes "(dontaudit cilsem__none self (") name refl h) refl
plain_spelled text (a_permission_set name) h =
    one_line_append (codes "(dontaudit cilsem__none self " ++ name) (codes ")") (one_line_append (codes "(dontaudit cilsem__none self ") name refl h) refl
plain_spelled text (opened name) h =
    one_line_append (codes "(dontaudit cilsem__none self (" ++ name) (codes " (") (one_line_append (codes "(dontaudit cilsem__none self (") name refl h) refl
plain_spelled text (permission name) h = one_line_append name (codes " ") h refl
plain_spelled text closed h = refl

-- A piece leads from an offset of the text to another: it is the bytes between them, as they are or blanked, or no line feed is in it.
abbrev pub Leads : ℕ → Piece → ℕ → Type 0
Leads from (copied a b) to = (a ≡ from) × (a ≤ b) × (b ≡ to)
Leads from (blanked a b) to = (a ≡ from) × (a ≤ b) × (b ≡ to)
Leads from piece to = IsTrue (is_plain is_one_line piece) × (from ≡ to)

-- so do pieces one behind the other
abbrev pub Covers : ℕ → List Piece → ℕ → Type 0
Covers from [] to = from ≡ to
Covers from (piece ∷ pieces) to = (mid : ℕ) × Leads from piece mid × Covers mid pieces to

leads_le : (from : ℕ) (piece : Piece) (to : ℕ) → Leads from piece to → from ≤ to
leads_le from (copied a b) to h = omega (arith, h.0, h.1, h.2)
leads_le from (blanked a b) to h = omega (arith, h.0, h.1, h.2)
leads_le from piece to h = omega (arith, h.1)

covers_le : (from : ℕ) (pieces : List Piece) (to : ℕ) → Covers from pieces to → from ≤ to
covers_le from [] to h = omega (arith, h)
covers_le from (piece ∷ pieces) to h = omega (arith, leads_le from piece h.0 h.1, covers_le h.0 pieces to h.2)

covers_append : (from : ℕ) (xs : List Piece) (mid : ℕ) (ys : List Piece) (to : ℕ) → Covers from xs mid → Covers mid ys to → Covers from (xs ++ ys) to
covers_append from [] mid ys to h k = subst (λ n. Covers n ys to) (sym h) k
covers_append from (x ∷ xs) mid ys to h k = (h.0, h.1, covers_append h.0 xs mid ys to h.2 k)

covers_split : (from : ℕ) (xs ys : List Piece) (to : ℕ) → Covers from (xs ++ ys) to → (mid : ℕ) × Covers from xs mid × Covers mid ys to
covers_split from [] ys to h = (from, refl, h)
covers_split from (x ∷ xs) ys to h =
    let p = covers_split h.0 xs ys to h.2 in
    (p.0, (h.0, h.1, p.1), p.2)

-- The line feeds of pieces are those of the text that they cover.

part_is : (text : List ℕ) (a from b to : ℕ) → a ≡ from → b ≡ to → feeds (part_of text a b) ≡ feeds (part_of text from to)
part_is text a from b to is end = ap (λ a. feeds (part_of text a b)) is ∙ ap (λ b. feeds (part_of text from b)) end

plain_feeds : (text : List ℕ) (from : ℕ) (piece : Piece) (to : ℕ) → IsTrue (is_plain is_one_line piece) → from ≡ to → feeds (spelled text piece) ≡ feeds (part_of text from to)
plain_feeds text from piece to plain same =
    feeds_none (spelled text piece) (plain_spelled text piece plain)
    ∙ ap (λ n. feeds (take n (drop from text))) (let e : 0 ≡ to - from = omega (arith, same) in e)

leads_feeds : (text : List ℕ) (from : ℕ) (piece : Piece) (to : ℕ) → Leads from piece to → feeds (spelled text piece) ≡ feeds (part_of text from to)
leads_feeds text from (copied a b) to h = part_is text a from b to h.0 h.2
leads_feeds text from (blanked a b) to h = feeds-blank (part_of text a b) ∙ part_is text a from b to h.0 h.2
leads_feeds text from piece to h = plain_feeds text from piece to h.0 h.1

covers_feeds : (text : List ℕ) (from : ℕ) (pieces : List Piece) (to : ℕ) → Covers from pieces to → feeds (rendered text pieces) ≡ feeds (part_of text from to)
covers_feeds text from [] to h = ap (λ n. feeds (take n (drop from text))) (let e : 0 ≡ to - from = omega (arith, h) in e)
covers_feeds text from (piece ∷ pieces) to h =
    feeds-append (spelled text piece) (rendered text pieces)
    ∙ ap (λ n. n + feeds (rendered text pieces)) (leads_feeds text from piece h.0 h.1)
    ∙ ap (λ n. feeds (part_of text from h.0) + n) (covers_feeds text h.0 pieces to h.2)
    ∙ feeds-part text from h.0 to (leads_le from piece h.0 h.1) (covers_le h.0 pieces to h.2)

-- What covers a part of the text.

covers_one : (from : ℕ) (piece : Piece) (to : ℕ) → Leads from piece to → Covers from (piece ∷ []) to
covers_one from piece to h = (to, h, refl)

covers_cond : (b : Bool) (from : ℕ) (xs ys : List Piece) (to : ℕ) → Covers from xs to → Covers from ys to → Covers from (cond b xs ys) to
covers_cond true from xs ys to h k = h
covers_cond false from xs ys to h k = k

plain_leads : (at : ℕ) (piece : Piece) → IsTrue (is_plain is_one_line piece) → Leads at piece at
plain_leads at (copied a b) h = absurd (true≢false (sym h))
plain_leads at (blanked a b) h = absurd (true≢false (sym h))
plain_leads at piece h = (h, refl)

covers_plain : (at : ℕ) (pieces : List Piece) → IsTrue (are_plain is_one_line pieces) → Covers at pieces at
covers_plain at [] h = refl
covers_plain at (piece ∷ pieces) h =
    let p = and_parts (is_plain is_one_line piece) (are_plain is_one_line pieces) h in
    (at, plain_leads at piece p.0, covers_plain at pieces p.1)

-- pieces that cover a part, and those of names behind them
covers_then : (from : ℕ) (xs : List Piece) (to : ℕ) (ys : List Piece) → Covers from xs to → IsTrue (are_plain is_one_line ys) → Covers from (xs ++ ys) to
covers_then from xs to ys h k = covers_append from xs to ys to h (covers_plain to ys k)

-- where there are pieces, they cover it
abbrev FoundCovers : ℕ → Option (List Piece) → ℕ → Type 0
FoundCovers from None to = Unit {0}
FoundCovers from (Some pieces) to = Covers from pieces to

found_joined : (from : ℕ) (front : List Piece) (to : ℕ) (found : Option (List Piece)) → Covers from front to → IsTrue (are_found_plain is_one_line found) → FoundCovers from (joined (Some front) found) to
found_joined from front to None h k = tt
found_joined from front to (Some after) h k = covers_then from front to after h k

found_either : (from : ℕ) (b : Bool) (x y : Option (List Piece)) (to : ℕ) → FoundCovers from x to → FoundCovers from y to → FoundCovers from (cond b x y) to
found_either from true x y to h k = h
found_either from false x y to h k = k

found_or_else : (from : ℕ) (x y : Option (List Piece)) (to : ℕ) → FoundCovers from x to → FoundCovers from y to → FoundCovers from (or_else x y) to
found_or_else from None y to h k = k
found_or_else from (Some found) y to h k = h

-- a statement that is taken by its names
fitting_covers : (from to : ℕ) (rows : List (List ℕ × List Part)) (word : List ℕ) (arguments : Trees) → from ≤ to → IsTrue (have_one_line arguments) → FoundCovers from (fitting from to rows word arguments) to
fitting_covers from to [] word arguments le h = tt
fitting_covers from to ((keyword, parts) ∷ rows) word arguments le h =
    found_or_else from (cond (bytes_eq word keyword) (taken_by from to keyword parts arguments) None) (fitting from to rows word arguments) to
    (found_either from (bytes_eq word keyword) (taken_by from to keyword parts arguments) None to
    (found_joined from (blanked from to ∷ taken keyword ∷ []) to (fit parts arguments) (to, (refl, le, refl), (to, (refl, refl), refl)) (plain_fit is_one_line parts arguments h)) tt)
    (fitting_covers from to rows word arguments le h)

-- the rules of branches

rules_cover : (from : ℕ) (trees : Trees) (to : ℕ) → Stands from trees to → Covers from (kept_rules from trees to) to
rules_cover from none to h = covers_one from (blanked from to) to (refl, stands_le from none to h, refl)
rules_cover from (a_word at word rest) to h = rules_cover from rest to (stands_word from at word rest to h)
rules_cover from (a_string at text rest) to h = rules_cover from rest to (stands_string from at text rest to h)
rules_cover from (a_list at end (a_word place word arguments) rest) to h =
    let p = stands_list from at end (a_word place word arguments) rest to h in
    covers_cond (is_among rules word) from (blanked from at.offset ∷ copied at.offset end ∷ kept_rules end rest to) (kept_rules from rest to) to
    (at.offset, (refl, p.0, refl), (end, (refl, p.1, refl), rules_cover end rest to p.4))
    (rules_cover from rest to (stands_wide from end rest to to (omega (arith, p.0, p.1)) (omega arith) p.4))
rules_cover from (a_list at end none rest) to h = rules_cover from rest to (stands_behind from at end none rest to h)
rules_cover from (a_list at end (a_string place text more) rest) to h = rules_cover from rest to (stands_behind from at end (a_string place text more) rest to h)
rules_cover from (a_list at end (a_list place last inner more) rest) to h = rules_cover from rest to (stands_behind from at end (a_list place last inner more) rest to h)

branches_cover : (settings : Settings) (holds : Bool) (from : ℕ) (trees : Trees) (to : ℕ) → Stands from trees to → Covers from (kept_branches settings holds from trees to) to
branches_cover settings holds from none to h = covers_one from (blanked from to) to (refl, stands_le from none to h, refl)
branches_cover settings holds from (a_word at word rest) to h = branches_cover settings holds from rest to (stands_word from at word rest to h)
branches_cover settings holds from (a_string at text rest) to h = branches_cover settings holds from rest to (stands_string from at text rest to h)
branches_cover settings holds from (a_list at end (a_word place branch inner) rest) to h =
    let p = stands_list from at end (a_word place branch inner) rest to h in
    let within : Stands from inner end = stands_wide from at.offset inner end end p.0 (omega arith) (stands_word at.offset place branch inner end p.3) in
    covers_cond (is_taken settings holds branch) from (kept_rules from inner end ++ kept_branches settings holds end rest to) (kept_branches settings holds from rest to) to
    (covers_append from (kept_rules from inner end) end (kept_branches settings holds end rest to) to (rules_cover from inner end within) (branches_cover settings holds end rest to p.4))
    (branches_cover settings holds from rest to (stands_wide from end rest to to (omega (arith, p.0, p.1)) (omega arith) p.4))
branches_cover settings holds from (a_list at end none rest) to h = branches_cover settings holds from rest to (stands_behind from at end none rest to h)
branches_cover settings holds from (a_list at end (a_string place text more) rest) to h =
    branches_cover settings holds from rest to (stands_behind from at end (a_string place text more) rest to h)
branches_cover settings holds from (a_list at end (a_list place last inner more) rest) to h =
    branches_cover settings holds from rest to (stands_behind from at end (a_list place last inner more) rest to h)

-- a conditional statement

first_behind : (from : ℕ) (trees : Trees) (to : ℕ) → Stands from trees to → Stands from (behind_first trees) to
first_behind from none to h = h
first_behind from (a_word at word rest) to h = stands_word from at word rest to h
first_behind from (a_string at text rest) to h = stands_string from at text rest to h
first_behind from (a_list at end items rest) to h = stands_behind from at end items rest to h

lines_behind : (trees : Trees) → IsTrue (have_one_line trees) → IsTrue (have_one_line (behind_first trees))
lines_behind none h = refl
lines_behind (a_word at word rest) h = (and_parts (is_one_line word) (have_one_line rest) h).1
lines_behind (a_string at text rest) h = h
lines_behind (a_list at end items rest) h = (and_parts (have_one_line items) (have_one_line rest) h).1

chosen_covers : (settings : Settings) (from to : ℕ) (value : Option Bool) (names : List Piece) (inner : Trees) → IsTrue (are_plain is_one_line names) → Stands from inner to → IsTrue (have_one_line inner)
    → FoundCovers from (chosen settings from to value names inner) to
chosen_covers settings from to None names inner plain stands lines = tt
chosen_covers settings from to (Some holds) names inner plain stands lines =
    let front : List Piece = kept_branches settings holds from inner to ++ taken (codes "booleanif") ∷ names in
    found_either from (are_branches inner) (joined (Some front) (branches_need settings holds inner)) None to
    (found_joined from front to (branches_need settings holds inner)
    (covers_then from (kept_branches settings holds from inner to) to (taken (codes "booleanif") ∷ names) (branches_cover settings holds from inner to stands) plain)
    (plain_branches is_one_line settings holds inner lines)) tt

statement_covers : (settings : Settings) (from to : ℕ) (word : List ℕ) (arguments : Trees) → Stands from arguments to → IsTrue (have_one_line arguments)
    → FoundCovers from (statement settings from to word arguments) to
statement_covers settings from to word arguments stands lines =
    found_either from (bytes_eq word (codes "booleanif")) (conditional settings from to arguments) (by_names from to word arguments) to
    (chosen_covers settings from to (condition_value settings arguments) (condition_names Booleans arguments) (behind_first arguments) (plain_condition is_one_line arguments lines)
    (first_behind from arguments to stands) (lines_behind arguments lines))
    (fitting_covers from to forms word arguments (stands_le from arguments to stands) lines)

-- Any statement.

copied_covers : (from to : ℕ) → from ≤ to → Covers from (copied from to ∷ []) to
copied_covers from to le = covers_one from (copied from to) to (refl, le, refl)

or_copied_covers : (from to : ℕ) (found : Option (List Piece)) → from ≤ to → FoundCovers from found to → Covers from (or_copied from to found) to
or_copied_covers from to None le h = copied_covers from to le
or_copied_covers from to (Some found) le h = h

between_leads : (stays : Bool) (from to : ℕ) → from ≤ to → Leads from (between stays from to) to
between_leads true from to le = (refl, le, refl)
between_leads false from to le = (refl, le, refl)

valued_covers : (from to : ℕ) (f : Bool → List Piece) (value : Option Bool) → from ≤ to → ((holds : Bool) → Covers from (f holds) to)
    → Covers from (option_map_or f value (copied from to ∷ [])) to
valued_covers from to f None le h = copied_covers from to le
valued_covers from to f (Some holds) le h = h holds

mutual
  projected_covers : (settings : Settings) (stays : Bool) (from : ℕ) (trees : Trees) (to : ℕ) → Stands from trees to → IsTrue (have_one_line trees) → Covers from (projected settings stays from trees to) to
  projected_covers settings stays from none to h lines = covers_one from (between stays from to) to (between_leads stays from to (stands_le from none to h))
  projected_covers settings stays from (a_word at word rest) to h lines =
      projected_covers settings stays from rest to (stands_word from at word rest to h) (and_parts (is_one_line word) (have_one_line rest) lines).1
  projected_covers settings stays from (a_string at text rest) to h lines = projected_covers settings stays from rest to (stands_string from at text rest to h) lines
  projected_covers settings stays from (a_list at end items rest) to h lines =
      let p = stands_list from at end items rest to h in
      let q = and_parts (have_one_line items) (have_one_line rest) lines in (
        at.offset,
        between_leads stays from at.offset p.0,
        covers_append at.offset (one_projected settings at.offset end items) end (projected settings stays end rest to) to
            (one_covers settings at.offset end items p.3 q.0) (projected_covers settings stays end rest to p.4 q.1),
      )

  one_covers : (settings : Settings) (from to : ℕ) (items : Trees) → Stands from items to → IsTrue (have_one_line items) → Covers from (one_projected settings from to items) to
  one_covers settings from to none h lines = copied_covers from to (stands_le from none to h)
  one_covers settings from to (a_word place word arguments) h lines =
      let k = stands_word from place word arguments to h in
      let rest = (and_parts (is_one_line word) (have_one_line arguments) lines).1 in
      let other : List Piece = or_copied from to (statement settings from to word arguments) in
      covers_cond (is_among containers word) from (body_projected settings from to arguments) (cond (bytes_eq word (codes "tunableif")) (tunable_projected settings from to arguments) other) to
      (body_covers settings from to arguments k rest)
      (covers_cond (bytes_eq word (codes "tunableif")) from (tunable_projected settings from to arguments) other to
      (tunable_covers settings from to arguments k rest)
      (or_copied_covers from to (statement settings from to word arguments) (stands_le from arguments to k) (statement_covers settings from to word arguments k rest)))
  one_covers settings from to (a_string place text rest) h lines = copied_covers from to (stands_le from (a_string place text rest) to h)
  one_covers settings from to (a_list place end items rest) h lines = copied_covers from to (stands_le from (a_list place end items rest) to h)

  body_covers : (settings : Settings) (from to : ℕ) (arguments : Trees) → Stands from arguments to → IsTrue (have_one_line arguments) → Covers from (body_projected settings from to arguments) to
  body_covers settings from to none h lines = copied_covers from to (stands_le from none to h)
  body_covers settings from to (a_word place id body) h lines =
      projected_covers settings true from body to (stands_word from place id body to h) (and_parts (is_one_line id) (have_one_line body) lines).1
  body_covers settings from to (a_string place text rest) h lines = copied_covers from to (stands_le from (a_string place text rest) to h)
  body_covers settings from to (a_list place end items rest) h lines = copied_covers from to (stands_le from (a_list place end items rest) to h)

  tunable_covers : (settings : Settings) (from to : ℕ) (arguments : Trees) → Stands from arguments to → IsTrue (have_one_line arguments) → Covers from (tunable_projected settings from to arguments) to
  tunable_covers settings from to none h lines = copied_covers from to (stands_le from none to h)
  tunable_covers settings from to (a_word at word branches) h lines =
      let p = and_parts (is_one_line word) (have_one_line branches) lines in
      let k = stands_word from at word branches to h in
      let names : List Piece = taken (codes "tunableif") ∷ name_or_operator Tunables word in
      valued_covers from to (λ holds. branch_projected settings holds from to branches ++ names) (value_for (settings.value word) branches) (stands_le from branches to k)
      (λ holds. covers_then from (branch_projected settings holds from to branches) to names (branch_covers settings holds from to branches k p.1) (plain_name is_one_line Tunables word p.0))
  tunable_covers settings from to (a_string at text branches) h lines = copied_covers from to (stands_le from (a_string at text branches) to h)
  tunable_covers settings from to (a_list at end items branches) h lines =
      let p = and_parts (have_one_line items) (have_one_line branches) lines in
      let k = stands_behind from at end items branches to h in
      let names : List Piece = taken (codes "tunableif") ∷ names_in Tunables items in
      valued_covers from to (λ holds. branch_projected settings holds from to branches ++ names) (value_for (list_value settings.value items) branches) (stands_le from branches to k)
      (λ holds. covers_then from (branch_projected settings holds from to branches) to names (branch_covers settings holds from to branches k p.1) (plain_names is_one_line Tunables items p.0))

  branch_covers : (settings : Settings) (holds : Bool) (from to : ℕ) (branches : Trees) → Stands from branches to → IsTrue (have_one_line branches) → Covers from (branch_projected settings holds from to branches) to
  branch_covers settings holds from to none h lines = covers_one from (blanked from to) to (refl, stands_le from none to h, refl)
  branch_covers settings holds from to (a_word at word rest) h lines =
      branch_covers settings holds from to rest (stands_word from at word rest to h) (and_parts (is_one_line word) (have_one_line rest) lines).1
  branch_covers settings holds from to (a_string at text rest) h lines = branch_covers settings holds from to rest (stands_string from at text rest to h) lines
  branch_covers settings holds from to (a_list at end items rest) h lines =
      let p = stands_list from at end items rest to h in
      let q = and_parts (have_one_line items) (have_one_line rest) lines in
      inner_covers settings holds from to items (branch_projected settings holds from to rest) (stands_wide from at.offset items end to p.0 p.2 p.3) q.0
      (branch_covers settings holds from to rest (stands_behind from at end items rest to h) q.1)

  inner_covers : (settings : Settings) (holds : Bool) (from to : ℕ) (items : Trees) (others : List Piece) → Stands from items to → IsTrue (have_one_line items) → Covers from others to
      → Covers from (inner_projected settings holds from to items others) to
  inner_covers settings holds from to none others h lines k = k
  inner_covers settings holds from to (a_word place branch inner) others h lines k =
      covers_cond (bytes_eq branch (cond holds (codes "true") (codes "false"))) from (projected settings false from inner to) others to
      (projected_covers settings false from inner to (stands_word from place branch inner to h) (and_parts (is_one_line branch) (have_one_line inner) lines).1) k
  inner_covers settings holds from to (a_string place text rest) others h lines k = k
  inner_covers settings holds from to (a_list place end items rest) others h lines k = k

-- the first bytes of pieces of which one is copied
front_is : (text : List ℕ) (front behind : List Piece) (from to k : ℕ) → from + k ≤ to → to ≤ length text
    → take (length (rendered text front) + k) (rendered text (front ++ copied from to ∷ behind)) ≡ rendered text front ++ part_of text from (from + k)
front_is text front behind from to k within le =
    let long : length (part_of text from to) ≡ min (to - from) (length text - from) =
    length-take (to - from) (drop from text) ∙ ap (λ n. min (to - from) n) (length-drop from text) in
    let count : k ≡ (from + k) - from = omega arith in
    ap (take (length (rendered text front) + k)) (rendered-append text front (copied from to ∷ behind))
    ∙ take-append-add (rendered text front) (part_of text from to ++ rendered text behind) k
    ∙ ap (λ l. rendered text front ++ l)
    (take-append-le k (part_of text from to) (rendered text behind) (omega (arith, long, within, le)) ∙ take-take k (to - from) (drop from text) (omega (arith, within))
    ∙ ap (λ n. take n (drop from text)) count)

-- a byte that is copied stands at its line
copied_line : (text : List ℕ) (front behind : List Piece) (from to k : ℕ) → Covers 0 (front ++ copied from to ∷ behind) (length text) → from + k ≤ to
    → line_at (rendered text (front ++ copied from to ∷ behind)) (length (rendered text front) + k) ≡ line_at text (from + k)
copied_line text front behind from to k covers within =
    let p = covers_split 0 front (copied from to ∷ behind) (length text) covers in
    let most : to ≤ length text = omega (arith, p.2.1.2, covers_le p.2.0 behind (length text) p.2.2) in
    let before : feeds (rendered text front) ≡ feeds (part_of text 0 from) =
    covers_feeds text 0 front p.0 p.1 ∙ ap (λ n. feeds (part_of text 0 n)) (sym p.2.1.0) in
    let whole : (from + k) - 0 ≡ from + k = omega arith in
    ap (λ n. 1 + n)
    (ap feeds (front_is text front behind from to k within most) ∙ feeds-append (rendered text front) (part_of text from (from + k))
    ∙ ap (λ n. n + feeds (part_of text from (from + k))) before ∙ feeds-part text 0 from (from + k) (omega arith) (omega arith)
    ∙ ap (λ n. feeds (take n text)) whole)

pub lines : (settings : Settings) (text : List ℕ) (trees : Trees) (front behind : List Piece) (from to k : ℕ) → Reads text trees
    → projected settings true 0 trees (length text) ≡ front ++ copied from to ∷ behind → from + k ≤ to
    → line_at (rendered text (front ++ copied from to ∷ behind)) (length (rendered text front) + k) ≡ line_at text (from + k)
lines settings text trees front behind from to k reads is within =
    copied_line text front behind from to k
    (subst (λ pieces. Covers 0 pieces (length text)) is
    (projected_covers settings true 0 trees (length text) (reading_stands text trees reads) (reading_has_one_line text trees reads)))
    within
