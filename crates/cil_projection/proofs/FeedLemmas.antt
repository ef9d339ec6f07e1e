-- Line feeds, and bytes without any.
use Rattle.std.specs.Prelude.{◌≡◌, ℕ, ◌+◌, ◌-◌, ◌≤◌, ◌==◌, Bool, true, false, cond, not, nat_le, List, [], ◌∷◌, ◌++◌, length, take, map, IsTrue, count_by, refl}
use Rattle.std.specs.List.{list_all}
use Rattle.std.proofs.Common.{zero, suc, ◌∙◌, sym, ap, arith}
use Rattle.std.proofs.lemmas.Bool.{and_parts, leb-true, not_from_false, ne_eqb, true≢false}
use Rattle.std.proofs.lemmas.List.Folds.{list_all-append}
use Rattle.std.proofs.lemmas.List.Sums.{sum_by-append, sum_by-cons}
use Rattle.cil_specs.specs.Place.{is_line_feed}
use Rattle.cil_specs.specs.Bytes.{is_word_byte}
use Rattle.cil_specs.proofs.Runs.{both_true}
use Rattle.cil_projection.specs.declared.table.Table.{Table}
use Rattle.cil_projection.specs.declared.table.Table.TheVariants.{Types, Roles, Users, Booleans, Tunables, Categories, Sensitivities, Levels, Ranges, Contexts, Sids, Addresses, ExtendedPermissions}
use Rattle.cil_projection.specs.Pieces.{attribute_of, blank, is_dotted, last_component, part_of, prefix}
use Rattle.cil_projection.proofs.LanguageLemmas.{part_of_more}

-- how many line feeds are among bytes
abbrev pub feeds : List ℕ → ℕ
feeds = count_by is_line_feed

-- whether none is
abbrev pub is_one_line : List ℕ → Bool
is_one_line = list_all (λ b. not (is_line_feed b))

pub feeds-append : (xs ys : List ℕ) → feeds (xs ++ ys) ≡ feeds xs + feeds ys
feeds-append = sum_by-append (λ b. cond (is_line_feed b) 1 0)

feeds-cons : (b : ℕ) (bytes : List ℕ) → feeds (b ∷ bytes) ≡ cond (is_line_feed b) 1 0 + feeds bytes
feeds-cons = sum_by-cons (λ b. cond (is_line_feed b) 1 0)

pub feeds_none : (bytes : List ℕ) → IsTrue (is_one_line bytes) → feeds bytes ≡ 0
feeds_none [] h = refl
feeds_none (b ∷ bytes) h =
    let p = and_parts (not (is_line_feed b)) (is_one_line bytes) h in
    feeds-cons b bytes ∙ by (is_line_feed b) p.0 (feeds_none bytes p.1)
  where
    by : (d : Bool) → not d ≡ true → feeds bytes ≡ 0 → cond d 1 0 + feeds bytes ≡ 0
    by true bad rest = absurd (true≢false (sym bad))
    by false is rest = omega (arith, rest)

-- blanked bytes keep their line feeds
pub feeds-blank : (bytes : List ℕ) → feeds (map blank bytes) ≡ feeds bytes
feeds-blank [] = refl
feeds-blank (b ∷ bytes) =
    feeds-cons (blank b) (map blank bytes) ∙ ap (λ n. cond (is_line_feed (blank b)) 1 0 + n) (feeds-blank bytes) ∙ by (b == 10) ∙ sym (feeds-cons b bytes)
  where
    by : (d : Bool) → cond (is_line_feed (cond d 10 32)) 1 0 + feeds bytes ≡ cond d 1 0 + feeds bytes
    by true = refl
    by false = refl

pub feeds-part : (text : List ℕ) (from mid to : ℕ) → from ≤ mid → mid ≤ to → feeds (part_of text from mid) + feeds (part_of text mid to) ≡ feeds (part_of text from to)
feeds-part text from mid to le more = sym (feeds-append (part_of text from mid) (part_of text mid to)) ∙ ap feeds (part_of_more text from mid to le more)

pub one_line_append : (xs ys : List ℕ) → IsTrue (is_one_line xs) → IsTrue (is_one_line ys) → IsTrue (is_one_line (xs ++ ys))
one_line_append xs ys h k = list_all-append (λ b. not (is_line_feed b)) xs ys ∙ both_true (is_one_line xs) (is_one_line ys) h k

one_line_take : (n : ℕ) (xs : List ℕ) → IsTrue (is_one_line xs) → IsTrue (is_one_line (take n xs))
one_line_take zero xs h = refl
one_line_take (suc n) [] h = refl
one_line_take (suc n) (b ∷ xs) h =
    let p = and_parts (not (is_line_feed b)) (is_one_line xs) h in
    both_true (not (is_line_feed b)) (is_one_line (take n xs)) p.0 (one_line_take n xs p.1)

one_line_last : (name : List ℕ) → IsTrue (is_one_line name) → IsTrue (is_one_line (last_component name))
one_line_last [] h = refl
one_line_last (b ∷ name) h = by (is_dotted (b ∷ name)) (one_line_last name (and_parts (not (is_line_feed b)) (is_one_line name) h).1)
  where
    by : (d : Bool) → IsTrue (is_one_line (last_component name)) → IsTrue (is_one_line (cond d (last_component name) (b ∷ name)))
    by true last = last
    by false last = h

one_line_prefix : (table : Table) → IsTrue (is_one_line (prefix table))
one_line_prefix Types = refl
one_line_prefix Roles = refl
one_line_prefix Users = refl
one_line_prefix Booleans = refl
one_line_prefix Tunables = refl
one_line_prefix Categories = refl
one_line_prefix Sensitivities = refl
one_line_prefix Levels = refl
one_line_prefix Ranges = refl
one_line_prefix Contexts = refl
one_line_prefix Sids = refl
one_line_prefix Addresses = refl
one_line_prefix ExtendedPermissions = refl

-- the attribute for a name without a line feed has none
pub one_line_attribute : (table : Table) (name : List ℕ) → IsTrue (is_one_line name) → IsTrue (is_one_line (attribute_of table name))
one_line_attribute table name h =
    one_line_append (take (length name - length (last_component name)) name ++ prefix table) (last_component name)
    (one_line_append (take (length name - length (last_component name)) name) (prefix table) (one_line_take (length name - length (last_component name)) name h) (one_line_prefix table))
    (one_line_last name h)

-- a word has no line feed
byte_of_word : (b : ℕ) → is_word_byte b ≡ true → not (is_line_feed b) ≡ true
byte_of_word b is =
    let least : 33 ≤ b = leb-true 33 b (and_parts (nat_le 33 b) _ is).0 in
    not_from_false (is_line_feed b) (ne_eqb b 10 (λ e. omega (arith, e, least)))

pub one_line_word : (word : List ℕ) → IsTrue (list_all is_word_byte word) → IsTrue (is_one_line word)
one_line_word [] h = refl
one_line_word (b ∷ word) h =
    let p = and_parts (is_word_byte b) (list_all is_word_byte word) h in
    both_true (not (is_line_feed b)) (is_one_line word) (byte_of_word b p.0) (one_line_word word p.1)
