-- Violations by numbers.
use Rattle.std.specs.Prelude.{◌≡◌, ◌↔◌, ◌&&◌, ◌<◌, ℕ, Bool, List, [], ◌∷◌, Contains, Option, Some, length, slice_get}
use Rattle.std.specs.List.{flat_map}
use Rattle.std.specs.List.Sorted.{IsStrictlySortedBy}
use Rattle.std.specs.Ordering.{nat_cmp}
use Rattle.cil_resolve.specs.declared.numbered.NumberedRule.{NumberedRule}
use Rattle.cil_member_rows.specs.Rows.{count_now}
use Rattle.cil_rule_reach.specs.Named.{AreMembersBy}
use Rattle.cil_resolve.specs.declared.set_permissions.ClassPermission.{ClassPermission}
use Rattle.cil_violations.specs.Index.{if_there, is_allow, is_kind, set_at, IsIndexOf}
use Rattle.cil_violations.specs.Permissions.{AreOrdered, given_at, of_class, share}
pub use Rattle.cil_violations.specs.Search.{hits}
use Rattle.cil_violations.specs.Held.{is_held_in, symbols_in}
use Rattle.cil_violations.specs.Aims.{aim_of}
use Rattle.cil_violations.specs.declared.row.Pair.{Pair}
use Rattle.cil_violations.specs.declared.row.RowNumbers.{RowNumbers}
use Rattle.cil_violations.specs.declared.search.Search.{Search}

-- Whether a rule is a neverallow rule, whether another is an allow rule that it may meet, and whether both take in a source, a target of
-- it, and permissions of a class: all by places and numbers.
pub record Tests : Type 0 where
  pub never : ℕ → Bool
  pub pair : ℕ → ℕ → Bool
  pub source : ℕ → ℕ → ℕ → Bool
  pub target : ℕ → ℕ → ℕ → ℕ → Bool
  pub the_class : ℕ → ℕ → ℕ → Bool

abbrev pub row_with : ℕ → ℕ → ℕ → ℕ → ℕ → RowNumbers
row_with never allowed source target the_class =
    record { never = never; allowed = allowed; source = source; target = target; class = the_class }

-- the violations of two rules with a source and a target, in some classes
abbrev pub rows_at : ℕ → ℕ → List ℕ → ℕ → ℕ → List RowNumbers
rows_at never allowed classes source target = flat_map (λ the_class. row_with never allowed source target the_class ∷ []) classes

-- the violations of two rules with a source, among so many names
abbrev pub target_rows : Tests → ℕ → ℕ → ℕ → ℕ → List RowNumbers
target_rows tests names never allowed source =
    flat_map (rows_at never allowed (hits (tests.the_class never allowed) 0 names) source)
    (hits (tests.target never allowed source) 0 names)

-- the violations of two rules
abbrev pub source_rows : Tests → ℕ → ℕ → ℕ → List RowNumbers
source_rows tests names never allowed = flat_map (target_rows tests names never allowed) (hits (tests.source never allowed) 0 names)

-- the violations of a neverallow rule, among so many rules
abbrev pub pair_rows : Tests → ℕ → ℕ → ℕ → List RowNumbers
pair_rows tests rules names never = flat_map (source_rows tests names never) (hits (tests.pair never) 0 rules)

abbrev pub all_rows : Tests → ℕ → ℕ → List RowNumbers
all_rows tests rules names = flat_map (pair_rows tests rules names) (hits tests.never 0 rules)

-- how many names the policy has
abbrev pub names_in : {A : Type 0} → Search A → ℕ
names_in s = length s.resolved.now.names.items

abbrev pub rules_in : {A : Type 0} → Search A → List (NumberedRule A)
rules_in s = s.resolved.now.rules.items

-- what the rule at a place gives, in order
abbrev pub permissions_at : {A : Type 0} → Search A → ℕ → List ClassPermission
permissions_at s i = given_at (rules_in s) s.permissions.now.0 i

abbrev pub takes_source : {A : Type 0} → Search A → ℕ → ℕ → Bool
takes_source s i source = if_there (λ r. is_held_in s.members r.source source) (slice_get (rules_in s) i)

abbrev pub takes_target : {A : Type 0} → Search A → ℕ → ℕ → ℕ → Bool
takes_target s i source target =
    if_there (λ r. is_held_in s.members (aim_of r.target source) target) (slice_get (rules_in s) i)

abbrev pub tests_of : {A : Type 0} → Search A → Tests
tests_of s = record {
  never = λ i. if_there (is_kind 3) (slice_get (rules_in s) i);
  pair = λ i j. is_allow (rules_in s) j && share (permissions_at s i) (permissions_at s j);
  source = λ i j t. takes_source s i t && takes_source s j t;
  target = λ i j source t. takes_target s i source t && takes_target s j source t;
  the_class = λ i j c. share (of_class c (permissions_at s i)) (of_class c (permissions_at s j));
}

-- the sources that two rules have in common, in order
abbrev pub sources_of : {A : Type 0} → Search A → ℕ → ℕ → List ℕ
sources_of s never allowed = hits ((tests_of s).source never allowed) 0 (names_in s)

-- the targets of a source likewise
abbrev pub targets_of : {A : Type 0} → Search A → ℕ → ℕ → ℕ → List ℕ
targets_of s never allowed source = hits ((tests_of s).target never allowed source) 0 (names_in s)

-- the classes in which they share a permission
abbrev pub classes_of : {A : Type 0} → Search A → ℕ → ℕ → List ℕ
classes_of s never allowed = hits ((tests_of s).the_class never allowed) 0 (names_in s)

-- the allow rules that it meets
abbrev pub met_in : {A : Type 0} → Search A → ℕ → List ℕ
met_in s never = hits ((tests_of s).pair never) 0 (length (rules_in s))

-- each rule of a set meets these, where they are those of a set
abbrev pub AreMetBySet : {A : Type 0} → Search A → Option ℕ → List ℕ → Type 0
AreMetBySet s last met = (set i : ℕ) → last ≡ Some set → set_at (rules_in s) i ≡ Some set → met ≡ met_in s i

-- The heads of the classes of some permissions, in order: by heads of each class.
pub record AreHeadsOf (heads : ℕ → List ℕ) (given : List ClassPermission) (list : List ℕ) : Type 0 where
  pub rising : IsStrictlySortedBy nat_cmp list
  pub same : (h : ℕ) → Contains list h ↔ ((g : ClassPermission) × Contains given g × Contains (heads g.class) h)

-- There are rules at the places of a pair, and its classes are those in which they share a permission.
pub record IsPair {A : Type 0} (s : Search A) (pair : Pair) : Type 0 where
  pub never : pair.never < length (rules_in s)
  pub allowed : pair.allowed < length (rules_in s)
  pub classes : pair.classes.now ≡ classes_of s pair.never pair.allowed

-- the violations of two rules
abbrev pub rows_of : {A : Type 0} → Search A → ℕ → ℕ → List RowNumbers
rows_of s never allowed = source_rows (tests_of s) (names_in s) never allowed

-- the members, the permissions and the index are those of the policy
pub record IsSearch {A : Type 0} (s : Search A) : Type 0 where
  pub members : AreMembersBy s.resolved.now (symbols_in s.members) (count_now s.members.rows.now)
  pub permissions : AreOrdered (rules_in s) s.permissions.now.0
  pub index : IsIndexOf s.resolved.now s.permissions.now.0 s.index.now
