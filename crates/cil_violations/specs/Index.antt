-- The allow rules of a policy by the classes that they give permissions of.
use Rattle.std.specs.Prelude.{◌≡◌, ◌⊎◌, ◌&&◌, ◌==◌, ◌-◌, ◌<◌, ◌≤◌, ℕ, suc, Bool, IsTrue, true, false, List, [], ◌∷◌, Contains, Option, Some, None, length, slice_get, slice_index_or}
use Rattle.std.specs.List.Sorted.{IsStrictlySortedBy}
use Rattle.std.specs.Ordering.{nat_cmp}
use Rattle.cil_specs.specs.Rule.{kind_index}
use Rattle.cil_text.specs.Image.{rule_kind_of}
use Rattle.cil_resolve.specs.declared.numbered.NumberedRule.{NumberedRule}
use Rattle.cil_resolve.specs.declared.numbered.ResolvedPermissions.{ResolvedPermissions}
use Rattle.cil_resolve.specs.declared.numbered.ResolvedPermissions.TheVariants as permits
use Rattle.cil_resolve.specs.declared.resolved.Resolved.{Resolved}
use Rattle.cil_resolve.specs.declared.set_permissions.ClassPermission.{ClassPermission}
use Rattle.cil_violations.specs.Permissions.{given_at, gives_class}
use Rattle.cil_violations.specs.Search.{hits}
use Rattle.cil_violations.specs.declared.index.Link.{Link}
use Rattle.cil_violations.specs.declared.index.ClassIndex.{ClassIndex}

-- whether there is something of which a test holds
abbrev pub if_there : {X : Type 0} → (X → Bool) → Option X → Bool
if_there test None = false
if_there test (Some x) = test x

abbrev pub is_kind : {A : Type 0} → ℕ → NumberedRule A → Bool
is_kind kind r = kind_index (rule_kind_of r.kind) == kind

-- whether the rule at a place is an allow rule
abbrev pub is_allow : {A : Type 0} → List (NumberedRule A) → ℕ → Bool
is_allow rules i = if_there (is_kind 0) (slice_get rules i)

-- whether it is an allow rule that gives a permission of a class, by lists of what rules give
abbrev pub is_allow_of : {A : Type 0} → List (NumberedRule A) → List (List ClassPermission) → ℕ → ℕ → Bool
is_allow_of rules lists the_class i = is_allow rules i && gives_class (given_at rules lists i) the_class

-- whether permissions are those of the set of a number
abbrev pub is_of_set : {A : Type 0} → ℕ → ResolvedPermissions A → Bool
is_of_set set (permits.OfClass p) = false
is_of_set set (permits.OfSet s) = s.set == set

-- whether the rule at a place is an allow rule of a set
abbrev pub is_allow_of_set : {A : Type 0} → List (NumberedRule A) → ℕ → ℕ → Bool
is_allow_of_set rules set i = if_there (λ r. is_kind 0 r && is_of_set set r.permissions) (slice_get rules i)

-- whether the rules at two places are allow rules of one set
abbrev pub AreOfSet : {A : Type 0} → List (NumberedRule A) → ℕ → ℕ → Type 0
AreOfSet rules i j = (set : ℕ) × IsTrue (is_allow_of_set rules set i) × IsTrue (is_allow_of_set rules set j)

-- all rules of a set give the same
abbrev pub DoAgree : {A : Type 0} → List (NumberedRule A) → List (List ClassPermission) → Type 0
DoAgree rules lists = (i j : ℕ) → AreOfSet rules i j → (g : ClassPermission) → Contains (given_at rules lists i) g → Contains (given_at rules lists j) g

-- Allow rules for each class: each gives a permission of it. An allow rule from a place on that gives one is there, or another one of its
-- set.
pub record AreHeads {A : Type 0} (rules : List (NumberedRule A)) (lists : List (List ClassPermission)) (from : ℕ) (heads : ℕ → List ℕ) : Type 0 where
  pub rising : (the_class : ℕ) → IsStrictlySortedBy nat_cmp (heads the_class)
  pub from_on : (the_class h : ℕ) → Contains (heads the_class) h → from ≤ h
  pub sound : (the_class h : ℕ) → Contains (heads the_class) h → IsTrue (is_allow_of rules lists the_class h)
  pub complete : (the_class j : ℕ) → from ≤ j → IsTrue (is_allow_of rules lists the_class j)
      → (h : ℕ) × Contains (heads the_class) h × ((h ≡ j) ⊎ AreOfSet rules h j)

-- how many links there are at least
abbrev pub links_to : Option ℕ → ℕ
links_to None = 0
links_to (Some k) = suc k

-- The links of numbers, one after the other, from one link on: each has the next one before it.
abbrev pub IsChain : List Link → List ℕ → Option ℕ → Type 0
IsChain links [] next = next ≡ None
IsChain links (n ∷ ns) next = (k : ℕ) × (link : Link) × (next ≡ Some k) × (slice_get links k ≡ Some link) × (link.rule ≡ n)
    × (links_to link.next ≤ k) × IsChain links ns link.next

-- for each number that there is room for, the chain of these numbers
abbrev pub AreChains : (ℕ → List ℕ) → List (Option ℕ) → List Link → Type 0
AreChains f first links = (n : ℕ) → n < length first → IsChain links (f n) (slice_index_or first n None)

-- the allow rules of a set, from a place on
abbrev pub rules_of_set : {A : Type 0} → List (NumberedRule A) → ℕ → ℕ → List ℕ
rules_of_set rules from set = hits (is_allow_of_set rules set) from (length rules - from)

-- The rules from a place on are in an index, by lists of what rules give.
pub record IsIndexFrom {A : Type 0} (rules : List (NumberedRule A)) (lists : List (List ClassPermission)) (from : ℕ) (index : ClassIndex A) : Type 0 where
  pub heads : ℕ → List ℕ
  pub are : AreHeads rules lists from heads
  pub classes : AreChains heads index.first.items index.links.items
  pub sets : AreChains (rules_of_set rules from) index.of_set.items index.links.items

-- the index of a policy, with room for each name of it
pub record IsIndexOf {A : Type 0} (r : Resolved A) (lists : List (List ClassPermission)) (index : ClassIndex A) : Type 0 where
  pub classes_len : length index.first.items ≡ length r.names.items
  pub sets_len : length index.of_set.items ≡ length r.names.items
  pub holds : IsIndexFrom r.rules.items lists 0 index

-- the allow rules for which one stands: those of its set, or it alone
abbrev pub stood_by : {A : Type 0} → List (NumberedRule A) → ℕ → ResolvedPermissions A → List ℕ
stood_by rules head (permits.OfClass p) = head ∷ []
stood_by rules head (permits.OfSet s) = rules_of_set rules 0 s.set

abbrev pub stood_by_at : {A : Type 0} → List (NumberedRule A) → ℕ → Option (NumberedRule A) → List ℕ
stood_by_at rules head None = []
stood_by_at rules head (Some r) = stood_by rules head r.permissions

abbrev pub stood_for : {A : Type 0} → List (NumberedRule A) → ℕ → List ℕ
stood_for rules head = stood_by_at rules head (slice_get rules head)

-- whether a rule is one of a set
abbrev pub are_of_set : {A : Type 0} → ResolvedPermissions A → Bool
are_of_set (permits.OfClass p) = false
are_of_set (permits.OfSet s) = true

abbrev pub is_set_rule : {A : Type 0} → List (NumberedRule A) → ℕ → Bool
is_set_rule rules i = if_there (λ r. are_of_set r.permissions) (slice_get rules i)

-- the number of the set of a rule, if it is a rule of one
abbrev pub set_of : {A : Type 0} → ResolvedPermissions A → Option ℕ
set_of (permits.OfClass p) = None
set_of (permits.OfSet s) = Some s.set

abbrev pub set_of_one : {A : Type 0} → Option (NumberedRule A) → Option ℕ
set_of_one None = None
set_of_one (Some r) = set_of r.permissions

abbrev pub set_at : {A : Type 0} → List (NumberedRule A) → ℕ → Option ℕ
set_at rules i = set_of_one (slice_get rules i)
