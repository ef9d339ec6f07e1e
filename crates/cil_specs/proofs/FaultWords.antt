-- A fault of a policy stands at a word of its statement.
use Rattle.cil_specs.proofs.Common.{◌≡◌, Bool, true, false, cond, ◌⊎◌, inl, inr, List, [], ◌∷◌, ◌++◌, map, refl, sym, ap, subst, arith, AllByRecursion, list_any, option_to_list, Word, leaves, Form, block, optional, type_name, type_alias, alias_actual, type_attribute, attribute_set, common, class, class_common, class_order, class_permission, class_permission_set, rule, ClassPermissions, anonymous, by_name, permission_words, Target, itself, the_named, target_words, words_of, Placed, Table, types, classes, commons, permission_sets, scopes, declared_in, references, permission_reference, permissions_with, named_permissions, PolicyFaultKind, twice, missing, wrong_kind, alias_twice, alias_unset, second_common, too_many_permissions, circular, is_again, tables, is_unfound, is_lacking, missing_words, kinds_asked, is_of_another_kind, alias_words, has_earlier_actual, element_words, is_unset, common_words, has_earlier_common, has_too_many, is_outside, IsFaulty}
use Rattle.std.proofs.Common.{filter, flat_map, Contains}
use Rattle.cil_specs.proofs.OrderLemmas.{offset_of, role_offset, declared_offsets, referred_offsets}
use Rattle.cil_specs.proofs.NamesLemmas.{all-weaker, all-contained, contains-first, contains-other, contains-cases, contains-mapped}

-- the words of a rule's permissions
abbrev pub words_with : ClassPermissions → List Word
words_with (anonymous the_class permissions) = the_class ∷ leaves permissions
words_with (by_name set) = set ∷ []

offsets-with : (x : ClassPermissions) → map offset_of (words_with x) ≡ map role_offset (permission_words x)
offsets-with (anonymous the_class permissions) = ap (λ ns. the_class.at.offset ∷ ns) (sym (declared_offsets (leaves permissions)))
offsets-with (by_name set) = refl

-- the words of a statement in the order of the text
abbrev pub words_in : Form → List Word
words_in (block id) = id ∷ []
words_in (optional id) = id ∷ []
words_in (type_name id) = id ∷ []
words_in (type_alias id) = id ∷ []
words_in (alias_actual alias actual) = alias ∷ actual ∷ []
words_in (type_attribute id) = id ∷ []
words_in (attribute_set attribute expr) = attribute ∷ leaves expr
words_in (common id permissions) = id ∷ permissions
words_in (class id permissions) = id ∷ permissions
words_in (class_common the_class the_common) = the_class ∷ the_common ∷ []
words_in (class_order the_classes) = the_classes
words_in (class_permission id) = id ∷ []
words_in (class_permission_set set the_class permissions) = set ∷ the_class ∷ leaves permissions
words_in (rule kind source target permissions) = source ∷ (target_words target ++ words_with permissions)

-- they stand where the words with a role each do
pub word-offsets : (form : Form) → map offset_of (words_in form) ≡ map role_offset (words_of form)
word-offsets (attribute_set attribute expr) = ap (λ ns. attribute.at.offset ∷ ns) (sym (referred_offsets (leaves expr)))
word-offsets (common id permissions) = ap (λ ns. id.at.offset ∷ ns) (sym (declared_offsets permissions))
word-offsets (class id permissions) = ap (λ ns. id.at.offset ∷ ns) (sym (declared_offsets permissions))
word-offsets (class_order the_classes) = sym (referred_offsets the_classes)
word-offsets (class_permission_set set the_class permissions) = ap (λ ns. set.at.offset ∷ ns) (offsets-with (anonymous the_class permissions))
word-offsets (rule kind source itself permissions) = ap (λ ns. source.at.offset ∷ ns) (offsets-with permissions)
word-offsets (rule kind source (the_named target) permissions) = ap (λ ns. source.at.offset ∷ target.at.offset ∷ ns) (offsets-with permissions)
word-offsets _ = refl

-- each of the words is among others
abbrev pub AreAmong : List Word → List Word → Type 0
AreAmong others words = AllByRecursion (Contains others) words

pub contains-filtered : {X : Type 0} (p : X → Bool) (xs : List X) (x : X) → Contains (filter p xs) x → Contains xs x
contains-filtered p [] x c = c
contains-filtered p (y ∷ ys) x c = by (p y) (contains-filtered p ys x) c
  where
    by : (b : Bool) → (Contains (filter p ys) x → Contains ys x) → Contains (cond b (y ∷ filter p ys) (filter p ys)) x → Contains (y ∷ ys) x
    by true next c = elim (contains-cases y (filter p ys) x c) [
      | inl same ↦ subst (Contains (y ∷ ys)) same (contains-first y ys)
      | inr other ↦ contains-other y ys x (next other)
    ]
    by false next c = contains-other y ys x (next c)

pub contains-left : {X : Type 0} (xs ys : List X) (x : X) → Contains xs x → Contains (xs ++ ys) x
contains-left [] ys x c = absurd (omega (arith, c.1))
contains-left (z ∷ xs) ys x c = elim (contains-cases z xs x c) [
  | inl same ↦ subst (Contains (z ∷ (xs ++ ys))) same (contains-first z (xs ++ ys))
  | inr other ↦ contains-other z (xs ++ ys) x (contains-left xs ys x other)
]

pub contains-right : {X : Type 0} (xs ys : List X) (x : X) → Contains ys x → Contains (xs ++ ys) x
contains-right [] ys x c = c
contains-right (z ∷ xs) ys x c = contains-other z (xs ++ ys) x (contains-right xs ys x c)

pub contains-append_cases : {X : Type 0} (xs ys : List X) (x : X) → Contains (xs ++ ys) x → Contains xs x ⊎ Contains ys x
contains-append_cases [] ys x c = inr c
contains-append_cases (z ∷ xs) ys x c = elim (contains-cases z (xs ++ ys) x c) [
  | inl same ↦ inl (subst (Contains (z ∷ xs)) same (contains-first z xs))
  | inr other ↦ elim (contains-append_cases xs ys x other) [ inl here ↦ inl (contains-other z xs x here) | inr there ↦ inr there ]
]

all-themselves : (words : List Word) → AreAmong words words
all-themselves [] = tt
all-themselves (w ∷ words) = (contains-first w words, all-weaker (Contains words) (Contains (w ∷ words)) (λ x c. contains-other w words x c) words (all-themselves words))

among-more : (w : Word) (others words : List Word) → AreAmong others words → AreAmong (w ∷ others) words
among-more w others words all = all-weaker (Contains others) (Contains (w ∷ others)) (λ x c. contains-other w others x c) words all

among-right : (front others words : List Word) → AreAmong others words → AreAmong (front ++ others) words
among-right front others words all = all-weaker (Contains others) (Contains (front ++ others)) (λ x c. contains-right front others x c) words all

among-left : (others behind words : List Word) → AreAmong others words → AreAmong (others ++ behind) words
among-left others behind words all = all-weaker (Contains others) (Contains (others ++ behind)) (λ x c. contains-left others behind x c) words all

-- words with something each
seconds : {X : Type 0} (x : X) (others words : List Word) → AreAmong others words → AreAmong others (map (λ (p : X × Word). p.1) (map (λ w. (x, w)) words))
seconds x others [] all = tt
seconds x others (w ∷ words) all = (all.0, seconds x others words all.1)

declared-words : (table : Table) (form : Form) → AreAmong (words_in form) (option_to_list (declared_in table form))
declared-words types (type_name id) = all-themselves (id ∷ [])
declared-words types (type_alias id) = all-themselves (id ∷ [])
declared-words types (type_attribute id) = all-themselves (id ∷ [])
declared-words classes (class id permissions) = (contains-first id permissions, tt)
declared-words commons (common id permissions) = (contains-first id permissions, tt)
declared-words permission_sets (class_permission id) = all-themselves (id ∷ [])
declared-words scopes (block id) = all-themselves (id ∷ [])
declared-words scopes (optional id) = all-themselves (id ∷ [])
declared-words _ _ = tt

target-among : (source : Word) (target : Target) (x : ClassPermissions) → AreAmong (source ∷ (target_words target ++ words_with x)) (target_words target)
target-among source target x = among-more source (target_words target ++ words_with x) (target_words target) (among-left (target_words target) (words_with x) (target_words target) (all-themselves (target_words target)))

-- behind a rule's source and target
permissions-among : (source : Word) (target : Target) (x : ClassPermissions) (words : List Word) → AreAmong (words_with x) words → AreAmong (source ∷ (target_words target ++ words_with x)) words
permissions-among source target x words among = among-more source (target_words target ++ words_with x) words (among-right (target_words target) (words_with x) words among)

reference-with : (x : ClassPermissions) → AreAmong (words_with x) ((permission_reference x).1 ∷ [])
reference-with (anonymous the_class permissions) = (contains-first the_class (leaves permissions), tt)
reference-with (by_name set) = (contains-first set [], tt)

permissions-in : (x : ClassPermissions) → AreAmong (words_with x) (map (λ p. p.1) (permissions_with x))
permissions-in (anonymous the_class permissions) =
    let names = leaves permissions in
    seconds the_class (the_class ∷ names) names (among-more the_class names names (all-themselves names))
permissions-in (by_name set) = tt

reference-words : (form : Form) → AreAmong (words_in form) (map (λ r. r.1) (references form))
reference-words (alias_actual alias actual) = all-themselves (alias ∷ actual ∷ [])
reference-words (attribute_set attribute expr) = (contains-first attribute (leaves expr), seconds types (attribute ∷ leaves expr) (leaves expr) (among-more attribute (leaves expr) (leaves expr) (all-themselves (leaves expr))))
reference-words (class_common the_class the_common) = all-themselves (the_class ∷ the_common ∷ [])
reference-words (class_order the_classes) = seconds classes the_classes the_classes (all-themselves the_classes)
reference-words (class_permission_set set the_class permissions) = (
  contains-first set (the_class ∷ leaves permissions),
  (contains-other set (the_class ∷ leaves permissions) the_class (contains-first the_class (leaves permissions)), tt),
)
reference-words (rule kind source itself permissions) = (contains-first source (words_with permissions), permissions-among source itself permissions ((permission_reference permissions).1 ∷ []) (reference-with permissions))
reference-words (rule kind source (the_named target) permissions) = (
  contains-first source (target ∷ words_with permissions),
  (
    contains-other source (target ∷ words_with permissions) target (contains-first target (words_with permissions)),
    permissions-among source (the_named target) permissions ((permission_reference permissions).1 ∷ []) (reference-with permissions),
  ),
)
reference-words _ = tt

permission-words : (form : Form) → AreAmong (words_in form) (map (λ p. p.1) (named_permissions form))
permission-words (class_permission_set set the_class permissions) =
    among-more set (the_class ∷ leaves permissions) (map (λ p. p.1) (permissions_with (anonymous the_class permissions))) (permissions-in (anonymous the_class permissions))
permission-words (rule kind source target permissions) = permissions-among source target permissions (map (λ p. p.1) (permissions_with permissions)) (permissions-in permissions)
permission-words _ = tt

kind-words : (form : Form) → AreAmong (words_in form) (map (λ r. r.1) (kinds_asked form))
kind-words (alias_actual alias actual) = all-themselves (alias ∷ actual ∷ [])
kind-words (attribute_set attribute expr) = (contains-first attribute (leaves expr), tt)
kind-words _ = tt

alias-word : (form : Form) → AreAmong (words_in form) (alias_words form)
alias-word (alias_actual alias actual) = (contains-first alias (actual ∷ []), tt)
alias-word _ = tt

element-word : (form : Form) → AreAmong (words_in form) (element_words form)
element-word (rule kind source target permissions) = (contains-first source (target_words target ++ words_with permissions), target-among source target permissions)
element-word (attribute_set attribute expr) = among-more attribute (leaves expr) (leaves expr) (all-themselves (leaves expr))
element-word _ = tt

common-word : (form : Form) → AreAmong (words_in form) (common_words form)
common-word (class_common the_class the_common) = (contains-first the_class (the_common ∷ []), tt)
common-word _ = tt

-- a word that is left of some is one of them
left-word : (form : Form) (p : Word → Bool) (words : List Word) (w : Word) → AreAmong (words_in form) words → Contains (filter p words) w → Contains (words_in form) w
left-word form p words w all c = all-contained (Contains (words_in form)) words w all (contains-filtered p words w c)

left-second : {X : Type 0} (form : Form) (p : X × Word → Bool) (xs : List (X × Word)) (w : Word) → AreAmong (words_in form) (map (λ x. x.1) xs) → Contains (map (λ x. x.1) (filter p xs)) w → Contains (words_in form) w
left-second form p xs w all c =
    let found = contains-mapped (λ x. x.1) (filter p xs) w c in
    subst (Contains (words_in form)) found.2 (among xs all (contains-filtered p xs found.0 found.1))
  where
    among : {X : Type 0} (ys : List (X × Word)) → AreAmong (words_in form) (map (λ y. y.1) ys) → {y : X × Word} → Contains ys y → Contains (words_in form) y.1
    among [] all {y} c = absurd (omega (arith, c.1))
    among (z ∷ ys) all {y} c = elim (contains-cases z ys y c) [ inl same ↦ subst (λ x. Contains (words_in form) x.1) same all.0 | inr other ↦ among ys all.1 other ]

twice-word : (before : List Placed) (s : Placed) (some : List Table) (w : Word) → Contains (flat_map (λ table. filter (λ id. list_any (is_again table s id) before) (option_to_list (declared_in table s.form))) some) w → Contains (words_in s.form) w
twice-word before s [] w c = absurd (omega (arith, c.1))
twice-word before s (table ∷ some) w c =
    let again : Word → Bool = λ id. list_any (is_again table s id) before in
    elim (contains-append_cases (filter again (option_to_list (declared_in table s.form))) (flat_map (λ table. filter (λ id. list_any (is_again table s id) before) (option_to_list (declared_in table s.form))) some) w c) [
      | inl here ↦ left-word s.form again (option_to_list (declared_in table s.form)) w (declared-words table s.form) here
      | inr there ↦ twice-word before s some w there
    ]

missing-word : (policy : List Placed) (s : Placed) (w : Word) → Contains (missing_words policy s) w → Contains (words_in s.form) w
missing-word policy s w c =
    let lost = map (λ r. r.1) (filter (is_unfound policy s.namespace) (references s.form)) in
    let lacked = map (λ p. p.1) (filter (is_lacking policy s.namespace) (named_permissions s.form)) in
    elim (contains-append_cases lost lacked w c) [
      | inl here ↦ left-second s.form (is_unfound policy s.namespace) (references s.form) w (reference-words s.form) here
      | inr there ↦ left-second s.form (is_lacking policy s.namespace) (named_permissions s.form) w (permission-words s.form) there
    ]

pub faulty-word : (kind : PolicyFaultKind) (policy before : List Placed) (s : Placed) (w : Word) → IsFaulty kind policy before s w → Contains (words_in s.form) w
faulty-word twice policy before s w c = twice-word before s tables w c
faulty-word missing policy before s w c = outside (is_outside s.optionals) c
  where
    outside : (b : Bool) → Contains (cond b (missing_words policy s) []) w → Contains (words_in s.form) w
    outside true c = missing-word policy s w c
    outside false c = absurd (omega (arith, c.1))
faulty-word wrong_kind policy before s w c = left-second s.form (is_of_another_kind policy s.namespace) (kinds_asked s.form) w (kind-words s.form) c
faulty-word alias_twice policy before s w c = left-word s.form (has_earlier_actual policy before s.namespace) (alias_words s.form) w (alias-word s.form) c
faulty-word alias_unset policy before s w c = left-word s.form (is_unset policy s.namespace) (element_words s.form) w (element-word s.form) c
faulty-word second_common policy before s w c = left-word s.form (has_earlier_common policy before s.namespace) (common_words s.form) w (common-word s.form) c
faulty-word too_many_permissions policy before s w c = left-word s.form (λ id. has_too_many policy s) (option_to_list (declared_in classes s.form)) w (declared-words classes s.form) c
faulty-word circular policy before s w is = subst (λ form. Contains (words_in form) w) (sym is.declares) (contains-first w [])
