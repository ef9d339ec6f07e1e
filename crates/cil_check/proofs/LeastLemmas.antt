-- The first faulty word that is found is the least fault of its kind.
use Rattle.cil_check.proofs.Common.{◌≡◌, ◌⊎◌, inl, inr, ℕ, ◌+◌, ◌<◌, ◌≤◌, suc, Bool, true, false, nat_le, cond, if◌then◌else◌, List, [], ◌∷◌, ◌++◌, length, take, drop, map, filter, Some, refl, sym, ap, ◌∙◌, subst, Contains, arith, append-nil, AllByRecursion, slice_get, list_any, option_to_list, map-append, length-append, length-take-le, same_Some, slice_get_within, leb-true, cases_lt, Word, Form, block, optional, type_name, type_alias, alias_actual, type_attribute, attribute_set, common, class, class_common, class_order, class_permission, class_permission_set, rule, anonymous, by_name, itself, the_named, rise_from, as_declared, as_referred, leaves, Placed, Table, types, classes, commons, permission_sets, scopes, references, named_permissions, declared_in, declared_name, PolicyFaultKind, twice, missing, wrong_kind, alias_twice, alias_unset, second_common, too_many_permissions, circular, PolicyFault, is_again, missing_words, is_unfound, is_lacking, kinds_asked, is_of_another_kind, wrong_kind_words, alias_words, has_earlier_actual, element_words, is_unset, common_words, has_earlier_common, has_too_many, tables, is_outside, IsFaultOf, IsNoLater, both_true, first_true, second_true, sets_of, faulty_words, faulty-listed, attribute_words, depends_on, all-contained, contains-cases, contains-first, contains-other, contains-map, rises-low, rises-less, stands, same_place, later, earlier, offsets_in, offsets_of, IsBefore, AreOrdered, IsLeast, fault_at, around-at}
use Rattle.std.proofs.Common.{flat_map}
use Rattle.std.proofs.Math.Seq.{take-append_seam}
use Rattle.cil_specs.proofs.PartLemmas.{all-middle}
use Rattle.cil_bind.proofs.OrderedLemmas.{IsAmidst, ordered-amidst}

-- the one list has some of the other's elements, in the same order
abbrev pub IsSub : List ℕ → List ℕ → Type 0
IsSub [] ns = Unit {0}
IsSub (m ∷ ms) [] = ⊥
IsSub (m ∷ ms) (n ∷ ns) = ((m ≡ n) × IsSub ms ns) ⊎ IsSub (m ∷ ms) ns

pub sub-skip : (ms : List ℕ) (n : ℕ) (ns : List ℕ) → IsSub ms ns → IsSub ms (n ∷ ns)
sub-skip [] n ns sub = tt
sub-skip (m ∷ ms) n ns sub = inr sub

pub sub-trans : (ks ms ns : List ℕ) → IsSub ks ms → IsSub ms ns → IsSub ks ns
sub-trans [] ms ns a b = tt
sub-trans (k ∷ ks) [] ns a b = absurd a
sub-trans (k ∷ ks) (m ∷ ms) [] a b = absurd b
sub-trans (k ∷ ks) (m ∷ ms) (n ∷ ns) a (inr b) = inr (sub-trans (k ∷ ks) (m ∷ ms) ns a b)
sub-trans (k ∷ ks) (m ∷ ms) (n ∷ ns) (inl a) (inl b) = inl (a.0 ∙ b.0, sub-trans ks ms ns a.1 b.1)
sub-trans (k ∷ ks) (m ∷ ms) (n ∷ ns) (inr a) (inl b) = inr (sub-trans (k ∷ ks) ms ns a b.1)

sub-append : (ks ms ls ns : List ℕ) → IsSub ks ms → IsSub ls ns → IsSub (ks ++ ls) (ms ++ ns)
sub-append [] [] ls ns a b = b
sub-append [] (m ∷ ms) ls ns a b = sub-skip ls m (ms ++ ns) (sub-append [] ms ls ns tt b)
sub-append (k ∷ ks) [] ls ns a b = absurd a
sub-append (k ∷ ks) (m ∷ ms) ls ns (inl a) b = inl (a.0, sub-append ks ms ls ns a.1 b)
sub-append (k ∷ ks) (m ∷ ms) ls ns (inr a) b = inr (sub-append (k ∷ ks) ms ls ns a b)

-- what a list with some of the elements takes from the other
pub sub-rises : (low : ℕ) (ms ns : List ℕ) → IsSub ms ns → rise_from low ns ≡ true → rise_from low ms ≡ true
sub-rises low [] ns sub rise = refl
sub-rises low (m ∷ ms) [] sub rise = absurd sub
sub-rises low (m ∷ ms) (n ∷ ns) (inl (is, sub)) rise =
    both_true (nat_le low m) (rise_from (m + 1) ms) (ap (nat_le low) is ∙ first_true (nat_le low n) (rise_from (n + 1) ns) rise)
    (ap (λ k. rise_from (k + 1) ms) is ∙ sub-rises (n + 1) ms ns sub (second_true (nat_le low n) (rise_from (n + 1) ns) rise))
sub-rises low (m ∷ ms) (n ∷ ns) (inr sub) rise =
    let le : low ≤ n = leb-true low n (first_true (nat_le low n) (rise_from (n + 1) ns) rise) in
    rises-less (n + 1) low (m ∷ ms) (omega arith) (sub-rises (n + 1) (m ∷ ms) ns sub (second_true (nat_le low n) (rise_from (n + 1) ns) rise))

pub sub-contains : (ms ns : List ℕ) (k : ℕ) → IsSub ms ns → Contains ms k → Contains ns k
sub-contains [] ns k sub c = absurd (omega (arith, c.1))
sub-contains (m ∷ ms) [] k sub c = absurd sub
sub-contains (m ∷ ms) (n ∷ ns) k (inl (is, sub)) c = elim (contains-cases m ms k c) [
  | inl same ↦ subst (Contains (n ∷ ns)) (sym is ∙ same) (contains-first n ns)
  | inr others ↦ contains-other n ns k (sub-contains ms ns k sub others)
]
sub-contains (m ∷ ms) (n ∷ ns) k (inr sub) c = contains-other n ns k (sub-contains (m ∷ ms) ns k sub c)

pub sub-filter : {X : Type 0} (f : X → ℕ) (p : X → Bool) (xs : List X) → IsSub (map f (filter p xs)) (map f xs)
sub-filter f p [] = tt
sub-filter f p (x ∷ xs) = by (sub-filter f p xs) (p x)
  where
    by : IsSub (map f (filter p xs)) (map f xs) → (b : Bool) → IsSub (map f (cond b (x ∷ filter p xs) (filter p xs))) (f x ∷ map f xs)
    by more true = inl (refl, more)
    by more false = sub-skip (map f (filter p xs)) (f x) (map f xs) more

-- the offsets of words in the order of the text
abbrev pub offset : Word → ℕ
offset w = w.at.offset

-- words, as a list of words of a statement has them
sub-declared : (words : List Word) → IsSub (map offset words) (map (λ (role, word). word.at.offset) (map as_declared words))
sub-declared [] = tt
sub-declared (w ∷ words) = inl (refl, sub-declared words)

sub-referred : (words : List Word) → IsSub (map offset words) (map (λ (role, word). word.at.offset) (map as_referred words))
sub-referred [] = tt
sub-referred (w ∷ words) = inl (refl, sub-referred words)

-- words with something each, without it
sub-second : {X : Type 0} (x : X) (words : List Word) → IsSub (map offset (map (λ (p : X × Word). p.1) (map (λ w. (x, w)) words))) (map offset words)
sub-second x [] = tt
sub-second x (w ∷ words) = inl (refl, sub-second x words)

sub-filter-second : {X : Type 0} (p : X × Word → Bool) (xs : List (X × Word)) → IsSub (map offset (map (λ x. x.1) (filter p xs))) (map offset (map (λ x. x.1) xs))
sub-filter-second p [] = tt
sub-filter-second p (x ∷ xs) = by (sub-filter-second p xs) (p x)
  where
    by : IsSub (map offset (map (λ y. y.1) (filter p xs))) (map offset (map (λ y. y.1) xs)) → (b : Bool)
        → IsSub (map offset (map (λ y. y.1) (cond b (x ∷ filter p xs) (filter p xs)))) (x.1.at.offset ∷ map offset (map (λ y. y.1) xs))
    by more true = inl (refl, more)
    by more false = sub-skip (map offset (map (λ y. y.1) (filter p xs))) x.1.at.offset (map offset (map (λ y. y.1) xs)) more

-- a list with nothing behind it
sub-end : (ms ns : List ℕ) → IsSub ms ns → IsSub (ms ++ []) ns
sub-end ms ns sub = subst (λ l. IsSub l ns) (sym (append-nil ms)) sub

sub-permissions : (the_class : Word) (permissions : List Word) → IsSub (map offset (map (λ (p : Word × Word). p.1) (map (λ w. (the_class, w)) permissions))) (map (λ (role, word). word.at.offset) (map as_declared permissions))
sub-permissions the_class permissions =
    sub-trans (map offset (map (λ (p : Word × Word). p.1) (map (λ w. (the_class, w)) permissions))) (map offset permissions) (map (λ (role, word). word.at.offset) (map as_declared permissions))
    (sub-second the_class permissions) (sub-declared permissions)

-- the words asked of a form are words of it, in the order of the text
sub-references : (form : Form) → IsSub (map offset (map (λ r. r.1) (references form)) ++ map offset (map (λ p. p.1) (named_permissions form))) (offsets_in form)
sub-references (alias_actual alias actual) = inl (refl, inl (refl, tt))
sub-references (attribute_set attribute expr) =
    inl (
      refl,
      sub-end (map offset (map (λ (r : Table × Word). r.1) (map (λ w. (types, w)) (leaves expr)))) (map (λ (role, word). word.at.offset) (map as_referred (leaves expr)))
          (sub-trans (map offset (map (λ (r : Table × Word). r.1) (map (λ w. (types, w)) (leaves expr)))) (map offset (leaves expr)) (map (λ (role, word). word.at.offset) (map as_referred (leaves expr)))
          (sub-second types (leaves expr)) (sub-referred (leaves expr))),
    )
sub-references (class_common the_class the_common) = inl (refl, inl (refl, tt))
sub-references (class_order the_classes) =
    sub-end (map offset (map (λ (r : Table × Word). r.1) (map (λ w. (classes, w)) the_classes))) (map (λ (role, word). word.at.offset) (map as_referred the_classes))
    (sub-trans (map offset (map (λ (r : Table × Word). r.1) (map (λ w. (classes, w)) the_classes))) (map offset the_classes) (map (λ (role, word). word.at.offset) (map as_referred the_classes))
    (sub-second classes the_classes) (sub-referred the_classes))
sub-references (class_permission_set set the_class permissions) =
    inl (refl, inl (refl, sub-permissions the_class (leaves permissions)))
sub-references (rule kind source itself (anonymous the_class permissions)) =
    inl (refl, inl (refl, sub-permissions the_class (leaves permissions)))
sub-references (rule kind source itself (by_name set)) = inl (refl, inl (refl, tt))
sub-references (rule kind source (the_named target) (anonymous the_class permissions)) =
    inl (refl, inl (refl, inl (refl, sub-permissions the_class (leaves permissions))))
sub-references (rule kind source (the_named target) (by_name set)) = inl (refl, inl (refl, inl (refl, tt)))
sub-references _ = tt

sub-missing : (policy : List Placed) (s : Placed) → IsSub (map offset (missing_words policy s)) (offsets_in s.form)
sub-missing policy s =
    let lost = filter (is_unfound policy s.namespace) (references s.form) in
    let lacked = filter (is_lacking policy s.namespace) (named_permissions s.form) in
    subst (λ l. IsSub l (offsets_in s.form)) (sym (map-append offset (map (λ r. r.1) lost) (map (λ p. p.1) lacked)))
    (sub-trans (map offset (map (λ r. r.1) lost) ++ map offset (map (λ p. p.1) lacked))
    (map offset (map (λ r. r.1) (references s.form)) ++ map offset (map (λ p. p.1) (named_permissions s.form))) (offsets_in s.form)
    (sub-append (map offset (map (λ r. r.1) lost)) (map offset (map (λ r. r.1) (references s.form))) (map offset (map (λ p. p.1) lacked)) (map offset (map (λ p. p.1) (named_permissions s.form)))
    (sub-filter-second (is_unfound policy s.namespace) (references s.form))
    (sub-filter-second (is_lacking policy s.namespace) (named_permissions s.form)))
    (sub-references s.form))

sub-kinds : (form : Form) → IsSub (map offset (map (λ r. r.1) (kinds_asked form))) (offsets_in form)
sub-kinds (alias_actual alias actual) = inl (refl, inl (refl, tt))
sub-kinds (attribute_set attribute expr) = inl (refl, tt)
sub-kinds _ = tt

sub-aliases : (form : Form) → IsSub (map offset (alias_words form)) (offsets_in form)
sub-aliases (alias_actual alias actual) = inl (refl, tt)
sub-aliases _ = tt

sub-elements : (form : Form) → IsSub (map offset (element_words form)) (offsets_in form)
sub-elements (attribute_set attribute expr) =
    sub-skip (map offset (leaves expr)) attribute.at.offset (map (λ (role, word). word.at.offset) (map as_referred (leaves expr))) (sub-referred (leaves expr))
sub-elements (rule kind source itself permissions) = inl (refl, tt)
sub-elements (rule kind source (the_named target) permissions) = inl (refl, inl (refl, tt))
sub-elements _ = tt

sub-commons : (form : Form) → IsSub (map offset (common_words form)) (offsets_in form)
sub-commons (class_common the_class the_common) = inl (refl, tt)
sub-commons _ = tt

sub-classes : (form : Form) → IsSub (map offset (option_to_list (declared_in classes form))) (offsets_in form)
sub-classes (class id permissions) = inl (refl, tt)
sub-classes _ = tt

sub-attributes : (form : Form) → IsSub (map offset (attribute_words form)) (offsets_in form)
sub-attributes (type_attribute id) = inl (refl, tt)
sub-attributes _ = tt

-- the words that a form declares, by a test for each table
abbrev chosen : (Table → Word → Bool) → Form → List Word
chosen again form = flat_map (λ table. filter (again table) (option_to_list (declared_in table form))) tables

sub-one : (b : Bool) (id : Word) (ns : List ℕ) → IsSub (map offset (cond b (id ∷ []) [])) (id.at.offset ∷ ns)
sub-one true id ns = inl (refl, tt)
sub-one false id ns = tt

sub-chosen : (again : Table → Word → Bool) (form : Form) → IsSub (map offset (chosen again form)) (offsets_in form)
sub-chosen again (block id) = subst (λ l. IsSub (map offset l) (id.at.offset ∷ [])) (sym (append-nil _)) (sub-one (again scopes id) id [])
sub-chosen again (optional id) = subst (λ l. IsSub (map offset l) (id.at.offset ∷ [])) (sym (append-nil _)) (sub-one (again scopes id) id [])
sub-chosen again (type_name id) = subst (λ l. IsSub (map offset l) (id.at.offset ∷ [])) (sym (append-nil _)) (sub-one (again types id) id [])
sub-chosen again (type_alias id) = subst (λ l. IsSub (map offset l) (id.at.offset ∷ [])) (sym (append-nil _)) (sub-one (again types id) id [])
sub-chosen again (alias_actual alias actual) = tt
sub-chosen again (type_attribute id) = subst (λ l. IsSub (map offset l) (id.at.offset ∷ [])) (sym (append-nil _)) (sub-one (again types id) id [])
sub-chosen again (attribute_set attribute expr) = tt
sub-chosen again (common id permissions) =
    subst (λ l. IsSub (map offset l) (offsets_in (common id permissions))) (sym (append-nil _)) (sub-one (again commons id) id (map (λ (role, word). word.at.offset) (map as_declared permissions)))
sub-chosen again (class id permissions) =
    subst (λ l. IsSub (map offset l) (offsets_in (class id permissions))) (sym (append-nil _)) (sub-one (again classes id) id (map (λ (role, word). word.at.offset) (map as_declared permissions)))
sub-chosen again (class_common the_class the_common) = tt
sub-chosen again (class_order the_classes) = tt
sub-chosen again (class_permission id) = subst (λ l. IsSub (map offset l) (id.at.offset ∷ [])) (sym (append-nil _)) (sub-one (again permission_sets id) id [])
sub-chosen again (class_permission_set set the_class permissions) = tt
sub-chosen again (rule kind source target permissions) = tt

-- some of words that are a form's
sub-some : (form : Form) (p : Word → Bool) (words : List Word) → IsSub (map offset words) (offsets_in form) → IsSub (map offset (filter p words)) (offsets_in form)
sub-some form p words sub = sub-trans (map offset (filter p words)) (map offset words) (offsets_in form) (sub-filter offset p words) sub

sub-if : (b : Bool) (words : List Word) (ns : List ℕ) → IsSub (map offset words) ns → IsSub (map offset (if b then words else [])) ns
sub-if true words ns sub = sub
sub-if false words ns sub = tt

-- the faulty words of a statement are words of it, in the order of the text
sub-faulty_words : (kind : PolicyFaultKind) (policy before : List Placed) (s : Placed) → IsSub (map offset (faulty_words kind policy before s)) (offsets_in s.form)
sub-faulty_words twice policy before s = sub-chosen (λ table id. list_any (is_again table s id) before) s.form
sub-faulty_words missing policy before s = sub-if (is_outside s.optionals) (missing_words policy s) (offsets_in s.form) (sub-missing policy s)
sub-faulty_words wrong_kind policy before s =
    sub-trans (map offset (wrong_kind_words policy s)) (map offset (map (λ r. r.1) (kinds_asked s.form))) (offsets_in s.form) (sub-filter-second (is_of_another_kind policy s.namespace) (kinds_asked s.form)) (sub-kinds s.form)
sub-faulty_words alias_twice policy before s =
    sub-some s.form (has_earlier_actual policy before s.namespace) (alias_words s.form) (sub-aliases s.form)
sub-faulty_words alias_unset policy before s =
    sub-some s.form (is_unset policy s.namespace) (element_words s.form) (sub-elements s.form)
sub-faulty_words second_common policy before s =
    sub-some s.form (has_earlier_common policy before s.namespace) (common_words s.form) (sub-commons s.form)
sub-faulty_words too_many_permissions policy before s =
    sub-some s.form (λ id. has_too_many policy s) (option_to_list (declared_in classes s.form)) (sub-classes s.form)
sub-faulty_words circular policy before s =
    sub-some s.form (λ id. depends_on (sets_of policy) (declared_name types s) (declared_name types s)) (attribute_words s.form) (sub-attributes s.form)

pub sub-faulty : (kind : PolicyFaultKind) (policy before : List Placed) (s : Placed) → IsSub (map offset (faulty_words kind policy before s)) (offsets_of s)
sub-faulty kind policy before s = sub-skip (map offset (faulty_words kind policy before s)) s.at.offset (offsets_in s.form) (sub-faulty_words kind policy before s)

-- each statement in front of a place has no faulty word of the kind
abbrev pub NoneFaultyBelow : PolicyFaultKind → List Placed → ℕ → Type 0
NoneFaultyBelow kind policy n = (j : ℕ) → j < n → (s : Placed) → slice_get policy j ≡ Some s → faulty_words kind policy (take j policy) s ≡ []

pub none-faulty-first : (kind : PolicyFaultKind) (policy : List Placed) → NoneFaultyBelow kind policy 0
none-faulty-first kind policy j less s at = absurd (omega (arith, less))

pub none-faulty-next : (kind : PolicyFaultKind) (policy : List Placed) (n : ℕ) (s : Placed) → slice_get policy n ≡ Some s → faulty_words kind policy (take n policy) s ≡ []
    → NoneFaultyBelow kind policy n → NoneFaultyBelow kind policy (n + 1)
none-faulty-next kind policy n s at none below j less t there = elim (cases_lt j n) [
  | inl lesser ↦ below j lesser t there
  | inr no_less ↦
      let same : j ≡ n = (omega (arith, less, no_less)) in
      let is : t ≡ s = same_Some t s (sym there ∙ ap (slice_get policy) same ∙ at) in
      ap (λ k. faulty_words kind policy (take k policy) t) same ∙ ap (faulty_words kind policy (take n policy)) is ∙ none
]

at-middle : {X : Type 0} (xs : List X) (x : X) (ys : List X) → slice_get (xs ++ x ∷ ys) (length xs) ≡ Some x
at-middle [] x ys = refl
at-middle (z ∷ xs) x ys = at-middle xs x ys

-- no faulty word stands in front of a statement and what is before it
none-before : (kind : PolicyFaultKind) (policy : List Placed) (n : ℕ) (before : List Placed) (s : Placed) (after : List Placed) → NoneFaultyBelow kind policy n
    → policy ≡ before ++ s ∷ after → length before < n → faulty_words kind policy before s ≡ []
none-before kind policy n before s after none split less =
    ap (λ l. faulty_words kind policy l s) (sym (take-append_seam before (s ∷ after)) ∙ ap (take (length before)) (sym split))
    ∙ none (length before) less s (ap (λ l. slice_get l (length before)) split ∙ at-middle before s after)

-- where no statement has a faulty word there is no fault of the kind
pub none-faulty-end : (kind : PolicyFaultKind) (policy : List Placed) → NoneFaultyBelow kind policy (length policy) → (fault : PolicyFault) → IsFaultOf kind policy fault → ⊥
none-faulty-end kind policy none fault is =
    let size : length policy ≡ length is.before + suc (length is.after) = ap length is.split ∙ length-append is.before (is.s ∷ is.after) in
    let less : length is.before < length policy = (omega (arith, size)) in
    contains-none is.word (subst (λ l. Contains l is.word) (none-before kind policy (length policy) is.before is.s is.after none is.split less) ((faulty-listed kind policy is.before is.s is.word).1 is.is_faulty))
  where
    contains-none : (w : Word) → Contains [] w → ⊥
    contains-none w c = omega (arith, c.1)

pub no-later : (kind : PolicyFaultKind) (s t : Placed) (v w : Word) → IsBefore s t → Contains (offsets_of s) v.at.offset → Contains (offsets_of t) w.at.offset → IsNoLater (fault_at kind s v) (fault_at kind t w)
no-later kind s t v w (inl less) c d = inr (refl, inl less)
no-later kind s t v w (inr (same, rise)) c d = inr (refl, inr (same, (let less : v.at.offset < w.at.offset = rise v.at.offset w.at.offset c d in omega arith)))

-- an offset is that of the first of words that rise, or a greater one
pub no-less : (low : ℕ) (n : ℕ) (ns : List ℕ) (m : ℕ) → rise_from low (n ∷ ns) ≡ true → Contains (n ∷ ns) m → n ≤ m
no-less low n ns m rise c = elim (contains-cases n ns m c) [
  | inl same ↦ omega arith
  | inr others ↦
      let le : n + 1 ≤ m = all-contained (λ k. n + 1 ≤ k) ns m (rises-low (n + 1) ns (second_true (nat_le low n) (rise_from (n + 1) ns) rise)) others in
      omega arith
]

-- The first faulty word of the first statement with one is the least fault of its kind.
pub least-at : (kind : PolicyFaultKind) (policy : List Placed) (i : ℕ) (s : Placed) (word : Word) (more : List Word) → AreOrdered policy → slice_get policy i ≡ Some s
    → NoneFaultyBelow kind policy i → faulty_words kind policy (take i policy) s ≡ word ∷ more → IsLeast (IsFaultOf kind policy) (fault_at kind s word)
least-at kind policy i s word more flat at none faulty = record {
  is = record {
    before = take i policy;
    s = s;
    after = drop (i + 1) policy;
    word = word;
    split = split;
    is_faulty = (faulty-listed kind policy (take i policy) s word).0 (subst (λ l. Contains l word) (sym faulty) (contains-first word more));
    is_at = refl;
  };
  first = λ other is. subst (IsNoLater (fault_at kind s word)) (sym is.is_at) (no-earlier other is);
}
  where
    split : policy ≡ take i policy ++ s ∷ drop (i + 1) policy
    split = around-at policy i s at

    amidst : IsAmidst (take i policy) s (drop (i + 1) policy)
    amidst = ordered-amidst (take i policy) s (drop (i + 1) policy) (subst AreOrdered split flat)

    sub : IsSub (word.at.offset ∷ map offset more) (offsets_of s)
    sub = subst (λ l. IsSub (map offset l) (offsets_of s)) faulty (sub-faulty kind policy (take i policy) s)

    rises : rise_from 0 (word.at.offset ∷ map offset more) ≡ true
    rises = sub-rises 0 (word.at.offset ∷ map offset more) (offsets_of s) sub amidst.rising.rising

    here : Contains (offsets_of s) word.at.offset
    here = sub-contains (word.at.offset ∷ map offset more) (offsets_of s) word.at.offset sub (contains-first word.at.offset (map offset more))

    no-earlier : (other : PolicyFault) (is : IsFaultOf kind policy other) → IsNoLater (fault_at kind s word) (fault_at kind is.s is.word)
    no-earlier other is = elim (stands (take i policy) s (drop (i + 1) policy) is.before is.s is.after (sym split ∙ is.split)) [
      | same_place same t ↦
          let contained : Contains (word ∷ more) is.word = subst (λ l. Contains l is.word) (ap (λ b. faulty_words kind policy b is.s) same ∙ ap (faulty_words kind policy (take i policy)) t ∙ faulty) ((faulty-listed kind policy is.before is.s is.word).1 is.is_faulty) in
          inr (refl, inr (ap (λ p. p.module_name) (sym t), no-less 0 word.at.offset (map offset more) is.word.at.offset rises (contains-map offset (word ∷ more) is.word contained)))
      | later between others front behind ↦
          no-later kind s is.s word is.word (all-middle (IsBefore s) between is.s others (subst (AllByRecursion (IsBefore s)) behind amidst.in_front)) here
          (sub-contains (map offset (faulty_words kind policy is.before is.s)) (offsets_of is.s) is.word.at.offset (sub-faulty kind policy is.before is.s)
          (contains-map offset (faulty_words kind policy is.before is.s) is.word ((faulty-listed kind policy is.before is.s is.word).1 is.is_faulty)))
      | earlier between front ↦
          let size : length (take i policy) ≡ length is.before + suc (length between) = ap length front ∙ length-append is.before (is.s ∷ between) in
          let within : i < length policy = slice_get_within policy i s at in
          let le : length (take i policy) ≡ i = length-take-le i policy (omega (arith, within)) in
          let c : Contains [] is.word = subst (λ l. Contains l is.word) (none-before kind policy i is.before is.s is.after none is.split (omega (arith, size, le))) ((faulty-listed kind policy is.before is.s is.word).1 is.is_faulty) in
          absurd (omega (arith, c.1))
    ]
