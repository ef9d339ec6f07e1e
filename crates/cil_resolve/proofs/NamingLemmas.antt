-- The statements that say what names stand for, and lists that are filled at some places.
use Rattle.std.proofs.Common.{slice_get}
use Rattle.cil_resolve.proofs.Common.{◌≡◌, ◌⊎◌, inl, inr, ℕ, ◌+◌, ◌<◌, ◌≤◌, Bool, true, false, ◌||◌, List, [], ◌∷◌, ◌++◌, length, get_or, set, take, map, flat_map, filter, Some, is_some, refl, sym, ap, ◌∙◌, subst, true≢false, arith, if◌then◌else◌, append-nil, length-map, length_push, map-append, take_all, cases_order, get_or-set_same, get_or-set_other, same_Some, slice_get-get_or, slice_get_within, Form, Placed, types, declared_in, kind_of, lists_own, is_numbered, is_numbered_kind, full_name_of, number_in, element_at, is_set, IsElement, IsFirstOf, Element, AreNaming, is_naming, naming}
use Rattle.std.proofs.lemmas.List.Elements.{filter-append}
use Rattle.std.proofs.Math.Seq.{get_or-append_seam}
use Rattle.cil_specs.proofs.RestrictedLemmas.{flat_map-passed}
use Rattle.cil_parse.proofs.LexiconLemmas.{get-append}
use Rattle.cil_parse.specs.declared.row.StatementKind.{StatementKind}
use Rattle.cil_parse.specs.declared.row.StatementKind.TheVariants as kinds
use Rattle.cil_bind.proofs.PositionLemmas.{take-last}
use Rattle.cil_resolve.proofs.ElementLemmas.{IsTypeKind, is_a_type, is_an_alias, is_an_attribute, type-kind}
use Rattle.cil_resolve.proofs.FormLemmas.{is_set_statement}
use Rattle.cil_resolve.proofs.NumberLemmas.{name-there}

-- a statement of another kind brings no names, lists no permissions, and says nothing of a permission set
pub not-bringing : (kind : StatementKind) → is_naming kind ≡ false → (is_numbered_kind kind || lists_own kind) ≡ false
not-bringing kinds.TypeName e = absurd (true≢false e)
not-bringing kinds.TypeAttribute e = absurd (true≢false e)
not-bringing kinds.Common e = absurd (true≢false e)
not-bringing kinds.Class e = absurd (true≢false e)
not-bringing kinds.ClassPermission e = absurd (true≢false e)
not-bringing _ e = refl

pub not-listing : (kind : StatementKind) → is_naming kind ≡ false → lists_own kind ≡ false
not-listing kinds.Common e = absurd (true≢false e)
not-listing kinds.Class e = absurd (true≢false e)
not-listing _ e = refl

pub not-of-set : (kind : StatementKind) → is_naming kind ≡ false → is_set_statement kind ≡ false
not-of-set kinds.ClassPermissionSet e = absurd (true≢false e)
not-of-set _ e = refl

-- statements that declare what has a number, or a name of the table of types, are among them
pub numbered-naming : (kind : StatementKind) → is_numbered_kind kind ≡ true → is_naming kind ≡ true
numbered-naming kinds.TypeName e = refl
numbered-naming kinds.TypeAttribute e = refl
numbered-naming kinds.Class e = refl
numbered-naming kinds.ClassPermission e = refl
numbered-naming _ e = absurd (true≢false (sym e))

pub type-naming : (form : Form) → is_some (declared_in types form) ≡ true → is_naming (kind_of form) ≡ true
type-naming form declared = by (type-kind form declared)
  where
    by : IsTypeKind form → is_naming (kind_of form) ≡ true
    by (is_a_type id is) = ap (λ f. is_naming (kind_of f)) is
    by (is_an_alias id is) = ap (λ f. is_naming (kind_of f)) is
    by (is_an_attribute id is) = ap (λ f. is_naming (kind_of f)) is

-- as many places as statements
pub naming-length : (policy : List Placed) (places : List ℕ) → AreNaming policy places → length places ≡ length (naming policy)
naming-length policy places is = sym (length-map places (slice_get policy)) ∙ ap (λ l. length l) is.are ∙ length-map (naming policy) Some

-- the statement of a place
pub naming-there : (policy : List Placed) (places : List ℕ) (k : ℕ) → AreNaming policy places → k < length places
    → (s : Placed) × (slice_get (naming policy) k ≡ Some s) × (slice_get policy (get_or places k 0) ≡ Some s)
naming-there policy places k is within = name-there policy places (naming policy) k is.are within

-- the place is that of a statement
pub naming-within : (policy : List Placed) (places : List ℕ) (k : ℕ) → AreNaming policy places → k < length places → get_or places k 0 < length policy
naming-within policy places k is within = let (s, among, at) = naming-there policy places k is within in slice_get_within policy (get_or places k 0) s at

pub naming-all : (policy : List Placed) (places : List ℕ) (k : ℕ) → AreNaming policy places → length places ≤ k → take k (naming policy) ≡ naming policy
naming-all policy places k is past = let long = naming-length policy places is in take_all k (naming policy) (omega (arith, long, past))

-- What is made of the statements of a policy is made of these, if the others give nothing.
pub flat-naming : {Y : Type 0} (f : Placed → List Y) (policy : List Placed) → ((s : Placed) → is_naming (kind_of s.form) ≡ false → f s ≡ []) → flat_map f (naming policy) ≡ flat_map f policy
flat-naming f policy none = flat_map-passed (λ s. is_naming (kind_of s.form)) f policy (λ s there e. none s e)

-- those among the first statements
pub record AreNamingBelow (policy : List Placed) (n : ℕ) (places : List ℕ) : Type 0 where
  pub are : map (slice_get policy) places ≡ map Some (naming (take n policy))
  pub each : (i : ℕ) (s : Placed) → i < n → slice_get policy i ≡ Some s → is_naming (kind_of s.form) ≡ true → (j : ℕ) × (slice_get places j ≡ Some i)

-- with one statement more
pub naming-next : (policy : List Placed) (n : ℕ) (s : Placed) (places next : List ℕ) → slice_get policy n ≡ Some s → next ≡ places ++ (if is_naming (kind_of s.form) then n ∷ [] else [])
    → AreNamingBelow policy n places → AreNamingBelow policy (n + 1) next
naming-next policy n s places next at pushed so_far = by (is_naming (kind_of s.form)) refl
  where
    before : List Placed
    before = naming (take n policy)

    taken : naming (take (n + 1) policy) ≡ before ++ (if is_naming (kind_of s.form) then s ∷ [] else [])
    taken = ap naming (take-last policy n s at) ∙ filter-append (λ t. is_naming (kind_of t.form)) (take n policy) (s ∷ [])

    by : (b : Bool) → is_naming (kind_of s.form) ≡ b → AreNamingBelow policy (n + 1) next
    by true e = subst (AreNamingBelow policy (n + 1)) (sym (pushed ∙ ap (λ b. places ++ (if b then n ∷ [] else [])) e)) (record {
      are =
          map-append (slice_get policy) places (n ∷ []) ∙ ap (λ l. l ++ slice_get policy n ∷ []) so_far.are ∙ ap (λ o. map Some before ++ o ∷ []) at
          ∙ sym (map-append Some before (s ∷ [])) ∙ ap (map Some) (sym (taken ∙ ap (λ b. before ++ (if b then s ∷ [] else [])) e));
      each = λ i t low there is. elim (cases_order i n) [
        | inl same ↦ (length places, slice_get-get_or (places ++ n ∷ []) (length places) 0 (let long = length_push places n in omega (arith, long)) ∙ ap Some (get_or-append_seam places n [] 0 ∙ sym same))
        | inr (inl less) ↦ (let found = so_far.each i t less there is in (found.0, get-append places (n ∷ []) found.0 i found.1))
        | inr (inr more) ↦ absurd (omega (arith, more, low))
      ];
    })
    by false e = subst (AreNamingBelow policy (n + 1)) (sym (pushed ∙ ap (λ b. places ++ (if b then n ∷ [] else [])) e ∙ append-nil places)) (record {
      are = so_far.are ∙ ap (map Some) (sym (taken ∙ ap (λ b. before ++ (if b then s ∷ [] else [])) e ∙ append-nil before));
      each = λ i t low there is. elim (cases_order i n) [
        | inl same ↦ absurd (true≢false (sym is ∙ ap (λ u. is_naming (kind_of u.form)) (same_Some t s (sym there ∙ ap (slice_get policy) same ∙ at)) ∙ e))
        | inr (inl less) ↦ so_far.each i t less there is
        | inr (inr more) ↦ absurd (omega (arith, more, low))
      ];
    })

-- At each of the first places stands what fits there.
abbrev pub HaveAt : {X : Type 0} → (ℕ → X → Type 0) → X → List ℕ → ℕ → List X → Type 0
HaveAt fits d places n made = (j i : ℕ) → j < n → slice_get places j ≡ Some i → fits i (get_or made i d)

-- the same with the next
pub fill-next : {X : Type 0} (fits : ℕ → X → Type 0) (d : X) (places : List ℕ) (n : ℕ) (v : X) (old : List X) → n < length places → get_or places n 0 < length old → fits (get_or places n 0) v
    → HaveAt fits d places n old → HaveAt fits d places (n + 1) (set old (get_or places n 0) v)
fill-next {X = X} fits d places n v old here within fit so_far j k low there = by (cases_order k (get_or places n 0))
  where
    i : ℕ
    i = get_or places n 0

    earlier : (k ≡ i → ⊥) → j < n
    earlier apart = elim (cases_order j n) [
      | inl same ↦ absurd (apart (same_Some k i (sym there ∙ ap (slice_get places) same ∙ slice_get-get_or places n 0 here)))
      | inr (inl less) ↦ less
      | inr (inr more) ↦ absurd (omega (arith, more, low))
    ]

    other : (k ≡ i → ⊥) → fits k (get_or (set old i v) k d)
    other apart = subst (fits k) (sym (get_or-set_other old i k v d apart)) (so_far j k (earlier apart) there)

    by : (k ≡ i) ⊎ ((k < i) ⊎ (i < k)) → fits k (get_or (set old i v) k d)
    by (inl e) = subst (λ m. fits m (get_or (set old i v) m d)) (sym e) (subst (fits i) (sym (get_or-set_same old i v d within)) fit)
    by (inr (inl less)) = other (λ e. omega (arith, less, e))
    by (inr (inr more)) = other (λ e. omega (arith, more, e))

-- what fits at the places of types, attributes, classes and permission sets, and of what names of rules lead to
abbrev pub FitsPlace : List (List ℕ) → List Placed → ℕ → ℕ → Type 0
FitsPlace names policy i n = (s : Placed) → slice_get policy i ≡ Some s → is_numbered s.form ≡ true → number_in names (full_name_of s) ≡ Some n

abbrev pub FitsElement : List (List ℕ) → List Placed → ℕ → Element → Type 0
FitsElement names policy i e = (s : Placed) → slice_get policy i ≡ Some s → IsFirstOf types policy i → is_set policy s ≡ true → IsElement names e (element_at policy s s.form)

-- all statements are taken
pub naming-whole : (policy : List Placed) (n : ℕ) (places : List ℕ) → length policy ≤ n → AreNamingBelow policy n places → AreNaming policy places
naming-whole policy n places past is = record {
  are = is.are ∙ ap (λ l. map Some (naming l)) (take_all n policy past);
  each = λ i s at naming_it. is.each i s (let low = slice_get_within policy i s at in omega (arith, low, past)) at naming_it;
}

-- the place of each statement among them is filled
pub filled-at : {X : Type 0} (fits : ℕ → X → Type 0) (d : X) (policy : List Placed) (places : List ℕ) (n : ℕ) (made : List X) (i : ℕ) (s : Placed) → AreNaming policy places → length places ≤ n
    → HaveAt fits d places n made → slice_get policy i ≡ Some s → is_naming (kind_of s.form) ≡ true → fits i (get_or made i d)
filled-at fits d policy places n made i s is past have at naming_it =
    let found = is.each i s at naming_it in
    let low = slice_get_within places found.0 i found.1 in
    have found.0 i (omega (arith, low, past)) found.1
