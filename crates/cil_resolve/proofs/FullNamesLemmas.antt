-- The names of namespaces, and the full names of what statements declare.
use Rattle.cil_resolve.proofs.Common.{◌≡◌, ◌≢◌, ℕ, ◌<◌, ◌≤◌, zero, suc, true, false, List, [], ◌∷◌, ◌++◌, length, get_or, take, map, Option, Some, None, is_some, option_map, refl, sym, ap, ◌∙◌, subst, true≢false, arith, length-take-le, AllByRecursion, length-map, take_all, get_or-map, get_or-take, none-some, slice_get-get_or, get_or_from_slice_get, append_assoc, Word, Placed, Form, type_name, type_attribute, class, class_permission, rule, anonymous, itself, the_named, full_name, kind_of, words_in, word_at, namespace_at, distinct-place, all-get, Row, Reads, space_text, name_in, numbered_id, is_numbered, is_numbered_kind}
use Rattle.std.proofs.Common.{slice_get}
use Rattle.cil_bind.specs.Lookup.{named}
use Rattle.cil_bind.specs.Rows.{IsRow, AreNumbered}
use Rattle.cil_lookup.specs.declared.namespaces.Block.{Block}
use Rattle.std.specs.Borrow.{Bor}
use Rattle.cil_check.specs.declared.bound.Seen.{Seen}

-- the name of a namespace, by the numbers of its blocks' words
abbrev pub space_name_of : List (List ℕ) → List ℕ → List ℕ
space_name_of names space = space_text (named names space)

-- a name by the names of namespaces, the first of which is the global one and no other
pub name_in-spaces : (names spaces : List (List ℕ)) (texts : List (List ℕ)) (n : ℕ) (name : List ℕ) → get_or spaces 0 [] ≡ [] → ((m : ℕ) → suc m < length spaces → (get_or spaces (suc m) [] ≡ []) → ⊥)
    → n < length spaces → n < length texts → ((m : ℕ) → m < length texts → get_or texts m [] ≡ space_name_of names (get_or spaces m []))
    → name_in texts n name ≡ full_name (namespace_at names spaces n) name
name_in-spaces names spaces texts zero name root inner within low each = ap (λ s. full_name (named names s) name) (sym root)
name_in-spaces names spaces texts (suc n) name root inner within low each =
    ap (λ text. text ++ 46 ∷ name) (each (suc n) low) ∙ by (get_or spaces (suc n) []) (inner n within)
  where
    by : (s : List ℕ) → ((s ≡ []) → ⊥) → space_name_of names s ++ 46 ∷ name ≡ full_name (named names s) name
    by [] never = absurd (never refl)
    by (w ∷ s) never = refl

-- a name behind that of its namespace, which is not the global one
pub name-behind : (old : List ℕ) (spaces : List (List ℕ)) (namespace : ℕ) (name : List ℕ) → namespace ≢ 0
    → ((old ++ get_or spaces namespace []) ++ 46 ∷ []) ++ name ≡ old ++ name_in spaces namespace name
name-behind old spaces zero name other = absurd (other refl)
name-behind old spaces (suc n) name other =
    let space = get_or spaces (suc n) [] in
    append_assoc (old ++ space) (46 ∷ []) name ∙ append_assoc old space (46 ∷ name)

-- the names of the first namespaces, one by one
pub each-name : (names spaces texts : List (List ℕ)) (n : ℕ) → n ≤ length spaces → texts ≡ map (space_name_of names) (take n spaces)
    → (length texts ≡ n) × ((m : ℕ) → m < length texts → get_or texts m [] ≡ space_name_of names (get_or spaces m []))
each-name names spaces texts n few is =
    let long : length texts ≡ n = ap length is ∙ length-map (take n spaces) (space_name_of names) ∙ length-take-le n spaces few in (
      long,
      λ m low.
          let below : m < n = omega (arith, low, long) in
          let taken = length-take-le n spaces few in
          ap (λ l. get_or l m []) is ∙ get_or-map (space_name_of names) (take n spaces) m [] [] (omega (arith, below, taken)) ∙ ap (space_name_of names) (get_or-take n spaces m [] below),
    )

module _ (names spaces : List (List ℕ)) (numbered : AreNumbered names spaces) (root : get_or spaces 0 [] ≡ []) where
  -- no other namespace is the global one
  inner : (m : ℕ) → suc m < length spaces → (get_or spaces (suc m) [] ≡ []) → ⊥
  inner m low e = let same : suc m ≡ 0 = distinct-place spaces (suc m) 0 numbered.spaces_distinct low (omega (arith, low)) (e ∙ sym root) in omega (arith, same)

  -- the words of a namespace have numbers
  pub word-within : (n : ℕ) (b : Block) → n < length spaces → get_or spaces n [] ≡ b.word ∷ get_or spaces b.outer [] → b.word < length names
  word-within n b low opened =
      (subst (AllByRecursion (λ w. w < length names)) opened (all-get (AllByRecursion (λ w. w < length names)) spaces n (get_or spaces n []) numbered.within (slice_get-get_or spaces n [] low))).0

  -- the name of the namespace that a block opens
  pub space-named : (texts : List (List ℕ)) (n : ℕ) (b : Block) (w t : List ℕ) → n < length spaces → texts ≡ map (space_name_of names) (take n spaces) → get_or spaces n [] ≡ b.word ∷ get_or spaces b.outer [] → b.outer < n
      → w ≡ word_at names b.word → t ≡ name_in texts b.outer w → t ≡ space_name_of names (get_or spaces n [])
  space-named texts n b w t low in_front opened outer word is =
      let (long, each) = each-name names spaces texts n (omega (arith, low)) in_front in
      is ∙ name_in-spaces names spaces texts b.outer w root inner (omega (arith, low, outer)) (omega (arith, outer, long)) each
      ∙ ap (full_name (namespace_at names spaces b.outer)) word ∙ ap (space_name_of names) (sym opened)

  -- a name in the namespace of a statement
  pub name-here : (texts : List (List ℕ)) (row : Row) (s : Placed) (name : List ℕ) → texts ≡ map (space_name_of names) spaces → IsRow names spaces row s → name_in texts row.namespace name ≡ full_name s.namespace name
  name-here texts row s name is is_row =
      let (long, each) = each-name names spaces texts (length spaces) (omega arith) (is ∙ ap (map (space_name_of names)) (sym (take_all (length spaces) spaces (omega arith)))) in
      let low = is_row.within in
      name_in-spaces names spaces texts row.namespace name root inner low (omega (arith, low, long)) each ∙ ap (λ l. full_name l name) is_row.here

-- a word by its number
pub word-some : (names : List (List ℕ)) (n : ℕ) (o : Option (Bor (List ℕ))) → option_map (λ w. w.now) o ≡ slice_get names n → n < length names → is_some o ≡ true
word-some names n None is low = absurd (none-some (get_or names n []) (is ∙ slice_get-get_or names n [] low))
word-some names n (Some w) is low = refl

pub word-is : (names : List (List ℕ)) (n : ℕ) (o : Option (Bor (List ℕ))) (w : Bor (List ℕ)) → option_map (λ w. w.now) o ≡ slice_get names n → o ≡ Some w → w.now ≡ word_at names n
word-is names n o w is some = sym (get_or_from_slice_get names n w.now [] (sym is ∙ ap (option_map (λ v. v.now)) some))

-- the name that a statement declares is its first word
pub numbered-first : (form : Form) → is_numbered_kind (kind_of form) ≡ true → (id : Word) × (numbered_id form ≡ Some id) × (slice_get (words_in form) 0 ≡ Some id)
numbered-first (type_name id) e = (id, refl, refl)
numbered-first (type_attribute id) e = (id, refl, refl)
numbered-first (class id permissions) e = (id, refl, refl)
numbered-first (class_permission id) e = (id, refl, refl)
numbered-first (rule kind source itself (anonymous the_class permissions)) e = absurd (true≢false (sym e))
numbered-first (rule kind source (the_named word) (anonymous the_class permissions)) e = absurd (true≢false (sym e))
numbered-first _ e = absurd (true≢false (sym e))

pub kind-numbered : (form : Form) → is_numbered_kind (kind_of form) ≡ is_numbered form
kind-numbered (rule kind source itself (anonymous the_class permissions)) = refl
kind-numbered (rule kind source (the_named word) (anonymous the_class permissions)) = refl
kind-numbered _ = refl

-- a statement of another kind declares no such name
pub kind-absent : (form : Form) → is_numbered_kind (kind_of form) ≡ false → numbered_id form ≡ None
kind-absent form is = by (numbered_id form) (sym (kind-numbered form) ∙ is)
  where
    by : (o : Option Word) → is_some o ≡ false → o ≡ None
    by None none = refl
    by (Some word) none = absurd (true≢false none)

-- nothing is read where there is no word
pub reads-absent : {A : Type 0} (seen : Seen A) (o : Option Word) → Reads seen None o → o ≡ None
reads-absent seen None reads = refl
reads-absent seen (Some w) reads = absurd (none-some (Some w) reads)
