-- Keys that are told apart by their texts, seen as the list of these.
use Rattle.std.proofs.Common.{◌≡◌, ℕ, ◌+◌, ◌<◌, ◌≤◌, suc, Bool, true, false, not, ◌||◌, nat_lt, List, [], ◌∷◌, ◌++◌, length, map, cond, Some, None, option_map, get_or, slice_get, position, bytes_eq, refl, sym, ap, ◌∙◌, add-one, arith, true≢false, if◌then◌else◌, IsTrue}
use Rattle.std.specs.List.{list_any, position_or_len, AllByRecursion, IsDistinct}
use Rattle.std.specs.Ordering.{nat_cmp, is_lt, is_eq, ordering_reverse}
use Rattle.std.specs.declared.cmp.Ordering.{Ordering}
use Rattle.std.specs.declared.cmp.Ordering.TheVariants.{Less, Equal, Greater}
use Rattle.std.specs.Cmp.Lexicographic.{slice_cmp}
use Rattle.std.specs.Cmp.Derive.{both_true}
use Rattle.std.proofs.lemmas.Bool.{ltb-true, ltb-false, lt-ltb, le-ltb}
use Rattle.std.proofs.lemmas.Cmp.{nat_list_cmp_total}
use Rattle.std.proofs.lemmas.List.{map-append}
use Rattle.std.proofs.lemmas.List.Quantifiers.{position-Some}
use Rattle.std.proofs.lemmas.Map.Keys.{IsDistinct-head, IsDistinct-tail, IsDistinct-cons}
use Rattle.std.proofs.lemmas.Map.Text.{is_eq-slice_cmp}
use Rattle.std.proofs.lemmas.Option.{slice_get-map, slice_get-get_or}
use Rattle.std.proofs.lemmas.Slice.Eq.{bytes_eq-Decides}
use Rattle.indexmap.specs.IndexSet.{insert_key}
use Rattle.cil_specs.specs.Lookup.{has_name, with_name}
use Rattle.cil_specs.specs.Report.{name_cmp, names_rise}

pub less-suc : (m n : ℕ) → nat_lt (suc m) (suc n) ≡ nat_lt m n
less-suc m n = by (nat_lt m n) refl
  where
    by : (b : Bool) → nat_lt m n ≡ b → nat_lt (suc m) (suc n) ≡ b
    by true e = let l : m < n = ltb-true m n e in lt-ltb (suc m) (suc n) (omega arith)
    by false e = let l : n ≤ m = ltb-false m n e in le-ltb (suc m) (suc n) (omega arith)

pub position-cons : {X : Type 0} (p : X → Bool) (x : X) (xs : List X) → position p (x ∷ xs) ≡ cond (p x) (Some 0) (option_map suc (position p xs))
position-cons p x xs = by (p x)
  where
    n : ℕ
    n = position_or_len p xs

    shifted : (d : Bool) → cond d (Some (suc n)) None ≡ option_map suc (cond d (Some n) None)
    shifted true = refl
    shifted false = refl

    one_more : 1 + n ≡ suc n
    one_more = omega arith

    by : (b : Bool) → cond (nat_lt (cond (not b) (1 + n) 0) (suc (length xs))) (Some (cond (not b) (1 + n) 0)) None ≡ cond b (Some 0) (option_map suc (cond (nat_lt n (length xs)) (Some n) None))
    by true = ap (λ d. cond d (Some 0) None) (lt-ltb 0 (suc (length xs)) (omega arith))
    by false = ap (λ m. cond (nat_lt m (suc (length xs))) (Some m) None) one_more ∙ ap (λ d. cond d (Some (suc n)) None) (less-suc n (length xs)) ∙ shifted (nat_lt n (length xs))

-- a name stands where it is found first
pub found-name : (names : List (List ℕ)) (name : List ℕ) (n : ℕ) → position (bytes_eq name) names ≡ Some n → slice_get names n ≡ Some name
found-name names name n is =
    let (within, equal, first) = position-Some (bytes_eq name) names n [] is in
    slice_get-get_or names n [] within ∙ ap Some (sym ((bytes_eq-Decides name (get_or names n [])).0 equal))

module _ {K : Type 0} (text : K → List ℕ) where
  -- the texts of keys
  abbrev pub texts : List K → List (List ℕ)
  texts keys = map text keys

  abbrev pub same : K → K → Bool
  same a b = bytes_eq (text a) (text b)

  pub has_name-texts : (keys : List K) (name : List ℕ) → list_any (λ k. bytes_eq name (text k)) keys ≡ has_name (texts keys) name
  has_name-texts [] name = refl
  has_name-texts (x ∷ xs) name = ap (λ b. bytes_eq name (text x) || b) (has_name-texts xs name)

  pub with_name-texts : (keys : List K) (key : K) → texts (insert_key same keys key) ≡ with_name (texts keys) (text key)
  with_name-texts keys key = by (list_any (same key) keys) (has_name-texts keys (text key))
    where
      by : (b : Bool) → b ≡ has_name (texts keys) (text key) → texts (if b then keys else keys ++ key ∷ []) ≡ with_name (texts keys) (text key)
      by true e = ap (λ b. if b then texts keys else texts keys ++ text key ∷ []) e
      by false e = map-append text keys (key ∷ []) ∙ ap (λ b. if b then texts keys else texts keys ++ text key ∷ []) e

  -- a name's number is its place
  pub position-texts : (keys : List K) (name : List ℕ) → position (λ k. bytes_eq name (text k)) keys ≡ position (bytes_eq name) (texts keys)
  position-texts [] name = refl
  position-texts (x ∷ xs) name =
      position-cons (λ k. bytes_eq name (text k)) x xs ∙ ap (λ o. cond (bytes_eq name (text x)) (Some 0) (option_map suc o)) (position-texts xs name)
      ∙ sym (position-cons (bytes_eq name) (text x) (texts xs))

  -- distinct keys have distinct texts
  pub distinct-texts : (keys : List K) → IsDistinct same keys → IsDistinct bytes_eq (texts keys)
  unfolding IsDistinct
  distinct-texts [] d = d
  distinct-texts (n ∷ keys) d = IsDistinct-cons bytes_eq (text n) (texts keys) (others keys (IsDistinct-head same n keys d)) (distinct-texts keys (IsDistinct-tail same n keys d))
    where
      others : (ns : List K) → AllByRecursion (λ m. same n m ≡ false) ns → AllByRecursion (λ y. bytes_eq (text n) y ≡ false) (texts ns)
      others [] all = tt
      others (m ∷ ns) all = (all.0, others ns all.1)

  -- what stands where a key was put has its text
  pub stored-text : (keys : List K) (key : K) (n : ℕ) → ((k : K) × (slice_get keys n ≡ Some k) × (same key k ≡ true)) → slice_get (texts keys) n ≡ Some (text key)
  stored-text keys key n (k, at, is) = slice_get-map text keys n ∙ ap (option_map text) at ∙ ap Some (sym ((bytes_eq-Decides (text key) (text k)).0 is))

  -- things in the order of their names, each name once, have names that rise
  pub names_rise-by : (xs : List K) → ((k : ℕ) (d : K) → 0 ≤ k → k + 1 < length xs → is_lt (slice_cmp nat_cmp (text (get_or xs (k + 1) d)) (text (get_or xs k d))) ≡ false)
      → IsDistinct same xs → IsTrue (names_rise (texts xs))
  unfolding IsDistinct
  names_rise-by [] sorted distinct = refl
  names_rise-by (a ∷ []) sorted distinct = refl
  names_rise-by (a ∷ b ∷ xs) sorted distinct =
      both_true (below (name_cmp (text a) (text b)) refl) (names_rise-by (b ∷ xs) (λ k d low high. later k d high) distinct.1)
    where
      later : (k : ℕ) (d : K) → k + 1 < length (b ∷ xs) → is_lt (slice_cmp nat_cmp (text (get_or (b ∷ xs) (k + 1) d)) (text (get_or (b ∷ xs) k d))) ≡ false
      later k d high = rw (add-one k) (rw (add-one (suc k)) at (sorted (suc k) d (omega arith) (omega arith)))

      turned : name_cmp (text b) (text a) ≡ ordering_reverse (name_cmp (text a) (text b))
      turned = nat_list_cmp_total.antisymm (text b) (text a)

      below : (o : Ordering) → name_cmp (text a) (text b) ≡ o → is_lt (name_cmp (text a) (text b)) ≡ true
      below Less e = ap is_lt e
      below Equal e = absurd (true≢false (sym (ap is_eq e) ∙ is_eq-slice_cmp (text a) (text b) ∙ distinct.0.0))
      below Greater e = absurd (true≢false (sym (ap is_lt (turned ∙ ap ordering_reverse e)) ∙ sorted 0 a (omega arith) (omega arith)))
