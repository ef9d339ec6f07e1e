-- The counters of keys, by the places of keys.
use Rattle.cil_keyed_lines.proofs.Common.{All, AreCounted, AreLines, AreLogged, AreNamed, AreKeyed, Bool, List, Named, Names, Naming, None, Some, State, SymbolKey, [], ap, arith, before_in, cases_eq, cases_lt, cond, count_before, count_by, count_now, eqb-true, false, get_or, has_key, if◌then◌else◌, index_of, inl, inr, is_key, length, lines_in, list_any, listed, name_before, name_now, nat_lt, now_in, of_keys, one_if, position, refl, reverse, slice_get, slice_index, subst, suc, sym, take, times, true, true≢false, unnamed, with_key, ℕ, ◌*◌, ◌++◌, ◌+◌, ◌<◌, ◌==◌, ◌||◌, ◌∙◌, ◌∷◌, ◌≡◌, ◌≤◌}
use Rattle.cil_keyed_lines.proofs.NameLemmas.{one_most, one_other, one_same}
use Rattle.cil_keyed_lines.proofs.ReachLemmas.{lines_kept}
use Rattle.cil_keyed_lines.proofs.KeyedLemmas.{by_place, count_reached, count_same, no_key, one_key, place_is, placed_at, places_grown}
use Rattle.std.specs.List.{AllByRecursion, IsDistinct}
use Rattle.std.proofs.lemmas.Bool.{lt-ltb}
use Rattle.std.proofs.lemmas.List.{get_or_past, length-append}
use Rattle.std.proofs.lemmas.List.Folds.{position_or_len_push}
use Rattle.std.proofs.lemmas.List.Quantifiers.{position-Some}
use Rattle.std.proofs.lemmas.List.Sums.{sum_by-cons, sum_by_more, sum_by_push}
use Rattle.std.proofs.Math.Nat.{le-mul_of_pos_right, mul_comm}
use Rattle.std.specs.Prelude.{min}
use Rattle.std.proofs.lemmas.Option.{slice_get-get_or}

-- ---- places of keys

-- a key stands at its place
pub place_of : (keys : List SymbolKey) (p : ℕ) (d : SymbolKey) → IsDistinct is_key keys → p < length keys → index_of keys (get_or keys p d) ≡ p
place_of keys p d distinct within = place_is keys (get_or keys p d) p (placed_at keys p (get_or keys p d) distinct (slice_get-get_or keys p d within))

-- the place of a key is that of a key that is the same, and of no other
pub same_place : (keys : List SymbolKey) (key k : SymbolKey) (i : ℕ) → position (is_key key) keys ≡ Some i → one_if (i == index_of keys k) ≡ one_if (is_key k key)
same_place keys key k i at = by (is_key k key) refl
  where
    by : (b : Bool) → is_key k key ≡ b → one_if (i == index_of keys k) ≡ one_if b
    by true same = one_same i (index_of keys k) (sym (ap (index_of keys) (one_key k key same) ∙ place_is keys key i at))
    by false other = one_other i (index_of keys k) (λ e. true≢false (sym (met e) ∙ other))
      where
        met : i ≡ index_of keys k → is_key k key ≡ true
        met e =
            let (within, equal, _) = position-Some (is_key key) keys i key at in
            let found : position (is_key k) keys ≡ Some i = ap (λ n. cond (nat_lt n (length keys)) (Some n) None) (sym e) ∙ ap (λ b. cond b (Some i) None) (lt-ltb i (length keys) within) in
            let (_, also, _) = position-Some (is_key k) keys i key found in
            ap (is_key k) (one_key key (get_or keys i key) equal) ∙ also

-- ---- lists of places

-- no place of a list is behind them
pub times_past : (v : List Named) (n p : ℕ) → All (λ x. x.place < n) v → n ≤ p → times v p ≡ 0
times_past [] n p all past = refl
times_past (x ∷ xs) n p all past =
    omega (
      arith,
      sum_by-cons (λ (y : Named). one_if (y.place == p)) x xs,
      one_other x.place p (λ e. omega (arith, e, all 0 x (omega arith), past)),
      times_past xs n p (λ k d less. all (suc k) d (omega (arith, less))) past,
    )

-- a key that comes takes no place from another
pub times_grown : (v : List Named) (keys : List SymbolKey) (key : SymbolKey) → All (λ x. x.place < length keys) v → (k : SymbolKey)
    → times v (index_of (with_key keys key) k) ≡ times v (index_of keys k)
times_grown v keys key within k = by (has_key keys key)
  where
    by : (b : Bool) → times v (index_of (if b then keys else keys ++ key ∷ []) k) ≡ times v (index_of keys k)
    by true = refl
    by false = moved (index_of keys k == length keys) refl
      where
        grown : List SymbolKey
        grown = keys ++ key ∷ []

        pushed : index_of grown k ≡ cond (index_of keys k == length keys) (length keys + cond (is_key k key) 0 1) (index_of keys k)
        pushed = position_or_len_push (is_key k) keys key

        moved : (b : Bool) → (index_of keys k == length keys) ≡ b → times v (index_of grown k) ≡ times v (index_of keys k)
        moved false other = ap (times v) (pushed ∙ ap (λ b. cond b (length keys + cond (is_key k key) 0 1) (index_of keys k)) other)
        moved true last =
            let old : index_of keys k ≡ length keys = eqb-true (index_of keys k) (length keys) last in
            let new : index_of grown k ≡ length keys + cond (is_key k key) 0 1 = pushed ∙ ap (λ b. cond b (length keys + cond (is_key k key) 0 1) (index_of keys k)) last in
            times_past v (length keys) (index_of grown k) within (omega (arith, new)) ∙ sym (times_past v (length keys) (index_of keys k) within (omega (arith, old)))

-- ---- keys of a list

listed_none : (keys : List SymbolKey) (k : SymbolKey) → list_any (is_key k) keys ≡ false → listed keys k ≡ 0
listed_none [] k none = refl
listed_none (x ∷ xs) k none = by (is_key k x) refl none (listed_none xs k)
  where
    by : (b : Bool) → is_key k x ≡ b → (b || list_any (is_key k) xs) ≡ false → (list_any (is_key k) xs ≡ false → listed xs k ≡ 0) → listed (x ∷ xs) k ≡ 0
    by true is e more = absurd (true≢false e)
    by false is e more = omega (arith, sum_by-cons (λ y. one_if (is_key k y)) x xs, ap one_if is, more e)

none_of : (keys : List SymbolKey) (key : SymbolKey) → AllByRecursion (λ y. is_key key y ≡ false) keys → list_any (is_key key) keys ≡ false
none_of [] key all = refl
none_of (x ∷ xs) key all = ap (λ b. b || list_any (is_key key) xs) all.0 ∙ none_of xs key all.1

-- distinct keys are there once
pub listed_once : (keys : List SymbolKey) (k : SymbolKey) → IsDistinct is_key keys → listed keys k ≡ one_if (has_key keys k)
unfolding IsDistinct
listed_once [] k distinct = refl
listed_once (x ∷ xs) k distinct = by (is_key k x) refl (listed_once xs k distinct.1)
  where
    by : (b : Bool) → is_key k x ≡ b → listed xs k ≡ one_if (list_any (is_key k) xs) → listed (x ∷ xs) k ≡ one_if (b || list_any (is_key k) xs)
    by true is more =
        let other : list_any (is_key k) xs ≡ false = ap (λ y. list_any (is_key y) xs) (one_key k x is) ∙ none_of xs x distinct.0 in
        omega (arith, sum_by-cons (λ y. one_if (is_key k y)) x xs, ap one_if is, listed_none xs k other)
    by false is more = omega (arith, sum_by-cons (λ y. one_if (is_key k y)) x xs, ap one_if is, more)

pub of_keys_times : (keys : List SymbolKey) (amount : ℕ → ℕ) (k : SymbolKey) (t m : ℕ) → m ≡ one_if (has_key keys k) → of_keys keys amount k t ≡ m * amount t
unfolding of_keys
of_keys_times keys amount k t m is = by (has_key keys k) is
  where
    by : (b : Bool) → m ≡ one_if b → (if b then amount t else 0) ≡ m * amount t
    by true one = let all : m * amount t ≡ 1 * amount t = ap (λ n. n * amount t) one in omega (arith, all)
    by false none = let all : m * amount t ≡ 0 * amount t = ap (λ n. n * amount t) none in omega (arith, all)

-- places of distinct keys, each once
pub times_once : (v : List Named) (keys list : List SymbolKey) → IsDistinct is_key keys → IsDistinct is_key list → All (λ x. x.place < length keys) v
    → ((k : SymbolKey) → times v (index_of keys k) ≡ listed list k) → (p : ℕ) → times v p ≤ 1
times_once v keys list distinct once within are p = elim (cases_lt p (length keys)) [
  | inl less ↦
      let key = get_or keys p no_key in
      omega (arith, ap (times v) (place_of keys p no_key distinct less), are key, listed_once list key once, one_most (has_key list key))
  | inr past ↦ omega (arith, times_past v (length keys) p within past)
]

-- ---- counters of keys

module _ (keys : List SymbolKey) (n : Naming) (s : State) (a b : ℕ) (are : AreKeyed keys n s a b) where
  pub now_past : (p t : ℕ) → length keys ≤ p → now_in n s p t ≡ 0
  now_past p t past = ap (λ l. count_now s l t) (get_or_past n.named p 0 (omega (arith, past, are.len))) ∙ are.lined.nothing t

  pub before_past : (p t : ℕ) → length keys ≤ p → before_in n s p t ≡ 0
  before_past p t past = ap (λ l. count_before s l t) (are.kept.came p (omega (arith, past, are.there))) ∙ are.lined.nothing_before t

  pub now_place : (k : SymbolKey) (t : ℕ) → count_by (now_in n s) keys k t ≡ now_in n s (index_of keys k) t
  now_place = by_place (now_in n s) keys now_past

  pub before_place : (k : SymbolKey) (t : ℕ) → count_by (before_in n s) keys k t ≡ before_in n s (index_of keys k) t
  before_place = by_place (before_in n s) keys before_past

-- names and keys come
pub shared_names : (keys keys' : List SymbolKey) (n n' : Naming) (s : State) (a b : ℕ) → AreKeyed keys n s a b → IsDistinct is_key keys' → length n'.named ≡ length keys' → length keys ≤ length keys'
    → n'.lines ≡ n.lines → ((p : ℕ) → name_now n' p ≡ name_now n p) → ((p : ℕ) → name_before n' p ≡ name_before n p) → AreLogged n' → AreKeyed keys' n' s a b
shared_names keys keys' n n' s a b are distinct len more lines now before logged =
    record {
      distinct = distinct;
      len = len;
      there = omega (arith, are.there, more);
      lined = lines_kept n n' s s are.lined (omega (arith, lines, are.lined.lines)) (omega arith) now before (λ t _. count_now s 0 t) (λ t _. count_before s 0 t);
      counted = λ p some. let (t, above) = are.counted p (λ e. some (now p ∙ e)) in (t, omega (arith, above, ap (λ l. count_now s l t) (now p)));
      logged = logged;
      kept = record {
        came = λ p past. before p ∙ are.kept.came p past;
        within = λ p some. omega (arith, before p, are.kept.within p (λ e. some (before p ∙ e)));
        there = are.kept.there;
        counted = λ p less. let (t, above) = are.kept.counted p less in (t, omega (arith, above, ap (λ l. count_before s l t) (before p)));
      };
    }

-- a key comes, or none
module _ (keys keys' : List SymbolKey) (n n' : Naming) (s : State) (a b : ℕ) (are : AreKeyed keys n s a b) (now : (p : ℕ) → name_now n' p ≡ name_now n p)
    (before : (p : ℕ) → name_before n' p ≡ name_before n p) where
  same_now : (p t : ℕ) → now_in n' s p t ≡ now_in n s p t
  same_now p t = ap (λ l. count_now s l t) (now p)

  same_before : (p t : ℕ) → before_in n' s p t ≡ before_in n s p t
  same_before p t = ap (λ l. count_before s l t) (before p)

  pub stays_grown : (key : SymbolKey) → keys' ≡ with_key keys key → (k : SymbolKey) (t : ℕ) → count_by (now_in n' s) keys' k t ≡ count_by (now_in n s) keys k t
  stays_grown key grown = count_reached (now_in n s) (now_in n' s) keys keys' key grown same_now (now_past keys n s a b are)

  pub before_grown : (key : SymbolKey) → keys' ≡ with_key keys key → (k : SymbolKey) (t : ℕ) → count_by (before_in n' s) keys' k t ≡ count_by (before_in n s) keys k t
  before_grown key grown = count_reached (before_in n s) (before_in n' s) keys keys' key grown same_before (before_past keys n s a b are)

  pub stays_kept : keys' ≡ keys → (k : SymbolKey) (t : ℕ) → count_by (now_in n' s) keys' k t ≡ count_by (now_in n s) keys k t
  stays_kept kept k t = ap (λ l. count_by (now_in n' s) l k t) kept ∙ count_same (now_in n s) (now_in n' s) keys same_now k t

  pub before_kept : keys' ≡ keys → (k : SymbolKey) (t : ℕ) → count_by (before_in n' s) keys' k t ≡ count_by (before_in n s) keys k t
  before_kept kept k t = ap (λ l. count_by (before_in n' s) l k t) kept ∙ count_same (before_in n s) (before_in n' s) keys same_before k t

-- a key that comes makes the keys one more
pub grown_len : (keys keys' : List SymbolKey) (key : SymbolKey) → list_any (is_key key) keys ≡ false → keys' ≡ with_key keys key → length keys' ≡ length keys + 1
grown_len keys keys' key new grown =
    ap length (grown ∙ ap (λ b. if b then keys else keys ++ key ∷ []) new) ∙ length-append keys (key ∷ [])

pub places_kept : (keys keys' : List SymbolKey) → keys' ≡ keys → (i : ℕ) (k : SymbolKey) → slice_get keys i ≡ Some k → slice_get keys' i ≡ Some k
places_kept keys keys' kept i k at = ap (λ l. slice_get l i) kept ∙ at

pub places_more : (keys keys' : List SymbolKey) (key : SymbolKey) → keys' ≡ with_key keys key → (i : ℕ) (k : SymbolKey) → slice_get keys i ≡ Some k → slice_get keys' i ≡ Some k
places_more keys keys' key grown i k at = ap (λ l. slice_get l i) grown ∙ places_grown keys key i k at

-- counters move
module _ (keys : List SymbolKey) (n n' : Naming) (s s' : State) (a b : ℕ) (are : AreKeyed keys n s a b) (lined : AreLines n' s') (more : lines_in s ≤ lines_in s')
    (names_before : (p : ℕ) → name_before n' p ≡ name_before n p) (before : (l t : ℕ) → l < lines_in s → count_before s' l t ≡ count_before s l t) where
  pub before_moved : (p t : ℕ) → before_in n' s' p t ≡ before_in n s p t
  before_moved p t = elim (cases_eq (name_before n p) 0) [
    | inl none ↦
        ap (λ l. count_before s' l t) (names_before p ∙ none) ∙ lined.nothing_before t ∙ sym (ap (λ l. count_before s l t) none ∙ are.lined.nothing_before t)
    | inr some ↦ ap (λ l. count_before s' l t) (names_before p) ∙ before (name_before n p) t (are.lined.past p some)
  ]

  pub shared_moved : AreCounted n' s' → length n'.named ≡ length n.named → AreLogged n' → AreKeyed keys n' s' a b
  shared_moved counted len logged =
      record {
        distinct = are.distinct;
        len = len ∙ are.len;
        there = are.there;
        lined = lined;
        counted = counted;
        logged = logged;
        kept = record {
          came = λ p past. names_before p ∙ are.kept.came p past;
          within = λ p some. omega (arith, names_before p, are.kept.within p (λ e. some (names_before p ∙ e)));
          there = omega (arith, are.kept.there, more);
          counted = λ p less. let (t, above) = are.kept.counted p less in (t, omega (arith, above, before_moved p t));
        };
      }

-- nothing is there yet
pub shared_none : (keys : List SymbolKey) (n : Naming) (s : State) → IsDistinct is_key keys → length keys ≡ 0 → n.named ≡ [] → n.log ≡ [] → n.lines ≡ 0 → lines_in s ≡ 0
    → ((t : ℕ) → count_now s 0 t ≡ 0) → ((t : ℕ) → count_before s 0 t ≡ 0) → AreKeyed keys n s 0 0
shared_none keys n s distinct none named log lines len now before =
    record {
      distinct = distinct;
      len = ap length named ∙ sym none;
      there = omega arith;
      lined = record {
        lines = omega (arith, lines, len);
        within = λ p some. absurd (some (nothing p));
        past = λ p some. absurd (some (nothing_before p));
        nothing = now;
        nothing_before = before;
      };
      counted = λ p some. absurd (some (nothing p));
      logged = λ p less _. absurd (omega (arith, less, ap length named));
      kept = record {
        came = λ p _. nothing_before p;
        within = λ p some. absurd (some (nothing_before p));
        there = omega arith;
        counted = λ p less. absurd (omega (arith, less));
      };
    }
  where
    nothing : (p : ℕ) → name_now n p ≡ 0
    nothing p = ap (λ l. get_or l p 0) named

    nothing_before : (p : ℕ) → name_before n p ≡ 0
    nothing_before p = ap (λ l. unnamed (reverse l) (slice_index n.named) p) log ∙ nothing p

-- a place that a further key of a list has
pub times_key : (v : List Named) (keys keys' list : List SymbolKey) (key d : SymbolKey) (i line place : ℕ) → All (λ x. x.place < length keys) v → keys' ≡ with_key keys key
    → position (is_key key) keys' ≡ Some place → i < length list → key ≡ get_or list i d → ((k : SymbolKey) → times v (index_of keys k) ≡ listed (take i list) k)
    → (k : SymbolKey) → times (v ++ record { line = line; place = place } ∷ []) (index_of keys' k) ≡ listed (take (i + 1) list) k
times_key v keys keys' list key d i line place within grown at less is so_far k =
    omega (
      arith,
      sum_by_push (λ (x : Named). one_if (x.place == index_of keys' k)) v (record { line = line; place = place }),
      ap (λ l. times v (index_of l k)) grown ∙ times_grown v keys key within k,
      same_place keys' key k place at ∙ ap (λ x. one_if (is_key k x)) is,
      sum_by_more (λ x. one_if (is_key k x)) list i d less,
      so_far k,
    )

pub all_names : (v : List Named) (n n' : Naming) → length n.named ≤ length n'.named → ((p : ℕ) → name_now n' p ≡ name_now n p) → All (Names n) v → All (Names n') v
all_names v n n' more same all k d less = let (within, name) = all k d less in (omega (arith, within, more), same (get_or v k d).place ∙ name)

pub all_within : (v : List Named) (a b : ℕ) → a ≤ b → All (λ x. x.place < a) v → All (λ x. x.place < b) v
all_within v a b more all k d less = omega (arith, all k d less, more)

-- what holds of the places of keys holds of each place
pub above_places : (places : List Named) (keys : List SymbolKey) (n : Naming) (s : State) (a b : ℕ) (went : ℕ → ℕ) → AreKeyed keys n s a b → AreNamed places n
    → ((k : SymbolKey) (t : ℕ) → times places (index_of keys k) * went t ≤ count_by (now_in n s) keys k t) → (p t : ℕ) → times places p * went t ≤ now_in n s p t
above_places places keys n s a b went are named above p t = elim (cases_lt p (length keys)) [
  | inl less ↦
      let key = get_or keys p no_key in
      let at : index_of keys key ≡ p = place_of keys p no_key are.distinct less in
      subst (λ q. times places q * went t ≤ now_in n s q t) at (subst (λ m. times places (index_of keys key) * went t ≤ m) (now_place keys n s a b are key t) (above key t))
  | inr past ↦
      let all : All (λ x. x.place < length keys) places = λ k d less. omega (arith, (named.named k d less).0, are.len) in
      let none : times places p * went t ≡ 0 * went t = ap (λ m. m * went t) (times_past places (length keys) p all past) in
      none_le (times places p * went t) (omega (arith, none))
]
  where
    none_le : (x : ℕ) → x ≡ 0 → x ≤ now_in n s p t
    none_le x is = omega (arith, is)

-- what holds of places holds of the keys there
module _ (keys : List SymbolKey) (n n' : Naming) (s s' : State) (a b : ℕ) (are : AreKeyed keys n s a b) (are' : AreKeyed keys n' s' a b) (places : List Named) (was is : ℕ → ℕ) where
  pub keys_moved : ((p t : ℕ) → now_in n' s' p t + times places p * was t ≡ now_in n s p t + times places p * is t) → (k : SymbolKey) (t : ℕ)
      → count_by (now_in n' s') keys k t + times places (index_of keys k) * was t ≡ count_by (now_in n s) keys k t + times places (index_of keys k) * is t
  keys_moved step k t =
      ap (λ x. x + times places (index_of keys k) * was t) (now_place keys n' s' a b are' k t) ∙ step (index_of keys k) t
      ∙ ap (λ x. x + times places (index_of keys k) * is t) (sym (now_place keys n s a b are k t))

  pub keys_bounded : ((p t : ℕ) → now_in n' s' p t ≤ now_in n s p t + times places p * is t) → (k : SymbolKey) (t : ℕ)
      → count_by (now_in n' s') keys k t ≤ count_by (now_in n s) keys k t + times places (index_of keys k) * is t
  keys_bounded most k t =
      subst (λ x. x ≤ count_by (now_in n s) keys k t + times places (index_of keys k) * is t) (sym (now_place keys n' s' a b are' k t))
      (subst (λ x. now_in n' s' (index_of keys k) t ≤ x + times places (index_of keys k) * is t) (sym (now_place keys n s a b are k t)) (most (index_of keys k) t))

-- ---- how many counters move

pub product_most : (k s m : ℕ) → min (min s m * k) m ≡ min (k * s) m
product_most k s m = elim (cases_lt s m) [
  | inl less ↦ ap (λ x. min x m) (ap (λ x. x * k) (let e : min s m ≡ s = omega (arith, less) in e) ∙ mul_comm s k)
  | inr more ↦ ap (λ x. min x m) (ap (λ x. x * k) (let e : min s m ≡ m = omega (arith, more) in e)) ∙ by more k
]
  where
    both : (x y : ℕ) → m ≤ x → m ≤ y → min x m ≡ min y m
    both x y left right = omega (arith, left, right)

    none : (x y : ℕ) → x ≡ 0 → y ≡ 0 → min x m ≡ min y m
    none x y left right = omega (arith, left, right)

    by : m ≤ s → (j : ℕ) → min (m * j) m ≡ min (j * s) m
    by more j = elim (cases_lt 0 j) [
      | inl some ↦
          both (m * j) (j * s) (le-mul_of_pos_right m some)
          (let a : s ≤ s * j = le-mul_of_pos_right s some in let c : s * j ≡ j * s = mul_comm s j in omega (arith, more, a, c))
      | inr low ↦
          let e : j ≡ 0 = omega (arith, low) in
          none (m * j) (j * s) (let c : m * j ≡ m * 0 = ap (λ i. m * i) e in omega (arith, c)) (let c : j * s ≡ 0 * s = ap (λ i. i * s) e in omega (arith, c))
    ]
