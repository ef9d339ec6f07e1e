-- The keys of sources, each once, and the counters that move where these move alike.
use Rattle.cil_rule_shifts.proofs.Common.{◌≡◌, ℕ, ◌+◌, ◌-◌, ◌*◌, ◌^◌, ◌<◌, ◌≤◌, ◌==◌, ◌&&◌, ◌||◌, ◌++◌, Bool, true, false, not, if◌then◌else◌, nat_eq, nat_lt, List, [], ◌∷◌, length, take, get_or, min, refl, sym, ap, ◌∙◌, subst, arith, true≢false, le-ltb, ltb-true, add-zero, zero-add, eq-eqb, cases_eq, inl, inr, ne_eqb, is_key, is_kind, SymbolKey, came, differs, gives_to, has_head, has_key, has_permit, is_line, is_permit, moves_to, of_keys, one_if, ones_of, takes, went, AreInOrder, AreKeysOf, AreMovesOf, IsNext, Moved, NoneFrom, Permit, RuleHead, Targets, RisesBy, rises-added, rises-both, rises-map, rises-more, rises-none, rises-same, same-from_counts}
use Rattle.std.proofs.Common.{IfOk, Ok, OnOk, Result}
use Rattle.std.specs.Prelude.{IsErr}
use Rattle.std.proofs.lemmas.Result.{IfOk-from_err, IfOk-weaker}
use Rattle.cil_keyed_lines.specs.Keyed.{Keyed, count_now, steps_in, RiseAtMost, StaysBefore}
use Rattle.cil_rule_shifts.specs.Amounts.{ones, AreMoved, CountAtLeast}
use Rattle.cil_rule_shifts.specs.Groups.{had_by, AreShifted, CanMove}
use Rattle.cil_rule_shifts.specs.declared.group.Group.{Group}
use Rattle.std.specs.Cmp.{IsEquivalence}
use Rattle.std.specs.List.{AllByRecursion, IsDistinct}
use Rattle.std.proofs.Math.Bool.{and-false, and-true, or-false, or_assoc}
use Rattle.std.proofs.Math.Nat.{suc-mul, zero-mul}
use Rattle.std.proofs.lemmas.Bool.{and_parts, false_from_ne_true}
use Rattle.std.proofs.lemmas.List.Folds.{list_any-append, list_any_more}
use Rattle.std.proofs.lemmas.Map.Keys.{IsDistinct-push}
use Rattle.cil_keyed_lines.proofs.KeyedLemmas.{key_itself, kind_itself, one_key}
use Rattle.cil_rule_shifts.proofs.PermitLemmas.{is-itself, new-permit}
use Rattle.cil_rule_shifts.proofs.ShiftLemmas.{next-more, source-all, source-more}

-- ---- keys

flipped : (a b : SymbolKey) → is_key a b ≡ true → is_key b a ≡ true
flipped a b same = ap (is_key b) (one_key a b same) ∙ key_itself b

key-flips : (a b : SymbolKey) → is_key a b ≡ is_key b a
key-flips a b = by (is_key a b) (is_key b a) (flipped a b) (flipped b a)
  where
    by : (x y : Bool) → (x ≡ true → y ≡ true) → (y ≡ true → x ≡ true) → x ≡ y
    by true y to back = sym (to refl)
    by false true to back = back refl
    by false false to back = refl

key-equivalence : IsEquivalence is_key
key-equivalence = record { refl = key_itself; symm = key-flips; congr = λ x y z same. ap (λ k. is_key k z) (one_key x y same) }

-- a head with the first permits alone
abbrev pub first : ℕ → RuleHead → RuleHead
first i head = record head { permits = record head.permits { now = take i head.permits.now } }

-- the key of a source's line for a permit
abbrev pub of_head : ℕ → RuleHead → Permit → SymbolKey
of_head source head p = record { kind = head.kind; source = source; class = p.class; permission = p.permission }

-- ---- one key more

pub no-permit : (old : Bool) (source : ℕ) (head : RuleHead) (k : SymbolKey) → old ≡ (old || is_line source (first 0 head) k)
no-permit old source head k = sym (ap (λ b. old || b) (by (source == k.source) (is_kind head.kind k.kind)) ∙ or-false old)
  where
    by : (s b : Bool) → (s && (b && false)) ≡ false
    by true b = and-false b
    by false b = refl

module _ (source : ℕ) (head : RuleHead) (ordered : AreInOrder head.permits.now) (i : ℕ) (d : Permit) (within : i < length head.permits.now) (old keys : List SymbolKey)
    (are : (k : SymbolKey) → has_key keys k ≡ (has_key old k || is_line source (first i head) k)) where
  abbrev new : Permit
  new = get_or head.permits.now i d

  abbrev key : SymbolKey
  key = of_head source head new

  pub pushed-distinct : ((k : SymbolKey) → has_key old k ≡ true → (source == k.source) ≡ false) → IsDistinct is_key keys → IsDistinct is_key (keys ++ key ∷ [])
  pushed-distinct other distinct = IsDistinct-push key-equivalence keys key distinct absent
    where
      before : has_key old key ≡ false
      before = false_from_ne_true (has_key old key) (λ there. true≢false (sym (eq-eqb source source refl) ∙ other key there))

      not_yet : is_line source (first i head) key ≡ false
      not_yet =
          ap (λ b. b && (is_kind head.kind head.kind && has_permit (take i head.permits.now) new.class new.permission)) (eq-eqb source source refl)
          ∙ ap (λ b. b && has_permit (take i head.permits.now) new.class new.permission) (kind_itself head.kind)
          ∙ new-permit head.permits.now ordered i d within new.class new.permission (is-itself new)

      absent : has_key keys key ≡ false
      absent = are key ∙ ap (λ b. b || is_line source (first i head) key) before ∙ not_yet

  pub pushed-are : (k : SymbolKey) → has_key (keys ++ key ∷ []) k ≡ (has_key old k || is_line source (first (i + 1) head) k)
  pushed-are k =
      list_any-append (is_key k) keys (key ∷ []) ∙ ap (λ b. has_key keys k || b) (or-false (is_key k key) ∙ key-flips k key)
      ∙ ap (λ b. b || is_key key k) (are k) ∙ or_assoc (has_key old k) (is_line source (first i head) k) (is_key key k)
      ∙ ap (λ b. has_key old k || b) more
    where
      joined : (s b x y : Bool) → ((s && (b && x)) || (b && (s && y))) ≡ (s && (b && (x || y)))
      joined true true x y = refl
      joined true false x y = refl
      joined false true x y = refl
      joined false false x y = refl

      more : (is_line source (first i head) k || is_key key k) ≡ is_line source (first (i + 1) head) k
      more =
          joined (source == k.source) (is_kind head.kind k.kind) (has_permit (take i head.permits.now) k.class k.permission) (is_permit k.class k.permission new)
          ∙ sym (ap (λ b. (source == k.source) && (is_kind head.kind k.kind && b)) (list_any_more (is_permit k.class k.permission) head.permits.now i d within))

-- the keys of no source, and of one alone
pub none-distinct : IsDistinct is_key []
unfolding IsDistinct
none-distinct = tt

pub keys-new : (among : ℕ → Bool) (head : RuleHead) → AreKeysOf (λ s. nat_lt s 0 && among s) head []
keys-new among head = record { distinct = none-distinct; are = λ k. sym (ap (λ b. (b && among k.source) && has_head head k) (le-ltb k.source 0 (omega arith))) }

-- ---- the keys of one source more

module _ (among : ℕ → Bool) (head : RuleHead) (from source : ℕ) (keys : List SymbolKey) (before : AreKeysOf (λ s. nat_lt s from && among s) head keys) (next : IsNext among from source) where
  pub keys-apart : (k : SymbolKey) → has_key keys k ≡ true → (source == k.source) ≡ false
  keys-apart k there =
      let parts = and_parts (nat_lt k.source from && among k.source) (has_head head k) (sym (before.are k) ∙ there) in
      let less = ltb-true k.source from (and_parts (nat_lt k.source from) (among k.source) parts.0).0 in
      let low = next.from_on in
      ne_eqb source k.source (λ e. omega (arith, e, less, low))

  pub keys-more : (pushed : List SymbolKey) → IsDistinct is_key pushed → ((k : SymbolKey) → has_key pushed k ≡ (has_key keys k || is_line source head k))
      → AreKeysOf (λ s. nat_lt s (source + 1) && among s) head pushed
  keys-more pushed distinct are = record {
    distinct = distinct;
    are = λ k. are k ∙ ap (λ b. b || is_line source head k) (before.are k) ∙ joined (nat_lt k.source from && among k.source) (source == k.source) (has_head head k)
        ∙ sym (ap (λ b. b && has_head head k) (next-more among from source k.source next));
  }
    where
      joined : (a s h : Bool) → ((a && h) || (s && h)) ≡ ((a || s) && h)
      joined true true true = refl
      joined true true false = refl
      joined true false true = refl
      joined true false false = refl
      joined false s h = refl

pub keys-done : (among : ℕ → Bool) (head : RuleHead) (from : ℕ) (keys : List SymbolKey) → AreKeysOf (λ s. nat_lt s from && among s) head keys → NoneFrom among from → AreKeysOf among head keys
keys-done among head from keys before none = record {
  distinct = before.distinct;
  are = λ k. before.are k ∙ ap (λ b. b && has_head head k) (same-from_counts (nat_lt k.source from && among k.source) (among k.source) (source-all from k.source (among k.source) (none k.source)));
}

pub keys-one : (source : ℕ) (head : RuleHead) (keys : List SymbolKey) → IsDistinct is_key keys → ((k : SymbolKey) → has_key keys k ≡ (has_key [] k || is_line source head k)) → AreKeysOf (nat_eq source) head keys
keys-one source head keys distinct are = record { distinct = distinct; are = are }

-- ---- counters of keys that move alike

-- one or the other holds, and not both
either-one : (h e w : Bool) → (h ≡ true → e ≡ false) → one_if (h && w) + one_if (e && w) ≡ one_if ((h || e) && w)
either-one true true w apart = absurd (true≢false (apart refl))
either-one true false w apart = add-zero (one_if w)
either-one false e w apart = zero-add (one_if (e && w))

none-of : (keys : List SymbolKey) (k : SymbolKey) → AllByRecursion (λ y. is_key k y ≡ false) keys → has_key keys k ≡ false
none-of [] k all = refl
none-of (x ∷ xs) k all = ap (λ b. b || has_key xs k) all.0 ∙ none-of xs k all.1

-- the pairs of a key of a list and a target at which a test holds
pub rises-keys : (test : ℕ → Bool) (n : ℕ) → RisesBy test 0 n → (keys : List SymbolKey) → IsDistinct is_key keys → RisesBy (λ (p : SymbolKey × ℕ). has_key keys p.0 && test p.1) 0 (length keys * n)
unfolding IsDistinct
rises-keys test n rises [] distinct = subst (RisesBy (λ (p : SymbolKey × ℕ). has_key [] p.0 && test p.1) 0) (sym (zero-mul n)) (rises-none (λ (p : SymbolKey × ℕ). has_key [] p.0 && test p.1) 0 (λ p. refl))
rises-keys test n rises (x ∷ xs) distinct =
    rises-both (λ (p : SymbolKey × ℕ). is_key p.0 x && test p.1) (λ (p : SymbolKey × ℕ). has_key xs p.0 && test p.1) (λ (p : SymbolKey × ℕ). has_key (x ∷ xs) p.0 && test p.1)
    (λ p. either-one (is_key p.0 x) (has_key xs p.0) (test p.1) (apart p.0)) 0 n (length (x ∷ xs) * n) first_key
    (rises-added (λ (p : SymbolKey × ℕ). has_key xs p.0 && test p.1) n (length xs * n) (length (x ∷ xs) * n) (rises-keys test n rises xs distinct.1) (omega (arith, sum)) (omega (arith, sum)))
  where
    sum : length (x ∷ xs) * n ≡ length xs * n + n
    sum = suc-mul (length xs) n

    apart : (k : SymbolKey) → is_key k x ≡ true → has_key xs k ≡ false
    apart k same = ap (has_key xs) (one_key k x same) ∙ none-of xs x distinct.0

    back : (p : SymbolKey × ℕ) → (is_key p.0 x && test p.1) ≡ true → (t : ℕ) × (test t ≡ true) × ((x, t) ≡ p)
    back p is =
        let (keyed, holds) = and_parts (is_key p.0 x) (test p.1) is in
        let same = one_key p.0 x keyed in
        (p.1, holds, λ i. (sym same i, p.1))

    first_key : RisesBy (λ (p : SymbolKey × ℕ). is_key p.0 x && test p.1) 0 n
    first_key = rises-map (λ t. (x, t)) (λ a b same. ap (λ p. p.1) same) test (λ (p : SymbolKey × ℕ). is_key p.0 x && test p.1) (λ t holds. ap (λ b. b && test t) (key_itself x) ∙ holds) back 0 n rises

-- whether exactly one of two holds, within a test
pub split : (b x y : Bool) → (b && differs x y) ≡ differs (b && x) (b && y)
split true x y = refl
split false x y = refl

-- keys of sources that have the same targets, and what moves by these
pub record AreAlike {A : Type 0} (among : ℕ → Bool) (head : RuleHead) (keys : List SymbolKey) (moved : List Moved) (was is : Targets A) : Type 0 where
  pub of : AreKeysOf among head keys
  pub had : ℕ → Bool
  pub has : ℕ → Bool
  pub were : (s t : ℕ) → among s ≡ true → takes was s t ≡ had t
  pub are : (s t : ℕ) → among s ≡ true → takes is s t ≡ has t
  pub moves : AreMovesOf had has moved

module _ {A : Type 0} (among : ℕ → Bool) (head : RuleHead) (keys : List SymbolKey) (moved : List Moved) (was is : Targets A) (alike : AreAlike among head keys moved was is) where
  of-keys : (targets : Targets A) (f : ℕ → Bool) → ((s t : ℕ) → among s ≡ true → takes targets s t ≡ f t) → (k : SymbolKey) (t : ℕ) → gives_to among head targets (k, t) ≡ (has_key keys k && f t)
  of-keys targets f same k t = by (among k.source) (has_head head k) (takes targets k.source t) (f t) (same k.source t) ∙ sym (ap (λ b. b && f t) (alike.of.are k))
    where
      by : (a h x y : Bool) → (a ≡ true → x ≡ y) → ((a && x) && h) ≡ ((a && h) && y)
      by true true x y same = and-true x ∙ same refl
      by true false x y same = and-false x
      by false h x y same = refl

  amount : (f : ℕ → ℕ) (g : ℕ → Bool) → ((t : ℕ) → f t ≡ one_if (g t)) → (k : SymbolKey) (t : ℕ) → of_keys keys f k t ≡ one_if (has_key keys k && g t)
  unfolding of_keys
  amount f g same k t = by (has_key keys k)
    where
      by : (b : Bool) → (if b then f t else 0) ≡ one_if (b && g t)
      by true = same t
      by false = refl

  -- in terms of what had and has a target
  parts : (b x y : Bool) → (one_if (b && (x && not y)) + one_if (b && y) ≡ one_if (b && (y && not x)) + one_if (b && x)) × (one_if (b && (x && not y)) ≤ one_if (b && x)) × (one_if (b && (y && not x)) ≤ one_if (b && y))
  parts false x y = (refl, omega arith, omega arith)
  parts true true true = (refl, omega arith, omega arith)
  parts true true false = (refl, omega arith, omega arith)
  parts true false true = (refl, omega arith, omega arith)
  parts true false false = (refl, omega arith, omega arith)

  module _ (k : SymbolKey) (t : ℕ) where
    went_is : of_keys keys (went moved) k t ≡ one_if (has_key keys k && (alike.had t && not (alike.has t)))
    went_is = amount (went moved) (λ t. alike.had t && not (alike.has t)) alike.moves.gone k t

    came_is : of_keys keys (came moved) k t ≡ one_if (has_key keys k && (alike.has t && not (alike.had t)))
    came_is = amount (came moved) (λ t. alike.has t && not (alike.had t)) alike.moves.come k t

    was_is : one_if (gives_to among head was (k, t)) ≡ one_if (has_key keys k && alike.had t)
    was_is = ap one_if (of-keys was alike.had alike.were k t)

    is_is : one_if (gives_to among head is (k, t)) ≡ one_if (has_key keys k && alike.has t)
    is_is = ap one_if (of-keys is alike.has alike.are k t)

    -- what goes has counters
    pub keys-above : (count : ℕ) → one_if (gives_to among head was (k, t)) ≤ count → of_keys keys (went moved) k t ≤ count
    keys-above count counted = let (sum, less, more) = parts (has_key keys k) (alike.had t) (alike.has t) in omega (arith, counted, went_is, was_is, less)

    pub keys-now : (before after : ℕ) → after + of_keys keys (went moved) k t ≡ before + of_keys keys (came moved) k t
        → after + one_if (gives_to among head was (k, t)) ≡ before + one_if (gives_to among head is (k, t))
    keys-now before after step = let (sum, less, more) = parts (has_key keys k) (alike.had t) (alike.has t) in omega (arith, step, went_is, came_is, was_is, is_is, sum)

    pub keys-bounded : (before after : ℕ) → after ≤ before + of_keys keys (came moved) k t → after ≤ before + one_if (gives_to among head is (k, t))
    keys-bounded before after step = let (sum, less, more) = parts (has_key keys k) (alike.had t) (alike.has t) in omega (arith, step, came_is, is_is, more)

  -- how many move
  pub keys-rise : (n : ℕ) → n ≡ min (length keys * ones_of moved) (2 ^ 128 - 1) → RisesBy (moves_to among head was is) 0 n
  keys-rise n sum =
      rises-more (λ (p : SymbolKey × ℕ). false) (moves_to among head was is) (moves_to among head was is) (λ p. zero-add (one_if (moves_to among head was is p))) 0 0 (length keys * ones_of moved) n
      (rises-none (λ (p : SymbolKey × ℕ). false) 0 (λ p. refl))
      (rises-same (λ (p : SymbolKey × ℕ). has_key keys p.0 && differs (alike.had p.1) (alike.has p.1)) (moves_to among head was is) 0 (length keys * ones_of moved)
      (λ p. split (has_key keys p.0) (alike.had p.1) (alike.has p.1) ∙ sym (λ i. differs (of-keys was alike.had alike.were p.0 p.1 i) (of-keys is alike.has alike.are p.0 p.1 i)))
      (rises-keys (λ t. differs (alike.had t) (alike.has t)) (ones_of moved) alike.moves.ones keys alike.of.distinct)) (omega (arith, sum))

-- the counters of keys of some sources of a group that have the same targets
module _ {A : Type 0} (among : ℕ → Bool) (group : Group A) (lines : Keyed) (keys : List SymbolKey) (moved : List Moved) (alike : AreAlike among group.head keys moved group.was.now group.is.now) where
  pub alike-can_move : CountAtLeast lines (ones (had_by among group)) → CanMove lines keys moved
  alike-can_move counted = record {
    distinct = alike.of.distinct;
    words = alike.moves.words;
    counted = λ k t. keys-above among group.head keys moved group.was.now group.is.now alike k t _ (counted k t);
  }

  pub alike-shifted : {E : Type 0} (after : Keyed) (result : Result ℕ E) → (group.for_good ≡ true → steps_in after ≡ 0) → OnOk result (AreMoved lines after (of_keys keys (went moved)) (of_keys keys (came moved)))
      → RiseAtMost lines after (of_keys keys (came moved)) → (group.for_good ≡ false → StaysBefore lines after) → IfOk result (λ n. n ≡ min (length keys * ones_of moved) (2 ^ 128 - 1)) → AreShifted among group lines after result
  alike-shifted after result settled now bounded before sum = record {
    settled = settled;
    now = IfOk-weaker result _ _ (λ _ step k t. keys-now among group.head keys moved group.was.now group.is.now alike k t _ _ (step k t)) now;
    bounded = λ k t. keys-bounded among group.head keys moved group.was.now group.is.now alike k t _ _ (bounded k t);
    before = before;
    moved = IfOk-weaker result _ _ (λ n. keys-rise among group.head keys moved group.was.now group.is.now alike n) sum;
  }

-- where memory runs out before anything moved
pub unshifted : {A E : Type 0} (among : ℕ → Bool) (group : Group A) (lines : Keyed) (result : Result ℕ E) → IsErr result → (group.for_good ≡ true → steps_in lines ≡ 0) → AreShifted among group lines lines result
unshifted among group lines result none settled = record {
  settled = settled;
  now = IfOk-from_err result _ none;
  bounded = λ k t. omega arith;
  before = λ _ k t. refl;
  moved = IfOk-from_err result _ none;
}

-- ---- what stays

-- where some sources have what they had nothing moves
module _ {A : Type 0} (among : ℕ → Bool) (head : RuleHead) (was is : Targets A) (same : (k : SymbolKey) (t : ℕ) → gives_to among head was (k, t) ≡ gives_to among head is (k, t)) where
  pub none-moves : RisesBy (moves_to among head was is) 0 0
  none-moves = rises-none (moves_to among head was is) 0 (λ p. ap (λ b. differs b (gives_to among head is p)) (same p.0 p.1) ∙ itself (gives_to among head is p))
    where
      itself : (b : Bool) → differs b b ≡ false
      itself true = refl
      itself false = refl

still-shifted : {A E : Type 0} (among : ℕ → Bool) (group : Group A) (lines : Keyed) → (group.for_good ≡ true → steps_in lines ≡ 0)
    → ((k : SymbolKey) (t : ℕ) → gives_to among group.head group.was.now (k, t) ≡ gives_to among group.head group.is.now (k, t)) → AreShifted {E = E} among group lines lines (Ok 0)
still-shifted among group lines settled same = record {
  settled = settled;
  now = λ k t. ap (λ b. count_now lines k t + one_if b) (same k t);
  bounded = λ k t. omega arith;
  before = λ _ k t. refl;
  moved = none-moves among group.head group.was.now group.is.now same;
}

-- so where the targets are the same
pub same-shifted : {A E : Type 0} (among : ℕ → Bool) (group : Group A) (lines : Keyed) → (group.for_good ≡ true → steps_in lines ≡ 0) → ((s t : ℕ) → takes group.was.now s t ≡ takes group.is.now s t)
    → AreShifted {E = E} among group lines lines (Ok 0)
same-shifted among group lines settled same = still-shifted among group lines settled (λ k t. ap (λ b. (among k.source && b) && has_head group.head k) (same k.source t))

-- ---- source by source

module _ {A : Type 0} (among : ℕ → Bool) (head : RuleHead) where
  pub idle : (targets : Targets A) (k : SymbolKey) (t : ℕ) → among k.source ≡ false → gives_to among head targets (k, t) ≡ false
  idle targets k t none = ap (λ b. (b && takes targets k.source t) && has_head head k) none

  -- the targets of one of them
  pub at-source : (targets : Targets A) (source : ℕ) → among source ≡ true → (k : SymbolKey) (t : ℕ) → gives_to (nat_eq source) head targets (k, t) ≡ ((source == k.source) && gives_to among head targets (k, t))
  at-source targets source one k t =
      elim (cases_eq source k.source) [
        | inl same ↦
            ap (λ b. (b && takes targets k.source t) && has_head head k) (eq-eqb source k.source same ∙ sym one ∙ ap among same)
            ∙ sym (ap (λ b. b && gives_to among head targets (k, t)) (eq-eqb source k.source same))
        | inr other ↦
            ap (λ b. (b && takes targets k.source t) && has_head head k) (ne_eqb source k.source other)
            ∙ sym (ap (λ b. b && gives_to among head targets (k, t)) (ne_eqb source k.source other))
      ]

  module _ (was is : Targets A) where
    abbrev turns : SymbolKey × ℕ → Bool
    turns = moves_to among head was is

    -- the counters that move in the lines of the sources below one
    abbrev pub moves_below : ℕ → SymbolKey × ℕ → Bool
    moves_below from p = nat_lt p.0.source from && turns p

    still : (p : SymbolKey × ℕ) → among p.0.source ≡ false → turns p ≡ false
    still p none = λ i. differs (idle was p.0 p.1 none i) (idle is p.0 p.1 none i)

    pub same-given : (k : SymbolKey) (t : ℕ) → among k.source ≡ false → gives_to among head was (k, t) ≡ gives_to among head is (k, t)
    same-given k t none = idle was k t none ∙ sym (idle is k t none)

    pub below-new : RisesBy (moves_below 0) 0 0
    below-new = rises-none (moves_below 0) 0 (λ p. ap (λ b. b && turns p) (le-ltb p.0.source 0 (omega arith)))

    -- one source more
    pub below-more : (from source count here after : ℕ) → IsNext among from source → RisesBy (moves_below from) 0 count → RisesBy (moves_to (nat_eq source) head was is) 0 here
        → after ≡ min (count + here) (2 ^ 128 - 1) → RisesBy (moves_below (source + 1)) 0 after
    below-more from source count here after next =
        rises-more (moves_below from) (moves_to (nat_eq source) head was is) (moves_below (source + 1))
        (λ p. ap (λ b. one_if (moves_below from p) + one_if b) ((λ i. differs (at-source was source next.holds p.0 p.1 i) (at-source is source next.holds p.0 p.1 i)) ∙ sym (split (source == p.0.source) (gives_to among head was p) (gives_to among head is p)))
        ∙ source-more from source p.0.source (turns p) next.from_on (λ low high. still p (next.first p.0.source low high))) 0 count here after

    -- no source follows
    pub below-done : (from count : ℕ) → NoneFrom among from → RisesBy (moves_below from) 0 count → RisesBy turns 0 count
    below-done from count none =
        rises-same (moves_below from) turns 0 count
        (λ p. same-from_counts (moves_below from p) (turns p) (source-all from p.0.source (turns p) (λ past. still p (none p.0.source past))))

-- ---- no source

-- where there is no source nothing moves
pub idle-shifted : {A E : Type 0} (among : ℕ → Bool) (group : Group A) (lines : Keyed) → (group.for_good ≡ true → steps_in lines ≡ 0) → ((s : ℕ) → among s ≡ false) → AreShifted {E = E} among group lines lines (Ok 0)
idle-shifted among group lines settled none = still-shifted among group lines settled (λ k t. same-given among group.head group.was.now group.is.now k t (none k.source))
