-- The lines that places name, how many places name each, and the log of the changes.
use Rattle.cil_keyed_lines.proofs.Common.{AreNames, IsOf, Rename, has_place, named_back, one_if, unnamed, uses, Bool, List, [], ap, arith, drop, eq-eqb, false, get_or, if◌then◌else◌, inl, inr, length, refl, reverse, set, slice_index, subst, suc, sym, take, true, zero, ℕ, ◌++◌, ◌+◌, ◌<◌, ◌==◌, ◌||◌, ◌∙◌, ◌∷◌, ◌≡◌, ◌≢◌, ◌≤◌, ◌⊎◌, cases_eq, cases_lt, ne_eqb, All, swap_remove}
use Rattle.std.proofs.Math.ListN.{get_or-append}
use Rattle.std.proofs.Math.Seq.{get_or-append_seam}
use Rattle.std.proofs.lemmas.List.{get_or-drop, get_or-set_other, get_or-take, get_or_default, get_or_past, length-append, length-set, reverse-append}
use Rattle.std.proofs.lemmas.Grind.{get_or-set_at}
use Rattle.std.proofs.lemmas.List.Elements.{All-nil, All-push}
use Rattle.std.proofs.lemmas.List.Folds.{list_any-append}
use Rattle.std.proofs.lemmas.List.Sums.{get_or-le-sum_by, sum_by-append, sum_by-cons, sum_by-set, sum_by-swap_remove, sum_by-take-drop}

-- ---- how many places name a line

pub one_most : (b : Bool) → one_if b ≤ 1
one_most true = omega arith
one_most false = omega arith

pub one_same : (a b : ℕ) → a ≡ b → one_if (a == b) ≡ 1
one_same a b same = ap one_if (eq-eqb a b same)

pub one_other : (a b : ℕ) → a ≢ b → one_if (a == b) ≡ 0
one_other a b other = ap one_if (ne_eqb a b other)

pub uses_most : (named : List ℕ) (l : ℕ) → uses named l ≤ length named
uses_most [] l = omega arith
uses_most (x ∷ xs) l = omega (arith, uses_most xs l, one_most (x == l), sum_by-cons (λ n. one_if (n == l)) x xs)

pub uses_set : (named : List ℕ) (p l' l : ℕ) → p < length named → uses (set named p l') l + one_if (get_or named p 0 == l) ≡ uses named l + one_if (l' == l)
uses_set named p l' l within = sum_by-set (λ n. one_if (n == l)) named p l' 0 within

pub uses_some : (named : List ℕ) (p l : ℕ) → p < length named → get_or named p 0 ≡ l → 0 < uses named l
uses_some named p l within is = omega (arith, get_or-le-sum_by (λ n. one_if (n == l)) named p 0 within, one_same (get_or named p 0) l is)

pub uses_none : (named : List ℕ) (l : ℕ) → ((p : ℕ) → p < length named → get_or named p 0 ≢ l) → uses named l ≡ 0
uses_none [] l none = refl
uses_none (x ∷ xs) l none = omega (arith, sum_by-cons (λ n. one_if (n == l)) x xs, one_other x l (none 0 (omega arith)), uses_none xs l (λ p within. none (suc p) (omega (arith, within))))

-- a place that names a line but 0 is one that there is
pub named_within : (named : List ℕ) (p : ℕ) → get_or named p 0 ≢ 0 → p < length named
named_within named p some = elim (cases_lt p (length named)) [
  | inl less ↦ less
  | inr past ↦ absurd (some (get_or_past named p 0 past))
]

-- what is told of a line is told of one that there is
pub told_within : (users : List ℕ) (l : ℕ) → 0 < get_or users l 0 → l < length users
told_within users l some = elim (cases_lt l (length users)) [
  | inl less ↦ less
  | inr past ↦ absurd (omega (arith, some, get_or_past users l 0 past))
]

-- a line that a place names is one that there is
module _ (named users : List ℕ) (counted : (l : ℕ) → l ≢ 0 → get_or users l 0 ≡ uses named l) where
  pub line_used : (p : ℕ) → get_or named p 0 ≢ 0 → 0 < get_or users (get_or named p 0) 0
  line_used p some = omega (arith, counted (get_or named p 0) some, uses_some named p (get_or named p 0) (named_within named p some) refl)

  pub line_within : (p : ℕ) → get_or named p 0 ≢ 0 → get_or named p 0 < length users
  line_within p some = told_within users (get_or named p 0) (line_used p some)

  pub line_there : (p : ℕ) → (get_or named p 0 ≡ 0) ⊎ (get_or named p 0 < length users)
  line_there p = elim (cases_eq (get_or named p 0) 0) [
    | inl none ↦ inl none
    | inr some ↦ inr (line_within p some)
  ]

-- ---- the lines that places name

pub named_push : (named : List ℕ) (p : ℕ) → get_or (named ++ 0 ∷ []) p 0 ≡ get_or named p 0
named_push [] zero = refl
named_push [] (suc p) = refl
named_push (x ∷ xs) zero = refl
named_push (x ∷ xs) (suc p) = named_push xs p

pub named_set : (named : List ℕ) (i l p : ℕ) → i < length named → get_or (set named i l) p 0 ≡ (if p == i then l else get_or named p 0)
named_set named i l p within = elim (cases_eq p i) [
  | inl same ↦ get_or-set_at named i p l 0 same within ∙ sym (ap (λ b. if b then l else get_or named p 0) (eq-eqb p i same))
  | inr other ↦ get_or-set_other named i p l 0 other ∙ sym (ap (λ b. if b then l else get_or named p 0) (ne_eqb p i other))
]

-- ---- the log

pub newest : (log : List Rename) (r : Rename) → reverse (log ++ r ∷ []) ≡ r ∷ reverse log
newest log r = reverse-append log (r ∷ [])

pub same_names : (f g : ℕ → ℕ) → ((p : ℕ) → f p ≡ g p) → f ≡ g
same_names f g same = λ i p. same p i

-- a change that is logged leads back to the names before it
pub logged_back : (log : List Rename) (r : Rename) (f g : ℕ → ℕ) → ((p : ℕ) → named_back r g p ≡ f p) → (p : ℕ) → unnamed (reverse (log ++ r ∷ [])) g p ≡ unnamed (reverse log) f p
logged_back log r f g back p = rw newest (ap (λ h. unnamed (reverse log) h p) (same_names (named_back r g) f back))

pub has_last : (log : List Rename) (r : Rename) → has_place (log ++ r ∷ []) r.place ≡ true
has_last log r =
    list_any-append (λ (x : Rename). x.place == r.place) log (r ∷ [])
    ∙ ap (λ b. has_place log r.place || (b || false)) (eq-eqb r.place r.place refl) ∙ or_true (has_place log r.place)
  where
    or_true : (b : Bool) → (b || true) ≡ true
    or_true true = refl
    or_true false = refl

pub has_more : (log : List Rename) (r : Rename) (p : ℕ) → has_place log p ≡ true → has_place (log ++ r ∷ []) p ≡ true
has_more log r p has =
    list_any-append (λ (x : Rename). x.place == p) log (r ∷ []) ∙ ap (λ b. b || has_place (r ∷ []) p) has

pub changes_more : (a b a' b' : ℕ) (log : List Rename) → a ≤ a' → b ≤ b' → All (IsOf a b) log → All (IsOf a' b') log
changes_more a b a' b' log more more' all k d less = let (here, line) = all k d less in (omega (arith, here, more), by (get_or log k d) line)
  where
    by : (r : Rename) → (r.line ≡ 0) ⊎ (r.line < b) → (r.line ≡ 0) ⊎ (r.line < b')
    by r (inl none) = inl none
    by r (inr less) = inr (omega (arith, less, more'))

pub changes_push : (a b : ℕ) (log : List Rename) (r : Rename) → All (IsOf a b) log → IsOf a b r → All (IsOf a b) (log ++ r ∷ [])
changes_push a b log r all is = All-push (IsOf a b) log r all is

pub changes_left : (a b : ℕ) (log : List Rename) (r : Rename) → All (IsOf a b) (log ++ r ∷ []) → All (IsOf a b) log × IsOf a b r
changes_left a b log r all = (
  λ k d less. subst (IsOf a b) (get_or-append log (r ∷ []) d k less) (all k d (omega (arith, less, long))),
  subst (IsOf a b) (get_or-append_seam log r [] r) (all (length log) r (omega (arith, long))),
)
  where
    long : length (log ++ r ∷ []) ≡ length log + 1
    long = length-append log (r ∷ [])

-- ---- what functions keep

pub names_pushed : (named users : List ℕ) (log : List Rename) → AreNames named users log
    → AreNames (named ++ 0 ∷ []) users (log ++ record { place = length named; line = 0 } ∷ [])
names_pushed named users log are =
    let more : length (named ++ 0 ∷ []) ≡ length named + 1 = length-append named (0 ∷ []) in
    record {
      counted = λ l some. omega (arith, are.counted l some, sum_by-append (λ n. one_if (n == l)) named (0 ∷ []), one_other 0 l (λ e. some (sym e)));
      changes =
          changes_push (length (named ++ 0 ∷ [])) (length users) log _
          (changes_more (length named) (length users) (length (named ++ 0 ∷ [])) (length users) log (omega (arith, more)) (omega arith) are.changes)
          (omega (arith, more), inl refl);
    }

pub names_lined : (named users : List ℕ) (log : List Rename) → AreNames named users log → AreNames named (users ++ 0 ∷ []) log
names_lined named users log are =
    record {
      counted = λ l some. named_push users l ∙ are.counted l some;
      changes =
          changes_more (length named) (length users) (length named) (length (users ++ 0 ∷ [])) log (omega arith)
          (omega (arith, length-append users (0 ∷ []))) are.changes;
    }

-- a place comes that names line 0
module _ (named named' : List ℕ) (log log' : List Rename) (place : ℕ) (last : place ≡ length named) (is : named' ≡ named ++ 0 ∷ []) (grown : log' ≡ log ++ record { place = place; line = 0 } ∷ []) where
  abbrev change : Rename
  change = record { place = place; line = 0 }

  pub now_pushed : (p : ℕ) → slice_index named' p ≡ slice_index named p
  now_pushed p = ap (λ ns. get_or ns p 0) is ∙ named_push named p

  pub before_pushed : (p : ℕ) → unnamed (reverse log') (slice_index named') p ≡ unnamed (reverse log) (slice_index named) p
  before_pushed p = ap (λ rs. unnamed (reverse rs) (slice_index named') p) grown ∙ logged_back log change (slice_index named) (slice_index named') back p
    where
      back : (q : ℕ) → (if q == place then 0 else get_or named' q 0) ≡ get_or named q 0
      back q = elim (cases_eq q place) [
        | inl here ↦ ap (λ b. if b then 0 else get_or named' q 0) (eq-eqb q place here) ∙ sym (get_or_past named q 0 (omega (arith, here, last)))
        | inr other ↦ ap (λ b. if b then 0 else get_or named' q 0) (ne_eqb q place other) ∙ now_pushed q
      ]

  pub logged_pushed : ((p : ℕ) → p < length named → slice_index named p ≡ 0 → has_place log p ≡ true)
      → (p : ℕ) → p < length named' → slice_index named' p ≡ 0 → has_place log' p ≡ true
  logged_pushed are p within none = ap (λ rs. has_place rs p) grown ∙ elim (cases_eq p place) [
    | inl here ↦ ap (has_place (log ++ change ∷ [])) here ∙ has_last log change
    | inr other ↦
        has_more log change p
        (are p (omega (arith, within, other, last, ap length is, length-append named (0 ∷ []))) (sym (now_pushed p) ∙ none))
  ]

pub before_renamed : (named : List ℕ) (log : List Rename) (place line : ℕ) → place < length named → (p : ℕ)
    → unnamed (reverse (log ++ record { place = place; line = get_or named place 0 } ∷ [])) (slice_index (set named place line)) p ≡ unnamed (reverse log) (slice_index named) p
before_renamed named log place line within = logged_back log (record { place = place; line = get_or named place 0 }) (slice_index named) (slice_index (set named place line)) back
  where
    back : (p : ℕ) → (if p == place then get_or named place 0 else get_or (set named place line) p 0) ≡ get_or named p 0
    back p = elim (cases_eq p place) [
      | inl same ↦ ap (λ b. if b then get_or named place 0 else get_or (set named place line) p 0) (eq-eqb p place same) ∙ ap (λ q. get_or named q 0) (sym same)
      | inr other ↦ ap (λ b. if b then get_or named place 0 else get_or (set named place line) p 0) (ne_eqb p place other) ∙ get_or-set_other named place p line 0 other
    ]

-- the lists are cut off
pub counted_cut : (named users : List ℕ) (places lines : ℕ) → ((l : ℕ) → l ≢ 0 → get_or users l 0 ≡ uses named l) → places ≤ length named
    → ((p : ℕ) → places ≤ p → get_or named p 0 ≡ 0) → ((p : ℕ) → get_or named p 0 ≢ 0 → get_or named p 0 < lines)
    → (l : ℕ) → l ≢ 0 → get_or (take lines users) l 0 ≡ uses (take places named) l
counted_cut named users places lines counted have none below l some =
    elim (cases_lt l lines) [
      | inl less ↦ omega (arith, get_or-take lines users l 0 less, counted l some, parts, rest)
      | inr past ↦
          let nobody : uses named l ≡ 0 = uses_none named l (λ p _ is. omega (arith, below p (λ e. some (sym is ∙ e)), is, past)) in
          omega (arith, beyond users lines l past, parts, nobody)
    ]
  where
    parts : uses (take places named) l + uses (drop places named) l ≡ uses named l
    parts = sum_by-take-drop (λ n. one_if (n == l)) named places

    rest : uses (drop places named) l ≡ 0
    rest = uses_none (drop places named) l (λ p _ is. some (sym is ∙ get_or-drop places named p 0 ∙ none (places + p) (omega arith)))

    beyond : (xs : List ℕ) (n i : ℕ) → n ≤ i → get_or (take n xs) i 0 ≡ 0
    beyond [] zero i past = refl
    beyond [] (suc n) i past = refl
    beyond (x ∷ xs) zero i past = refl
    beyond (x ∷ xs) (suc n) zero past = absurd (omega (arith, past))
    beyond (x ∷ xs) (suc n) (suc i) past = beyond xs n i (omega (arith, past))

pub names_cut : (named users : List ℕ) (log : List Rename) (places lines : ℕ) → AreNames named users log → log ≡ [] → places ≤ length named
    → ((p : ℕ) → places ≤ p → get_or named p 0 ≡ 0) → ((p : ℕ) → get_or named p 0 ≢ 0 → get_or named p 0 < lines)
    → AreNames (take places named) (take lines users) log
names_cut named users log places lines are settled have none below =
    record {
      counted = counted_cut named users places lines are.counted have none below;
      changes = subst (All (IsOf (length (take places named)) (length (take lines users)))) (sym settled) (All-nil _);
    }

pub names_taken : (named users : List ℕ) (log : List Rename) (place r : ℕ) → AreNames named users log → log ≡ [] → place < length named → get_or named place 0 ≡ 0
    → r ≡ get_or named place r → AreNames (swap_remove named place r) users log
names_taken named users log place r are settled within none is =
    record {
      counted = λ l some.
          omega (
            arith,
            are.counted l some,
            sum_by-swap_remove (λ n. one_if (n == l)) named place r within,
            one_other (get_or named place r) l (λ e. some (sym e ∙ get_or_default named place r 0 within ∙ none)),
          );
      changes = subst (All (IsOf (length (swap_remove named place r)) (length users))) (sym settled) (All-nil _);
    }

-- a place names another line
module _ (named users named' users' : List ℕ) (place line : ℕ) (within : place < length named) (is : named' ≡ set named place line) (len : length users' ≡ length users) where
  same_len : length named' ≡ length named
  same_len = ap length is ∙ length-set named place line

  pub names_renamed : (log log' : List Rename) → AreNames named users log → ((l : ℕ) → l ≢ 0 → slice_index users' l ≡ uses named' l)
      → log' ≡ log ++ record { place = place; line = get_or named place 0 } ∷ [] → AreNames named' users' log'
  names_renamed log log' are counted grown =
      record {
        counted = counted;
        changes =
            subst (All (IsOf (length named') (length users'))) (sym grown)
            (changes_push (length named') (length users') log _
            (changes_more (length named) (length users) (length named') (length users') log (omega (arith, same_len)) (omega (arith, len)) are.changes)
            (omega (arith, within, same_len), there (line_there named users are.counted place)));
      }
    where
      there : (get_or named place 0 ≡ 0) ⊎ (get_or named place 0 < length users) → (get_or named place 0 ≡ 0) ⊎ (get_or named place 0 < length users')
      there (inl none) = inl none
      there (inr less) = inr (omega (arith, less, len))

  -- the newest change is taken back
  pub names_back : (log left : List Rename) → AreNames named users log → log ≡ left ++ record { place = place; line = line } ∷ []
      → ((l : ℕ) → l ≢ 0 → slice_index users' l ≡ uses named' l) → AreNames named' users' left
  names_back log left are grown counted =
      record {
        counted = counted;
        changes =
            changes_more (length named) (length users) (length named') (length users') left (omega (arith, same_len)) (omega (arith, len))
            (changes_left (length named) (length users) left (record { place = place; line = line }) (subst (All (IsOf (length named) (length users))) grown are.changes)).0;
      }

  pub before_back : (log left : List Rename) → log ≡ left ++ record { place = place; line = line } ∷ [] → (p : ℕ)
      → unnamed (reverse left) (slice_index named') p ≡ unnamed (reverse log) (slice_index named) p
  before_back log left grown p =
      ap (λ h. unnamed (reverse left) h p) (same_names (slice_index named') (named_back (record { place = place; line = line }) (slice_index named)) (λ q. ap (λ ns. get_or ns q 0) is ∙ named_set named place line q within))
      ∙ ap (λ rs. unnamed rs (slice_index named) p) (sym (ap reverse grown ∙ newest left (record { place = place; line = line })))

-- what a log that is sound says of its newest change
module _ (named users : List ℕ) (log left : List Rename) (r : Rename) (are : AreNames named users log) (grown : log ≡ left ++ r ∷ []) where
  newest_is : IsOf (length named) (length users) r
  newest_is = (changes_left (length named) (length users) left r (subst (All (IsOf (length named) (length users))) grown are.changes)).1

  pub newest_place : r.place < length named
  newest_place = newest_is.0

  pub newest_line : r.line ≢ 0 → r.line < length users
  newest_line some = by newest_is.1
    where
      by : (r.line ≡ 0) ⊎ (r.line < length users) → r.line < length users
      by (inl none) = absurd (some none)
      by (inr less) = less
