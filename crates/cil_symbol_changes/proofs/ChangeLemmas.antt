-- The accesses of the targets that appeared or went, change by change.
use Rattle.cil_symbol_changes.proofs.Common.{◌≡◌, ◌↔◌, ℕ, ◌+◌, ◌-◌, ◌++◌, ◌<◌, ◌≤◌, suc, List, [], ◌∷◌, Option, None, Some, MatchOption, length, map, min, position, slice_get, refl, sym, ap, subst, ◌∙◌, inl, inr, arith, sum_by, take, take_all, take_more, cases_eq, cases_lt, get_or_past, sum_by-cons, sum_by_more_le, same_Some, slice_get_within, AccessNumbers, Chunk, Keyed, IsLineOf, IsNoLine, NoneCounted, is_key, count_before, count_now, SymbolKey, hit, hit_at, Change, hit_in, hit_nothing, hit_off, AreGained, AreKnown, AreKnownIn, IsIn, IsTo, access_by, ArePresentNumbered, IsNew, AreAppeared, HasAppeared, IsAmong, LinePlace}
use Rattle.std.proofs.Common.{set}
use Rattle.std.proofs.lemmas.List.{get_or-set_other, length-set, map_push, take_more_set}
use Rattle.cil_keyed_lines.proofs.SharedLemmas.{line_of_key}
use Rattle.cil_recorded.specs.Differences.{appeared_at, gone_at}
use Rattle.cil_symbol_changes.specs.SourceOrder.{change_of}
use Rattle.cil_symbol_changes.proofs.GainedLemmas.{gained-alike, gained-none}
use Rattle.cil_symbol_changes.proofs.OrderLemmas.{among-at}

-- any change
abbrev no_change : Change
no_change = record { line = 0; word = 0; appeared = 0; gone = 0 }

-- where a sum over changes is above 0, it is so for one of them
one_of : (f : Change → ℕ) (changes : List Change) → 0 < sum_by f changes → (i : ℕ) × (i < length changes) × (0 < f (change_of changes i))
one_of f [] some = absurd (omega (arith, some))
one_of f (x ∷ xs) some =
    elim (cases_eq (f x) 0) [
      | inl none ↦ let (i, within, is) = one_of f xs (omega (arith, some, none, sum_by-cons f x xs)) in (suc i, omega (arith, within), is)
      | inr one ↦ (0, omega arith, omega (arith, one))
    ]

module _ (numbers : List ℕ) (lines : Keyed) where
  -- ---- one change

  module _ (line word mask : ℕ) where
    -- only the targets of the line stand there
    on-line : (place t : ℕ) → 0 < hit_at line word mask place t → place ≡ line
    on-line place t some = elim (cases_eq place line) [ inl same ↦ same | inr other ↦ let none = hit_off line word mask place t other in absurd (omega (arith, some, none)) ]

    pub known-word : (key : SymbolKey) → IsLineOf lines line key → AreKnownIn numbers lines (hit_at line word mask) → AreKnown numbers key (hit word mask)
    known-word key is known t some = known line key is t (subst (λ n. 0 < n) (sym (hit_in line word mask line t refl)) some)

    pub in-line : (key : SymbolKey) (old new : List Chunk) → IsLineOf lines line key → AreGained (IsTo numbers key (λ t. 0 < hit word mask t)) old new → AreGained (IsIn numbers lines (hit_at line word mask)) old new
    in-line key old new is gained = gained-alike (IsTo numbers key (λ t. 0 < hit word mask t)) (IsIn numbers lines (hit_at line word mask)) old new gained to from
      where
        to : (a : AccessNumbers) → IsTo numbers key (λ t. 0 < hit word mask t) a → IsIn numbers lines (hit_at line word mask) a
        to a told = record {
          place = line;
          key = key;
          line = is;
          target = told.target;
          among = subst (λ n. 0 < n) (sym (hit_in line word mask line told.target refl)) told.among;
          same = told.same;
        }

        from : (a : AccessNumbers) → IsIn numbers lines (hit_at line word mask) a → IsTo numbers key (λ t. 0 < hit word mask t) a
        from a told =
            let here = on-line told.place told.target told.among in
            let keys : told.key ≡ key = same_Some told.key key (sym told.line.at ∙ ap (slice_get lines.keys) here ∙ is.at) in
            record {
              target = told.target;
              among = subst (λ n. 0 < n) (hit_in line word mask told.place told.target here) told.among;
              same = told.same ∙ ap (λ k. access_by numbers k told.target) keys;
            }

    pub in-no_line : (old : List Chunk) → IsNoLine lines line → AreGained (IsIn numbers lines (hit_at line word mask)) old old
    in-no_line old none = gained-none (IsIn numbers lines (hit_at line word mask)) old by
      where
        by : (a : AccessNumbers) → IsIn numbers lines (hit_at line word mask) a → ⊥
        by a told =
            let here = on-line told.place told.target told.among in
            let within = slice_get_within lines.keys told.place told.key told.line.at in
            let behind = none.behind in
            omega (arith, here, within, behind)

  -- ---- changes in an order of their places

  module _ (changes : List Change) where
    past-changes : (place l t : ℕ) → length changes ≤ place → hit_at (change_of changes place).line (change_of changes place).word (change_of changes place).appeared l t ≡ 0
    past-changes place l t past = ap (λ d. hit_at d.line d.word d.appeared l t) (get_or_past changes place no_change past) ∙ hit_nothing 0 0 l t

    -- what holds of the targets in all changes holds of those in one
    pub known-one : (place : ℕ) → place < length changes → AreKnownIn numbers lines (appeared_at changes)
        → AreKnownIn numbers lines (hit_at (change_of changes place).line (change_of changes place).word (change_of changes place).appeared)
    known-one place within known l key line t some =
        known l key line t (let less = sum_by_more_le (λ d. hit_at d.line d.word d.appeared l t) changes place no_change within in omega (arith, some, less))

    pub in-no_change : (place : ℕ) (old : List Chunk) → length changes ≤ place → AreGained (HasAppeared numbers lines changes place) old old
    in-no_change place old past =
        gained-none (HasAppeared numbers lines changes place) old
        (λ a told. let some = told.among in let zero = past-changes place told.place told.target past in omega (arith, some, zero))

    pub in-all : (order : List LinePlace) (old new : List Chunk)
        → AreAppeared changes order → AreGained (IsAmong (HasAppeared numbers lines changes) order) old new
        → AreGained (IsIn numbers lines (appeared_at changes)) old new
    in-all order old new all gained =
        gained-alike (IsAmong (HasAppeared numbers lines changes) order) (IsIn numbers lines (appeared_at changes)) old new gained
        (λ a some. to a some.1.place some.4) from
      where
        to : (a : AccessNumbers) (place : ℕ) → HasAppeared numbers lines changes place a → IsIn numbers lines (appeared_at changes) a
        to a place told =
            let some = told.among in
            elim (cases_lt place (length changes)) [
              | inl within ↦
                  let less = sum_by_more_le (λ d. hit_at d.line d.word d.appeared told.place told.target) changes place no_change within in
                  record { place = told.place; key = told.key; line = told.line; target = told.target; among = omega (arith, some, less); same = told.same }
              | inr past ↦ let zero = past-changes place told.place told.target past in absurd (omega (arith, some, zero))
            ]

        from : (a : AccessNumbers) → IsIn numbers lines (appeared_at changes) a → IsAmong (HasAppeared numbers lines changes) order a
        from a told =
            let (i, within, some) = one_of (λ d. hit_at d.line d.word d.appeared told.place told.target) changes told.among in
            let d : Change = change_of changes i in
            among-at (HasAppeared numbers lines changes) order i a
            (all i within (λ none.
            let zero = ap (λ m. hit_at d.line d.word m told.place told.target) none ∙ hit_nothing d.line d.word told.place told.target in
            omega (arith, some, zero)))
            (record {
              place = told.place;
              key = told.key;
              line = told.line;
              target = told.target;
              among = some;
              same = told.same;
            })

  -- ---- all changes

  -- what the changes say of places is what the counters of keys are
  module _ (stands f g : ℕ → ℕ → ℕ) (was is : SymbolKey → ℕ → ℕ) (turned : (l t : ℕ) → stands l t ≡ min 1 (g l t) - min 1 (f l t))
      (at : (l : ℕ) (key : SymbolKey) → IsLineOf lines l key → (t : ℕ) → (f l t ≡ was key t) × (g l t ≡ is key t)) where
    turned-at : (l : ℕ) (key : SymbolKey) (t : ℕ) → IsLineOf lines l key → stands l t ≡ min 1 (is key t) - min 1 (was key t)
    turned-at l key t line = let (before, now) = at l key line t in turned l t ∙ ap (λ n. min 1 n - min 1 (f l t)) now ∙ ap (λ n. min 1 (is key t) - min 1 n) before

    pub known-turned : ArePresentNumbered numbers is → AreKnownIn numbers lines stands
    known-turned known l key line t some = let one = turned-at l key t line in known key t (omega (arith, some, one))

    pub in-new : ((key : SymbolKey) (t : ℕ) → 0 < is key t → (l : ℕ) × IsLineOf lines l key) → (a : AccessNumbers) → IsIn numbers lines stands a ↔ IsNew numbers was is a
    in-new find a = (to, from)
      where
        to : IsIn numbers lines stands a → IsNew numbers was is a
        to told =
            let some = told.among in
            let one = turned-at told.place told.key told.target told.line in
            record { key = told.key; target = told.target; absent = omega (arith, some, one); present = omega (arith, some, one); same = told.same }

        from : IsNew numbers was is a → IsIn numbers lines stands a
        from told =
            let (l, line) = find told.key told.target told.present in
            let one = turned-at l told.key told.target line in
            let absent = told.absent in
            let present = told.present in
            record { place = l; key = told.key; line = line; target = told.target; among = omega (arith, one, absent, present); same = told.same }

-- a key with a counter above 0 has a place
has-place : (lines : Keyed) (key : SymbolKey) → (NoneCounted lines key → ⊥) → (l : ℕ) × (position (is_key key) lines.keys ≡ Some l)
has-place lines key some = by (position (is_key key) lines.keys) refl (line_of_key lines key (position (is_key key) lines.keys) refl)
  where
    by : (o : Option ℕ) → position (is_key key) lines.keys ≡ o → MatchOption o (NoneCounted lines key) (λ l. IsLineOf lines l key) → (l : ℕ) × (position (is_key key) lines.keys ≡ Some l)
    by None at none = absurd (some none)
    by (Some l) at line = (l, at)

pub place-now : (lines : Keyed) (key : SymbolKey) (t : ℕ) → 0 < count_now lines key t → (l : ℕ) × (position (is_key key) lines.keys ≡ Some l)
place-now lines key t some = has-place lines key (λ none. let zero = (none t).0 in omega (arith, some, zero))

pub place-before : (lines : Keyed) (key : SymbolKey) (t : ℕ) → 0 < count_before lines key t → (l : ℕ) × (position (is_key key) lines.keys ≡ Some l)
place-before lines key t some = has-place lines key (λ none. let zero = (none t).1 in omega (arith, some, zero))

-- its line is there
pub line-led : (lines : Keyed) (l : ℕ) (key : SymbolKey) → position (is_key key) lines.keys ≡ Some l → IsLineOf lines l key
line-led lines l key leads = line_of_key lines key (Some l) (sym leads)

pub line-now : (lines : Keyed) (key : SymbolKey) (t : ℕ) → 0 < count_now lines key t → (l : ℕ) × IsLineOf lines l key
line-now lines key t some = let (l, leads) = place-now lines key t some in (l, line-led lines l key leads)

pub line-before : (lines : Keyed) (key : SymbolKey) (t : ℕ) → 0 < count_before lines key t → (l : ℕ) × IsLineOf lines l key
line-before lines key t some = let (l, leads) = place-before lines key t some in (l, line-led lines l key leads)

-- ---- changes turned round

-- a change the other way round
abbrev pub round : Change → Change
round d = record { line = d.line; word = d.word; appeared = d.gone; gone = d.appeared }

-- what appears in changes that are turned round is what went
pub appeared-round : (changes : List Change) (l t : ℕ) → appeared_at (map round changes) l t ≡ gone_at changes l t
appeared-round [] l t = refl
appeared-round (d ∷ ds) l t =
    sum_by-cons (λ x. hit_at x.line x.word x.appeared l t) (round d) (map round ds)
    ∙ ap (λ n. hit_at d.line d.word d.gone l t + n) (appeared-round ds l t)
    ∙ sym (sum_by-cons (λ x. hit_at x.line x.word x.gone l t) d ds)

-- The changes before a place are turned round, and the others not.
pub record AreTurned (old : List Change) (n : ℕ) (new : List Change) : Type 0 where
  pub len : length new ≡ length old
  pub front : take n new ≡ map round (take n old)
  pub rest : (k : ℕ) → n ≤ k → change_of new k ≡ change_of old k

pub turned-none : (old : List Change) → AreTurned old 0 old
turned-none old = record { len = refl; front = refl; rest = λ k behind. refl }

module _ (old : List Change) (n : ℕ) (new : List Change) (turned : AreTurned old n new) where
  pub turned-more : n < length new → AreTurned old (n + 1) (set new n (round (change_of new n)))
  turned-more within = record {
    len = length-set new n (round (change_of new n)) ∙ turned.len;
    front =
        take_more_set new n (round (change_of new n)) within
        ∙ (λ i. turned.front i ++ round (turned.rest n (omega arith) i) ∷ [])
        ∙ sym (map_push round (take n old) (change_of old n))
        ∙ ap (map round) (sym (take_more old n no_change (let len = turned.len in omega (arith, within, len))));
    rest = λ k behind. get_or-set_other new n k (round (change_of new n)) no_change (omega (arith, behind)) ∙ turned.rest k (omega (arith, behind));
  }

  pub turned-all : length new ≤ n → new ≡ map round old
  turned-all past =
      sym (take_all n new past) ∙ turned.front
      ∙ ap (map round) (take_all n old (let len = turned.len in omega (arith, past, len)))
