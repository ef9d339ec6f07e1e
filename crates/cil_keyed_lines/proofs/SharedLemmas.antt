-- The counters of keys, as the steps go on and end.
use Rattle.cil_keyed_lines.proofs.Common.{AreCounted, AreLines, AreKeyed, AreTaken, List, MatchOption, Naming, None, Option, Rename, Some, State, SymbolKey, [], ap, arith, before_in, cases_lt, count_before, count_by, count_now, get_or, has_key, has_place, inl, inr, is_key, length, lines_in, name_before, name_now, now_in, of_keys, one_if, position, slice_get, steps_in, subst, sym, true≢false, ℕ, ◌*◌, ◌+◌, ◌<◌, ◌∙◌, ◌∷◌, ◌≡◌, ◌≢◌, ◌≤◌, ◌⊎◌}
use Rattle.cil_keyed_lines.proofs.EndedLemmas.{settled_before}
use Rattle.cil_keyed_lines.proofs.KeyLemmas.{before_past, now_past, of_keys_times}
use Rattle.cil_keyed_lines.specs.Keyed.{AllCounted, IsNoLine, IsLineOf, NoneCounted, Keyed, before_at, now_at}
use Rattle.cil_keyed_lines.specs.Keyed as shared
use Rattle.cil_keyed_lines.proofs.KeyedLemmas.{count_absent, count_placed, count_same, key_placed, no_key, placed_at}
use Rattle.cil_recorded.proofs.LogLemmas.{before_none}
use Rattle.std.proofs.lemmas.Option.{none-some, slice_get-get_or}

-- ---- places

pub line_of_place : (s : Keyed) (a b i : ℕ) (o : Option SymbolKey) → AreKeyed s.keys s.names s.lines a b → o ≡ slice_get s.keys i → MatchOption o (IsNoLine s i) (IsLineOf s i)
line_of_place s a b i None are is =
    let behind : length s.keys ≤ i = by (cases_lt i (length s.keys)) in
    record { behind = behind; now = λ t. now_past s.keys s.names s.lines a b are i t behind; before = λ t. before_past s.keys s.names s.lines a b are i t behind }
  where
    by : (i < length s.keys) ⊎ (length s.keys ≤ i) → length s.keys ≤ i
    by (inl less) = absurd (none-some (get_or s.keys i no_key) (is ∙ slice_get-get_or s.keys i no_key less))
    by (inr behind) = behind
line_of_place s a b i (Some key) are is =
    let at = sym is in
    let place = placed_at s.keys i key are.distinct at in
    record { at = at; now = λ t. sym (count_placed (now_at s) s.keys key i t place); before = λ t. sym (count_placed (before_at s) s.keys key i t place) }

pub line_of_key : (s : Keyed) (key : SymbolKey) (o : Option ℕ) → o ≡ position (is_key key) s.keys → MatchOption o (NoneCounted s key) (λ i. IsLineOf s i key)
line_of_key s key None is = λ t. (count_absent (now_at s) s.keys key t (sym is), count_absent (before_at s) s.keys key t (sym is))
line_of_key s key (Some i) is =
    let at = sym is in
    record { at = key_placed s.keys key i at; now = λ t. sym (count_placed (now_at s) s.keys key i t at); before = λ t. sym (count_placed (before_at s) s.keys key i t at) }

-- ---- no step is left

module _ (keys : List SymbolKey) (n : Naming) (s : State) (a b : ℕ) (are : AreKeyed keys n s a b) (log : n.log ≡ []) where
  -- each key names a line that counts
  pub all_named : (p : ℕ) → p < length keys → name_now n p ≢ 0
  all_named p less none = true≢false (sym (are.logged p (omega (arith, less, are.len)) none) ∙ ap (λ l. has_place l p) log)

  pub all_counted : (i : ℕ) → i < length keys → (t : ℕ) × (0 < now_in n s i t)
  all_counted i less = are.counted i (all_named i less)

  pub same_before : steps_in s ≡ 0 → (k : SymbolKey) (t : ℕ) → count_by (before_in n s) keys k t ≡ count_by (now_in n s) keys k t
  same_before none =
      count_same (now_in n s) (before_in n s) keys (λ p t. ap (λ l. count_before s l t) (settled_before n log p) ∙ before_none s.lines s.log none (name_now n p) t)

no_items : (log : List Rename) → length log ≡ 0 → log ≡ []
no_items [] none = λ _. []
no_items (r ∷ rs) none = absurd (omega (arith, none))

-- nothing is pending
module _ (s : Keyed) (a b : ℕ) (are : AreKeyed s.keys s.names s.lines a b) (none : length s.names.log ≡ 0) where
  pub quiet_counted : AllCounted s
  quiet_counted = all_counted s.keys s.names s.lines a b are (no_items s.names.log none)

  pub quiet_before : steps_in s.lines ≡ 0 → (k : SymbolKey) (t : ℕ) → shared.count_before s k t ≡ shared.count_now s k t
  quiet_before steps = same_before s.keys s.names s.lines a b are (no_items s.names.log none) steps

-- ---- the steps end

-- lines of which no change can be taken back
settled_lines : (n : Naming) (s : State) → n.log ≡ [] → lines_in s ≤ n.lines → ((p : ℕ) → name_now n p ≢ 0 → name_now n p < lines_in s) → ((t : ℕ) → count_now s 0 t ≡ 0)
    → ((l t : ℕ) → count_before s l t ≡ count_now s l t) → AreLines n s
settled_lines n s log lines within none before = record {
  lines = lines;
  within = within;
  past = λ p some. omega (arith, settled_before n log p, within p (λ e. some (settled_before n log p ∙ e)));
  nothing = none;
  nothing_before = λ t. before 0 t ∙ none t;
}

-- before the steps
module _ (keys : List SymbolKey) (n n' : Naming) (s s' : State) (a b : ℕ) (are : AreKeyed keys n s a b) (names : (p : ℕ) → name_now n' p ≡ name_before n p)
    (now : (l t : ℕ) → count_now s' l t ≡ count_before s l t) where
  now_back : (p t : ℕ) → now_in n' s' p t ≡ before_in n s p t
  now_back p t = ap (λ l. count_now s' l t) (names p) ∙ now (name_before n p) t

  pub counts_back : (k : SymbolKey) (t : ℕ) → count_by (now_in n' s') keys k t ≡ count_by (before_in n s) keys k t
  counts_back = count_same (before_in n s) (now_in n' s') keys now_back

  pub named_back : (p : ℕ) → p < a → name_now n' p ≢ 0
  named_back p less none =
      let (t, above) = are.kept.counted p less in
      omega (arith, above, ap (λ l. count_before s l t) (sym (names p) ∙ none), are.lined.nothing_before t)

  pub rest_back : (p : ℕ) → a ≤ p → name_now n' p ≡ 0
  rest_back p past = names p ∙ are.kept.came p past

  pub counted_back : AreCounted n' s'
  counted_back p some = elim (cases_lt p a) [
    | inl less ↦ let (t, above) = are.kept.counted p less in (t, omega (arith, above, now_back p t))
    | inr past ↦ absurd (some (rest_back p past))
  ]

  pub lined_back : n'.log ≡ [] → n'.lines ≡ n.lines → lines_in s' ≡ lines_in s → ((l t : ℕ) → count_before s' l t ≡ count_now s' l t) → AreLines n' s'
  lined_back log lines len before =
      settled_lines n' s' log (omega (arith, lines, len, are.lined.lines)) (λ p some. omega (arith, names p, are.lined.past p (λ e. some (names p ∙ e)), len))
      (λ t. now 0 t ∙ are.lined.nothing_before t) before

-- the steps are kept, and keys that name no line are taken out
module _ (keys keys' : List SymbolKey) (n mid n' : Naming) (s s' : State) (a b : ℕ) (are : AreKeyed keys n s a b) (names : mid.named ≡ n.named) (taken : AreTaken keys mid keys' n')
    (now : (l t : ℕ) → count_now s' l t ≡ count_now s l t) where
  same_names : (p : ℕ) → name_now mid p ≡ name_now n p
  same_names p = ap (λ l. get_or l p 0) names

  from : (p : ℕ) → name_now n' p ≢ 0 → (q : ℕ) × (name_now n q ≡ name_now n' p)
  from p some = let (q, here) = taken.from p some in (q, sym (same_names q) ∙ here)

  pub counts_kept : (k : SymbolKey) (t : ℕ) → count_by (now_in n' s') keys' k t ≡ count_by (now_in n s) keys k t
  counts_kept k t =
      taken.counts (count_now s') (λ u. now 0 u ∙ are.lined.nothing u) k t
      ∙ count_same (now_in n s) (λ p. count_now s' (name_now mid p)) keys (λ p u. ap (λ l. count_now s' l u) (same_names p) ∙ now (name_now n p) u) k t

  pub counted_left : AreCounted n' s'
  counted_left p some =
      let (q, here) = from p some in
      let (t, above) = are.counted q (λ e. some (sym here ∙ e)) in
      (t, omega (arith, above, ap (λ l. count_now s l t) here, now (name_now n' p) t))

  pub lined_left : n'.log ≡ [] → n'.lines ≡ n.lines → lines_in s' ≡ lines_in s → ((l t : ℕ) → count_before s' l t ≡ count_now s' l t) → AreLines n' s'
  lined_left log lines len before = settled_lines n' s' log (omega (arith, lines, len, are.lined.lines)) within (λ t. now 0 t ∙ are.lined.nothing t) before
    where
      within : (p : ℕ) → name_now n' p ≢ 0 → name_now n' p < lines_in s'
      within p some =
          let (q, here) = from p some in
          omega (arith, here, are.lined.within q (λ e. some (sym here ∙ e)), len)

-- ---- a move of a list of keys

module _ (keys : List SymbolKey) (was is : ℕ → ℕ) (new old : SymbolKey → ℕ → ℕ) (m : SymbolKey → ℕ) (once : (k : SymbolKey) → m k ≡ one_if (has_key keys k)) where
  pub moved_keys : ((k : SymbolKey) (t : ℕ) → new k t + m k * was t ≡ old k t + m k * is t) → (k : SymbolKey) (t : ℕ) → new k t + of_keys keys was k t ≡ old k t + of_keys keys is k t
  moved_keys step k t =
      ap (λ x. new k t + x) (of_keys_times keys was k t (m k) (once k)) ∙ step k t ∙ ap (λ x. old k t + x) (sym (of_keys_times keys is k t (m k) (once k)))

  pub bounded_keys : ((k : SymbolKey) (t : ℕ) → new k t ≤ old k t + m k * is t) → (k : SymbolKey) (t : ℕ) → new k t ≤ old k t + of_keys keys is k t
  bounded_keys most k t = subst (λ x. new k t ≤ old k t + x) (sym (of_keys_times keys is k t (m k) (once k))) (most k t)

  pub above_keys : ((k : SymbolKey) (t : ℕ) → of_keys keys was k t ≤ old k t) → (k : SymbolKey) (t : ℕ) → m k * was t ≤ old k t
  above_keys above k t = subst (λ x. x ≤ old k t) (of_keys_times keys was k t (m k) (once k)) (above k t)

  -- nothing has moved yet
  pub bounded_none : ((k : SymbolKey) (t : ℕ) → new k t ≡ old k t) → (k : SymbolKey) (t : ℕ) → new k t ≤ old k t + of_keys keys is k t
  bounded_none same k t = omega (arith, same k t)
