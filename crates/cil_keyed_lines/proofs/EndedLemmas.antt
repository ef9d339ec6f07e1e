-- Keys that name no line are taken out, and lines that no key names are cut off.
use Rattle.cil_keyed_lines.proofs.Common.{AreAmong, AreCounted, AreLines, ArePaired, AreKeyed, AreTaken, Bool, IsDistinct, IfSome, List, Naming, Option, Rename, State, SymbolKey, [], ap, arith, cases_eq, cases_lt, cond, count_before, count_by, count_now, false, has_place, index_of, inl, inr, is_key, length, lines_in, name_before, name_now, ne_eqb, now_in, refl, reverse, slice_get, slice_index, steps_in, suc, swap_remove, sym, take, true, true≢false, unnamed, zero, ℕ, ◌++◌, ◌+◌, ◌-◌, ◌<◌, ◌==◌, ◌||◌, ◌∙◌, ◌∷◌, ◌≡◌, ◌≢◌, ◌≤◌}
use Rattle.cil_keyed_lines.proofs.KeyedLemmas.{by_place}
use Rattle.cil_keyed_lines.proofs.EndLemmas.{among_taken, count_taken}
use Rattle.cil_recorded.proofs.LogLemmas.{before_none, count_past}
use Rattle.std.specs.List.{position_or_len}
use Rattle.std.specs.Prelude.{min, not}
use Rattle.std.proofs.lemmas.List.{get_or-take, get_or_past, length-take-le}
use Rattle.std.proofs.lemmas.List.Folds.{list_any-append}

-- ---- keys that are taken out

pub taken_none : (keys : List SymbolKey) (n : Naming) → AreTaken keys n keys n
taken_none keys n = record { among = λ key at. at; lines = refl; from = λ p _. (p, refl); counts = λ f _ k t. refl }

pub taken_both : (k0 k1 k2 : List SymbolKey) (n0 n1 n2 : Naming) → AreTaken k0 n0 k1 n1 → AreTaken k1 n1 k2 n2 → AreTaken k0 n0 k2 n2
taken_both k0 k1 k2 n0 n1 n2 first second =
    record {
      among = λ key at. first.among key (second.among key at);
      lines = second.lines ∙ first.lines;
      from = λ p some.
          let (q, here) = second.from p some in
          let (r, there) = first.from q (λ e. some (sym here ∙ e)) in
          (r, there ∙ here);
      counts = λ f none k t. second.counts f none k t ∙ first.counts f none k t;
    }

module _ (keys news : List SymbolKey) (n n' : Naming) (place : ℕ) (within : place < length keys) (o : Option SymbolKey) (is : o ≡ slice_get keys place)
    (out : IfSome o (λ r. news ≡ swap_remove keys place r)) (distinct : IsDistinct is_key keys) (distinct' : IsDistinct is_key news) (len : length n.named ≡ length keys)
    (len' : length n'.named + 1 ≡ length n.named) (lines : n'.lines ≡ n.lines) (none : name_now n place ≡ 0)
    (moved : place < length n'.named → name_now n' place ≡ name_now n (length n'.named)) (others : (p : ℕ) → p ≢ place → p < length n'.named → name_now n' p ≡ name_now n p) where
  long : length n'.named ≡ length keys - 1
  long = omega (arith, len, len')

  pub taken_out : AreTaken keys n news n'
  taken_out =
      record {
        among = among_taken keys news place within o is out;
        lines = lines;
        from = λ p some. elim (cases_lt p (length n'.named)) [
          | inl less ↦ elim (cases_eq p place) [
            | inl here ↦ (length n'.named, sym (ap (name_now n') here ∙ moved (omega (arith, less, here))))
            | inr apart ↦ (p, sym (others p apart less))
          ]
          | inr past ↦ absurd (some (get_or_past n'.named p 0 past))
        ];
        counts = λ f nothing k t.
            count_taken keys news place within o is out (λ p. f (name_now n p)) (λ p. f (name_now n' p)) distinct distinct' (λ u. ap (λ l. f l u) none ∙ nothing u)
            (λ u less. ap (λ l. f l u) (moved (omega (arith, less, long)) ∙ ap (name_now n) long))
            (λ l u apart less. ap (λ m. f m u) (others l apart (omega (arith, less, long)))) k t;
      }

-- a place that changed its line by no change but the newest is its place
pub has_less : (log left : List Rename) (r : Rename) (p : ℕ) → log ≡ left ++ r ∷ [] → has_place log p ≡ true → p ≢ r.place → has_place left p ≡ true
has_less log left r p is has apart = by (has_place left p) (sym (list_any-append (λ (x : Rename). x.place == p) left (r ∷ [])) ∙ ap (λ l. has_place l p) (sym is) ∙ has)
  where
    other : (r.place == p) ≡ false
    other = ne_eqb r.place p (λ e. apart (sym e))

    by : (b : Bool) → (b || ((r.place == p) || false)) ≡ true → b ≡ true
    by true e = refl
    by false e = absurd (true≢false (sym e ∙ ap (λ c. c || false) other))

-- ---- what is left once steps have ended

pub settled_before : (n : Naming) → n.log ≡ [] → (p : ℕ) → name_before n p ≡ name_now n p
settled_before n none p = ap (λ log. unnamed (reverse log) (slice_index n.named) p) none

index_take : (test : SymbolKey → Bool) (xs : List SymbolKey) (n : ℕ) → position_or_len test (take n xs) ≡ min n (position_or_len test xs)
index_take test [] zero = omega arith
index_take test [] (suc n) = omega arith
index_take test (x ∷ xs) zero = omega arith
index_take test (x ∷ xs) (suc n) = by (test x) (index_take test xs n)
  where
    by : (b : Bool) → position_or_len test (take n xs) ≡ min n (position_or_len test xs)
        → cond (not b) (1 + position_or_len test (take n xs)) 0 ≡ min (suc n) (cond (not b) (1 + position_or_len test xs) 0)
    by true more = omega arith
    by false more = omega (arith, more)

-- keys from a place on that count nothing are cut off
count_cut : (f g : ℕ → ℕ → ℕ) (keys : List SymbolKey) (places : ℕ) → places ≤ length keys → ((p t : ℕ) → places ≤ p → f p t ≡ 0) → ((p t : ℕ) → g p t ≡ f p t)
    → (k : SymbolKey) (t : ℕ) → count_by g (take places keys) k t ≡ count_by f keys k t
count_cut f g keys places have past same k t =
    by_place g (take places keys) (λ p u behind. same p u ∙ past p u (omega (arith, behind, length-take-le places keys have))) k t
    ∙ same (index_of (take places keys) k) t ∙ ap (λ i. f i t) (index_take (is_key k) keys places) ∙ at (index_of keys k)
    ∙ sym (by_place f keys (λ p u behind. past p u (omega (arith, behind, have))) k t)
  where
    at : (i : ℕ) → f (min places i) t ≡ f i t
    at i = elim (cases_lt i places) [
      | inl less ↦ ap (λ j. f j t) (let e : min places i ≡ i = omega (arith, less) in e)
      | inr behind ↦ ap (λ j. f j t) (let e : min places i ≡ places = omega (arith, behind) in e) ∙ past places t (omega arith) ∙ sym (past i t behind)
    ]

module _ (keys keys' : List SymbolKey) (n n' : Naming) (s s' : State) (places end : ℕ) (paired : ArePaired keys n) (settled : steps_in s' ≡ 0) (lined : AreLines n s) (counted : AreCounted n s)
    (have : places ≤ length keys) (named : (p : ℕ) → p < places → name_now n p ≢ 0) (rest : (p : ℕ) → places ≤ p → name_now n p ≡ 0)
    (below : (p : ℕ) → name_now n p ≢ 0 → name_now n p < end) (cut : keys' ≡ take places keys) (lines : n'.lines ≡ min end n.lines) (log : n'.log ≡ [])
    (names : (p : ℕ) → name_now n' p ≡ name_now n p) (len : lines_in s' ≡ min end (lines_in s)) (now : (l t : ℕ) → l < end → count_now s' l t ≡ count_now s l t) where
  nothing : (t : ℕ) → count_now s' 0 t ≡ 0
  nothing t = elim (cases_lt 0 end) [
    | inl some ↦ now 0 t some ∙ lined.nothing t
    | inr none ↦ count_past s'.lines 0 t (omega (arith, none, len))
  ]

  now_cut : (p t : ℕ) → now_in n' s' p t ≡ now_in n s p t
  now_cut p t = elim (cases_eq (name_now n p) 0) [
    | inl none ↦ ap (λ l. count_now s' l t) (names p ∙ none) ∙ nothing t ∙ sym (ap (λ l. count_now s l t) none ∙ lined.nothing t)
    | inr some ↦ ap (λ l. count_now s' l t) (names p) ∙ now (name_now n p) t (below p some)
  ]

  before_cut : (l t : ℕ) → count_before s' l t ≡ count_now s' l t
  before_cut l t = before_none s'.lines s'.log settled l t

  pub shared_cut : IsDistinct is_key keys' → length n'.named ≡ places → AreKeyed keys' n' s' places (lines_in s')
  shared_cut distinct long =
      record {
        distinct = distinct;
        len = omega (arith, long, ap length cut, length-take-le places keys have);
        there = omega (arith, ap length cut, length-take-le places keys have);
        lined = record {
          lines = omega (arith, lines, len, lined.lines);
          within = within;
          past = λ p some. omega (arith, settled_before n' log p, within p (λ e. some (settled_before n' log p ∙ e)));
          nothing = nothing;
          nothing_before = λ t. before_cut 0 t ∙ nothing t;
        };
        counted = counted';
        logged = λ p less none. absurd (named p (omega (arith, less, long)) (sym (names p) ∙ none));
        kept = record {
          came = λ p past. settled_before n' log p ∙ names p ∙ rest p past;
          within = λ p some. omega (arith, settled_before n' log p, within p (λ e. some (settled_before n' log p ∙ e)));
          there = omega arith;
          counted = λ p less.
              let (t, above) = counted' p (λ e. named p less (sym (names p) ∙ e)) in
              (t, omega (arith, above, before_cut (name_before n' p) t, ap (λ l. count_now s' l t) (settled_before n' log p)));
        };
      }
    where
      within : (p : ℕ) → name_now n' p ≢ 0 → name_now n' p < lines_in s'
      within p some =
          let some' : name_now n p ≢ 0 = λ e. some (names p ∙ e) in
          omega (arith, names p, below p some', lined.within p some', len)

      counted' : AreCounted n' s'
      counted' p some =
          let (t, above) = counted p (λ e. some (names p ∙ e)) in
          (t, omega (arith, above, now_cut p t))

  pub counts_cut : (k : SymbolKey) (t : ℕ) → count_by (now_in n' s') keys' k t ≡ count_by (now_in n s) keys k t
  counts_cut k t =
      ap (λ l. count_by (now_in n' s') l k t) cut
      ∙ count_cut (now_in n s) (now_in n' s') keys places have (λ p u past. ap (λ l. count_now s l u) (rest p past) ∙ lined.nothing u) now_cut k t

-- the keys that are left are among them
pub among_take : (keys : List SymbolKey) (n : ℕ) → n ≤ length keys → AreAmong (take n keys) keys
among_take keys n have key (i, bound, at) =
    let less : i < n = omega (arith, bound, length-take-le n keys have) in
    (i, omega (arith, less, have), sym (get_or-take n keys i key less) ∙ at)
