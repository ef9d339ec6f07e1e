-- Lines are packed: the last ones go to where no place names one.
use Rattle.cil_keyed_lines.proofs.Common.{AreKeyed, List, Naming, State, SymbolKey, [], ap, arith, cases_eq, cases_lt, count_before, count_by, count_now, inl, inr, length, lines_in, name_before, name_now, now_in, slice_index, steps_in, sym, uses, ℕ, ◌<◌, ◌∙◌, ◌≡◌, ◌≢◌, ◌≤◌}
use Rattle.cil_keyed_lines.proofs.EndedLemmas.{settled_before}
use Rattle.cil_keyed_lines.proofs.KeyedLemmas.{count_same}
use Rattle.cil_keyed_lines.proofs.NameLemmas.{line_used, named_within, uses_none}
use Rattle.cil_keyed_lines.proofs.SharedLemmas.{all_counted, all_named}
use Rattle.cil_keyed_lines.specs.Packed.{AreFilled, IsNow}
use Rattle.cil_recorded.proofs.LogLemmas.{before_none}
use Rattle.std.proofs.lemmas.List.{get_or_past}

-- no line past these is told of
pub used_within : (n u : List ℕ) (lines : ℕ) → ((l : ℕ) → l ≢ 0 → slice_index u l ≡ uses n l) → ((p : ℕ) → slice_index n p ≢ 0 → slice_index n p < lines)
    → (l : ℕ) → l ≢ 0 → 0 < slice_index u l → l < lines
used_within n u lines counted within l some used = elim (cases_lt l lines) [
  | inl less ↦ less
  | inr past ↦ absurd (omega (arith, used, counted l some, uses_none n l (λ p _ is. omega (arith, within p (λ e. some (sym is ∙ e)), is, past))))
]

-- ---- the lines are packed

module _ (n n' u went_to : List ℕ) (s s' : State) (end : ℕ) (counted : (l : ℕ) → l ≢ 0 → slice_index u l ≡ uses n l) (some : 0 < end) (filled : AreFilled u went_to s s' end)
    (left : (p : ℕ) → slice_index n p < end → slice_index n' p ≡ slice_index n p)
    (gone : (p : ℕ) → end ≤ slice_index n p → slice_index n' p ≡ slice_index went_to (slice_index n p)) where
  -- a place names its line where that stands
  moved_to : (p : ℕ) → slice_index n p ≢ 0 → (slice_index n' p ≢ 0) × IsNow s s' (slice_index n p) (slice_index n' p)
  moved_to p named = elim (cases_lt (slice_index n p) end) [
    | inl below ↦
        let same = left p below in
        let (there, counts) = filled.left (slice_index n p) named (line_used n u counted p named) below in
        (omega (arith, same, named), (omega (arith, same, there), λ t. ap (λ l. count_now s' l t) same ∙ counts t))
    | inr past ↦
        let same = gone p past in
        let (to, (there, counts)) = filled.gone (slice_index n p) named (line_used n u counted p named) past in
        (omega (arith, same, to), (omega (arith, same, there), λ t. ap (λ l. count_now s' l t) same ∙ counts t))
  ]

  pub packed_now : (p t : ℕ) → count_now s' (slice_index n' p) t ≡ count_now s (slice_index n p) t
  packed_now p t = elim (cases_eq (slice_index n p) 0) [
    | inl none ↦
        ap (λ l. count_now s' l t) (left p (omega (arith, none, some)) ∙ none) ∙ filled.first t ∙ ap (λ l. count_now s l t) (sym none)
    | inr there ↦ (moved_to p there).1.1 t
  ]

-- the places name their lines where these stand
module _ (keys : List SymbolKey) (n n' : Naming) (s s' : State) (are : AreKeyed keys n s (length keys) (lines_in s)) (log : n.log ≡ []) (log' : n'.log ≡ []) (steps : steps_in s' ≡ 0)
    (len : length n'.named ≡ length n.named) (lines : lines_in s' ≤ n'.lines) (within : (p : ℕ) → name_now n' p ≢ 0 → name_now n' p < lines_in s')
    (named : (p : ℕ) → name_now n' p ≡ 0 → name_now n p ≡ 0) (now : (p t : ℕ) → now_in n' s' p t ≡ now_in n s p t) (first : (t : ℕ) → count_now s' 0 t ≡ count_now s 0 t) where
  counted : (p : ℕ) → p < length keys → (t : ℕ) × (0 < now_in n' s' p t)
  counted p less = let (t, above) = all_counted keys n s (length keys) (lines_in s) are log p less in (t, omega (arith, above, now p t))

  before : (l t : ℕ) → count_before s' l t ≡ count_now s' l t
  before l t = before_none s'.lines s'.log steps l t

  past : (p : ℕ) → name_before n' p ≢ 0 → name_before n' p < lines_in s'
  past p some = omega (arith, settled_before n' log' p, within p (λ e. some (settled_before n' log' p ∙ e)))

  pub shared_packed : AreKeyed keys n' s' (length keys) (lines_in s')
  shared_packed =
      record {
        distinct = are.distinct;
        len = len ∙ are.len;
        there = omega arith;
        lined = record {
          lines = lines;
          within = within;
          past = past;
          nothing = λ t. first t ∙ are.lined.nothing t;
          nothing_before = λ t. before 0 t ∙ first t ∙ are.lined.nothing t;
        };
        counted = λ p some. counted p (omega (arith, named_within n'.named p some, len, are.len));
        logged = λ p less none. absurd (all_named keys n s (length keys) (lines_in s) are log p (omega (arith, less, len, are.len)) (named p none));
        kept = record {
          came = λ p behind. settled_before n' log' p ∙ get_or_past n'.named p 0 (omega (arith, behind, len, are.len));
          within = past;
          there = omega arith;
          counted = λ p less.
              let (t, above) = counted p less in
              (t, omega (arith, above, before (name_before n' p) t, ap (λ l. count_now s' l t) (settled_before n' log' p)));
        };
      }

  pub counts_packed : (k : SymbolKey) (t : ℕ) → count_by (now_in n' s') keys k t ≡ count_by (now_in n s) keys k t
  counts_packed = count_same (now_in n s) (now_in n' s') keys now
