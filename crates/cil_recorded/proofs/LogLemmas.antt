-- What a step does to the counters that its log leads back to.
use Rattle.cil_recorded.proofs.Common.{zero, suc, ◌≡◌, ◌≢◌, ℕ, ◌+◌, ◌-◌, ◌*◌, ◌/◌, ◌%◌, ◌^◌, ◌<◌, ◌≤◌, List, [], ◌∷◌, ◌++◌, length, set, reverse, Bool, true, false, MatchBool, if◌then◌else◌, min, count_ones, bit_and, refl, sym, ap, subst, ◌∙◌, arith, eq-eqb, inl, inr, le_of_eq, pow-suc, w64, cases_eq, ne_eqb, le-ltb, reverse-append, get_or-set_other, sum_by_push, bit_at_and, bit_at_not, bit_at-lt, bit_at_lowest, bit_at-suc, bit_at, bit_not, Counters, count_of, hit, IsPresence, IsSingle, Step, came_by, hit_at, taken_back, undone, went_by, CanTakeBack, CanUndo, count_in, limit_in, IsSound, sum_below, moved}
use Rattle.std.proofs.lemmas.Grind.{get_or-set_at}
use Rattle.std.proofs.Math.ListN.{get_or-eq_default}
use Rattle.std.specs.Int.Count.{ones, ones_step}
use Rattle.cil_lines.proofs.DigitLemmas.{no_bits}
use Rattle.cil_lines.proofs.LineLemmas.{nothing}
use Rattle.cil_lines.proofs.PlaceLemmas.{limit-some}
use Rattle.cil_lines.proofs.StepLemmas.{hit-here, hit-there, hit-none}
use Rattle.cil_lines.specs.Limit.{has_place, limit, limit_of, CanRaise, CanLower}

-- ---- targets of a line

pub hit_off : (line word mask l t : ℕ) → l ≢ line → hit_at line word mask l t ≡ 0
unfolding hit_at
hit_off line word mask l t other = ap (λ b. if b then hit word mask t else 0) (ne_eqb l line other)

pub hit_in : (line word mask l t : ℕ) → l ≡ line → hit_at line word mask l t ≡ hit word mask t
unfolding hit_at
hit_in line word mask l t same = ap (λ b. if b then hit word mask t else 0) (eq-eqb l line same)

pub hit_on : (line word mask l t : ℕ) → l ≡ line → t / 64 ≡ word → hit_at line word mask l t ≡ bit_at mask (t % 64)
hit_on line word mask l t same place = hit_in line word mask l t same ∙ hit-here word mask t place

pub hit_out : (line word mask l t : ℕ) → t / 64 ≢ word → hit_at line word mask l t ≡ 0
hit_out line word mask l t other =
    elim (cases_eq l line) [
      | inl same ↦ hit_in line word mask l t same ∙ hit-there word mask t other
      | inr different ↦ hit_off line word mask l t different
    ]

-- what holds of bits of masks, and where they have none, holds of the targets that they hit
pub by_hit : (line word l t : ℕ) (P : (ℕ → ℕ) → Type 0) → (l ≡ line → t / 64 ≡ word → P (λ mask. bit_at mask (t % 64))) → P (λ mask. 0)
    → P (λ mask. hit_at line word mask l t)
by_hit line word l t P on off =
    elim (cases_eq l line) [
      | inl same ↦
          elim (cases_eq (t / 64) word) [
            | inl here ↦ subst P (λ i mask. sym (hit_on line word mask l t same here) i) (on same here)
            | inr there ↦ subst P (λ i mask. sym (hit_out line word mask l t there) i) off
          ]
      | inr other ↦ subst P (λ i mask. sym (hit_off line word mask l t other) i) off
    ]

pub hit_nothing : (line word l t : ℕ) → hit_at line word 0 l t ≡ 0
hit_nothing line word l t =
    elim (cases_eq l line) [
      | inl same ↦ hit_in line word 0 l t same ∙ hit-none word t
      | inr different ↦ hit_off line word 0 l t different
    ]

-- ---- logs

pub same_counts : (f g : ℕ → ℕ → ℕ) → ((l t : ℕ) → f l t ≡ g l t) → f ≡ g
same_counts f g same = λ i l t. same l t i

-- the newest step stands first
pub newest : (ss : List Step) (s : Step) → reverse (ss ++ s ∷ []) ≡ s ∷ reverse ss
newest ss s = reverse-append ss (s ∷ [])

raise_more : (f d d' : ℕ → ℕ) (word mask : ℕ) → ((w : ℕ) → d w ≤ d' w) → CanRaise f d word mask → CanRaise f d' word mask
raise_more f d d' word mask more can t one = omega (arith, can t one, more (t / 64))

-- more lines and higher limits take nothing from a log
can_more : (n n' : ℕ) (ss : List Step) (f d d' : ℕ → ℕ → ℕ) → n ≤ n' → ((l w : ℕ) → d l w ≤ d' l w) → CanUndo n ss f d → CanUndo n' ss f d'
can_more n n' [] f d d' le more can = tt
can_more n n' (s ∷ ss) f d d' le more can =
    let way : MatchBool s.up (CanLower (f s.line) s.word s.mask) (CanRaise (f s.line) (d' s.line) s.word s.mask) = by s.up can.0.1 in
    ((omega (arith, can.0.0), way), can_more n n' ss (taken_back s f) d d' le more can.1)
  where
    by : (up : Bool) → MatchBool up (CanLower (f s.line) s.word s.mask) (CanRaise (f s.line) (d s.line) s.word s.mask)
        → MatchBool up (CanLower (f s.line) s.word s.mask) (CanRaise (f s.line) (d' s.line) s.word s.mask)
    by true h = h
    by false h = raise_more (f s.line) (d s.line) (d' s.line) s.word s.mask (more s.line) h

pub undone_same : (ss : List Step) (f f' : ℕ → ℕ → ℕ) → ((l t : ℕ) → f' l t ≡ f l t) → (l t : ℕ) → undone ss f' l t ≡ undone ss f l t
undone_same ss f f' same l t = ap (λ h. undone ss h l t) (same_counts f' f same)

-- ---- what turns a target

module _ (line word mask : ℕ) (f g : ℕ → ℕ → ℕ) where
  at_bit : (l t : ℕ) → l ≡ line → t / 64 ≡ word → f line (64 * word + t % 64) ≡ f l t
  at_bit l t same here = λ i. f (sym same i) (let place : 64 * word + t % 64 ≡ t = omega arith in place i)

  -- a step up turns the targets that were not present
  turns_up : (present : ℕ) → present < 2 ^ 64 → IsPresence (f line) word present → ((l t : ℕ) → g l t ≡ f l t + hit_at line word mask l t)
      → (l t : ℕ) → hit_at line word (bit_and mask (bit_not w64 present)) l t + min 1 (f l t) ≡ min 1 (g l t)
  turns_up present fits is rose l t =
      by_hit line word l t (λ hit. g l t ≡ f l t + hit mask → hit (bit_and mask (bit_not w64 present)) + min 1 (f l t) ≡ min 1 (g l t))
      (λ same here rises.
      let b = t % 64 in
      let within : b < 64 = omega arith in
      omega (arith, bit_at_and mask (bit_not w64 present) b, bit_at_not w64 present b fits within, is b within, at_bit l t same here, bit_at-lt mask b))
      (λ rises. omega arith) (rose l t)

  -- a step down turns the targets whose counters were 1
  turns_down : (single : ℕ) → IsSingle (f line) word single → ((l t : ℕ) → g l t + hit_at line word mask l t ≡ f l t)
      → (l t : ℕ) → hit_at line word (bit_and mask single) l t + min 1 (g l t) ≡ min 1 (f l t)
  turns_down single is fell l t =
      by_hit line word l t (λ hit. g l t + hit mask ≡ f l t → hit (bit_and mask single) + min 1 (g l t) ≡ min 1 (f l t))
      (λ same here falls.
      let b = t % 64 in
      let within : b < 64 = omega arith in
      omega (arith, bit_at_and mask single b, is b within, at_bit l t same here, bit_at-lt mask b))
      (λ falls. omega arith) (fell l t)

-- ---- a step is made, or taken back

module _ (s : Step) (f f' : ℕ → ℕ → ℕ) where
  pub took_up : s.up ≡ true → ((l t : ℕ) → f' l t + hit_at s.line s.word s.mask l t ≡ f l t) → f' ≡ taken_back s f
  took_up up fell = same_counts f' (taken_back s f) (λ l t. rw up (omega (arith, fell l t)))

  pub took_down : s.up ≡ false → ((l t : ℕ) → f' l t ≡ f l t + hit_at s.line s.word s.mask l t) → f' ≡ taken_back s f
  took_down down rose = same_counts f' (taken_back s f) (λ l t. rw down (rose l t))

  -- the newest step is taken back first
  pub before_step : f' ≡ taken_back s f → (log : List Step) (l t : ℕ) → undone (reverse (log ++ s ∷ [])) f l t ≡ undone (reverse log) f' l t
  before_step took log l t = rw newest (ap (λ h. undone (reverse log) h l t) (sym took))

-- a step up, and one down
abbrev pub up : ℕ → ℕ → ℕ → ℕ → Step
up line word mask turned = record { line = line; word = word; mask = mask; turned = turned; up = true; clears = false }

abbrev pub down : ℕ → ℕ → ℕ → ℕ → Bool → Step
down line word mask turned clears = record { line = line; word = word; mask = mask; turned = turned; up = false; clears = clears }

module _ (f f' : ℕ → ℕ → ℕ) (line word mask turned : ℕ) where
  pub back_up : ((l t : ℕ) → f' l t ≡ f l t + hit_at line word mask l t) → f ≡ taken_back (up line word mask turned) f'
  back_up rose = took_up (up line word mask turned) f' f refl (λ l t. sym (rose l t))

  pub back_down : (clears : Bool) → ((l t : ℕ) → f' l t + hit_at line word mask l t ≡ f l t) → f ≡ taken_back (down line word mask turned clears) f'
  back_down clears fell = took_down (down line word mask turned clears) f' f refl (λ l t. sym (fell l t))

-- ---- a log that was sound stays so

pub sound_settled : (lines : List Counters) → IsSound lines []
sound_settled lines = record { can = tt; turned = λ l t. omega arith }

module _ (lines lines' : List Counters) (log : List Step) (sound : IsSound lines log) (more : (l w : ℕ) → limit_in lines l w ≤ limit_in lines' l w) where
  can_still : length lines ≤ length lines' → CanUndo (length lines') (reverse log) (count_in lines) (limit_in lines')
  can_still longer = can_more (length lines) (length lines') (reverse log) (count_in lines) (limit_in lines) (limit_in lines') longer more sound.can

  pub sound_same : length lines ≤ length lines' → ((l t : ℕ) → count_in lines' l t ≡ count_in lines l t) → IsSound lines' log
  sound_same longer same =
      record {
        can = subst (λ h. CanUndo (length lines') (reverse log) h (limit_in lines')) (sym (same_counts (count_in lines') (count_in lines) same)) (can_still longer);
        turned = λ l t. omega (arith, sound.turned l t, same l t, undone_same (reverse log) (count_in lines) (count_in lines') same l t);
      }

  sound_step : (s : Step) → length lines' ≡ length lines → count_in lines ≡ taken_back s (count_in lines') → CanTakeBack (length lines') s (count_in lines') (limit_in lines')
      → ((l t : ℕ) → came_by s l t + min 1 (count_in lines l t) ≡ went_by s l t + min 1 (count_in lines' l t)) → IsSound lines' (log ++ s ∷ [])
  sound_step s len took can turns =
      record {
        can = rw newest (can, subst (λ h. CanUndo (length lines') (reverse log) h (limit_in lines')) took (can_still (le_of_eq (sym len))));
        turned = λ l t.
            omega (
              arith,
              sound.turned l t,
              before_step s (count_in lines') (count_in lines) took log l t,
              sum_by_push (λ s. came_by s l t) log s,
              sum_by_push (λ s. went_by s l t) log s,
              turns l t,
            );
      }

  module _ (line word mask : ℕ) (within : line < length lines) (len : length lines' ≡ length lines) where
    pub sound_up : (present : ℕ) → ((l t : ℕ) → count_in lines' l t ≡ count_in lines l t + hit_at line word mask l t) → present < 2 ^ 64 → IsPresence (count_in lines line) word present
        → IsSound lines' (log ++ up line word mask (bit_and mask (bit_not w64 present)) ∷ [])
    sound_up present rose fits is =
        let turned = bit_and mask (bit_not w64 present) in
        sound_step (up line word mask turned) len (back_up (count_in lines) (count_in lines') line word mask turned rose)
        (omega (arith, len, within), λ t. omega (arith, rose line t, hit_in line word mask line t refl))
        (λ l t. omega (arith, turns_up line word mask (count_in lines) (count_in lines') present fits is rose l t))

    pub sound_down : (single : ℕ) (clears : Bool) → ((l t : ℕ) → count_in lines' l t + hit_at line word mask l t ≡ count_in lines l t) → IsSingle (count_in lines line) word single
        → CanRaise (count_in lines' line) (limit_in lines' line) word mask → IsSound lines' (log ++ down line word mask (bit_and mask single) clears ∷ [])
    sound_down single clears fell is room =
        let turned = bit_and mask single in
        sound_step (down line word mask turned clears) len (back_down (count_in lines) (count_in lines') line word mask turned clears fell)
        (omega (arith, len, within), room)
        (λ l t. omega (arith, turns_down line word mask (count_in lines) (count_in lines') single is fell l t))

-- the rest of a log is that of the counters without the newest step
pub left_over : (n n' : ℕ) (log left : List Step) (s : Step) (f f' d d' before : ℕ → ℕ → ℕ) → n' ≡ n → log ≡ left ++ s ∷ [] → f' ≡ taken_back s f
    → ((l w : ℕ) → d l w ≤ d' l w) → CanUndo n (reverse log) f d → ((l t : ℕ) → undone (reverse log) f l t ≡ before l t)
    → CanUndo n' (reverse left) f' d' × ((l t : ℕ) → undone (reverse left) f' l t ≡ before l t)
left_over n n' log left s f f' d d' before len is took more can was =
    let split : reverse log ≡ s ∷ reverse left = ap reverse is ∙ newest left s in
    let can' = rw split at can in
    let was' = rw split at was in (
      rw took (can_more n n' (reverse left) (taken_back s f) d d' (le_of_eq (sym len)) more can'.1),
      λ l t. ap (λ h. undone (reverse left) h l t) took ∙ was' l t,
    )

-- ---- lines

-- a line that isn't there has no counter above 0
pub count_past : (lines : List Counters) (l t : ℕ) → length lines ≤ l → count_in lines l t ≡ 0
count_past lines l t past =
    ap (λ c. count_of c t) (get_or-eq_default lines (record { lowest = record { dense = []; sparse = [] }; higher = [] }) past) ∙ nothing (record { dense = []; sparse = [] }) no_bits t

-- a new line whose counters are all 0 leaves each counter
pub count_append : (lines : List Counters) (x : Counters) → ((t : ℕ) → count_of x t ≡ 0) → (l t : ℕ) → count_in (lines ++ x ∷ []) l t ≡ count_in lines l t
count_append [] x none zero t = none t ∙ sym (count_past [] 0 t (omega arith))
count_append [] x none (suc l) t = refl
count_append (y ∷ ys) x none zero t = refl
count_append (y ∷ ys) x none (suc l) t = count_append ys x none l t

no_place : (w : ℕ) → has_place (record { dense = []; sparse = [] }) w ≡ false
unfolding has_place
no_place w = ap (λ t. if t then true else false) (le-ltb w 0 (omega arith))

limit_none : (w : ℕ) → limit_of (record { lowest = record { dense = []; sparse = [] }; higher = [] }) w ≡ 1
unfolding limit_of limit
limit_none w = ap (λ t. if t then 2 else 1) (no_place w)

limit_pos : (c : Counters) (w : ℕ) → 0 < limit_of c w
unfolding limit_of
limit_pos c w = limit-some (c.lowest ∷ c.higher) w

pub limit_append : (lines : List Counters) (x : Counters) (l w : ℕ) → limit_in lines l w ≤ limit_in (lines ++ x ∷ []) l w
limit_append [] x zero w = omega (arith, limit_none w, limit_pos x w)
limit_append [] x (suc l) w = omega arith
limit_append (y ∷ ys) x zero w = omega arith
limit_append (y ∷ ys) x (suc l) w = limit_append ys x l w

longer : (lines : List Counters) (x : Counters) → length lines ≤ length (lines ++ x ∷ [])
longer [] x = omega arith
longer (y ∷ ys) x = omega (arith, longer ys x)

pub sound_append : (lines : List Counters) (x : Counters) (log : List Step) → ((t : ℕ) → count_of x t ≡ 0) → IsSound lines log → IsSound (lines ++ x ∷ []) log
sound_append lines x log none sound = sound_same lines (lines ++ x ∷ []) log sound (limit_append lines x) (longer lines x) (count_append lines x none)

pub before_none : (lines : List Counters) (log : List Step) → length log ≡ 0 → (l t : ℕ) → undone (reverse log) (count_in lines) l t ≡ count_in lines l t
before_none lines [] none l t = refl
before_none lines (s ∷ ss) none l t = absurd (omega arith)

-- one line changes
module _ (lines : List Counters) (line word mask : ℕ) (x : Counters) (within : line < length lines) where
  abbrev none : Counters
  none = record { lowest = record { dense = []; sparse = [] }; higher = [] }

  set_here : (l t : ℕ) → l ≡ line → count_in (set lines line x) l t ≡ count_of x t
  set_here l t same = ap (λ c. count_of c t) (get_or-set_at lines line l x none same within)

  set_other : (l t : ℕ) → l ≢ line → count_in (set lines line x) l t ≡ count_in lines l t
  set_other l t other = ap (λ c. count_of c t) (get_or-set_other lines line l x none other)

  at_line : (l t : ℕ) → l ≡ line → count_in lines l t ≡ count_in lines line t
  at_line l t same = ap (λ k. count_in lines k t) same

  -- the counters of a line that keeps its own
  pub set_kept : ((t : ℕ) → count_of x t ≡ count_in lines line t) → (l t : ℕ) → count_in (set lines line x) l t ≡ count_in lines l t
  set_kept same l t =
      elim (cases_eq l line) [
        | inl here ↦ set_here l t here ∙ same t ∙ sym (at_line l t here)
        | inr other ↦ set_other l t other
      ]

  pub set_raised : ((t : ℕ) → count_of x t ≡ count_in lines line t + hit word mask t) → (l t : ℕ) → count_in (set lines line x) l t ≡ count_in lines l t + hit_at line word mask l t
  set_raised rose l t =
      elim (cases_eq l line) [
        | inl same ↦ omega (arith, set_here l t same, at_line l t same, rose t, hit_in line word mask l t same)
        | inr other ↦ omega (arith, set_other l t other, hit_off line word mask l t other)
      ]

  pub set_lowered : ((t : ℕ) → count_of x t + hit word mask t ≡ count_in lines line t) → (l t : ℕ) → count_in (set lines line x) l t + hit_at line word mask l t ≡ count_in lines l t
  set_lowered fell l t =
      elim (cases_eq l line) [
        | inl same ↦ omega (arith, set_here l t same, at_line l t same, fell t, hit_in line word mask l t same)
        | inr other ↦ omega (arith, set_other l t other, hit_off line word mask l t other)
      ]

-- ---- as many counters as the mask has bits

sum_below-first : (k : ℕ) (f : ℕ → ℕ) → sum_below (suc k) f ≡ f 0 + sum_below k (λ i. f (suc i))
sum_below-first zero f = omega arith
sum_below-first (suc k) f = omega (arith, sum_below-first k f)

sum_below-same : (k : ℕ) (f g : ℕ → ℕ) → ((i : ℕ) → i < k → f i ≡ g i) → sum_below k f ≡ sum_below k g
sum_below-same zero f g same = refl
sum_below-same (suc k) f g same = omega (arith, sum_below-same k f g (λ i below. same i (omega arith)), same k (omega arith))

ones_below : (k n : ℕ) → n < 2 ^ k → count_ones n ≡ sum_below k (bit_at n)
unfolding ones
ones_below zero n small = ap count_ones (let e : n ≡ 0 = omega arith in e)
ones_below (suc k) n small =
    ones_step n
    ∙ omega (arith, ones_below k (n / 2) (omega (arith, pow-suc 2 k)), sum_below-first k (bit_at n), bit_at_lowest n, sum_below-same k (λ i. bit_at n (suc i)) (bit_at (n / 2)) (λ i _. bit_at-suc n i))

-- a step of a mask moves each counter of a word by its bit
moved_by : (old new : ℕ → ℕ) (word mask : ℕ) → mask < 2 ^ 64
    → ((b : ℕ) → b < 64 → (old (64 * word + b) - new (64 * word + b)) + (new (64 * word + b) - old (64 * word + b)) ≡ bit_at mask b) → count_ones mask ≡ moved old new word
unfolding moved
moved_by old new word mask fits by = ones_below 64 mask fits ∙ sum_below-same 64 (bit_at mask) _ (λ b within. sym (by b within))

module _ (line word mask : ℕ) (old new : ℕ → ℕ → ℕ) (fits : mask < 2 ^ 64) where
  own : (b : ℕ) → b < 64 → hit_at line word mask line (64 * word + b) ≡ bit_at mask b
  own b within =
      let place : (64 * word + b) / 64 ≡ word = omega arith in
      let bit : (64 * word + b) % 64 ≡ b = omega arith in
      hit_on line word mask line (64 * word + b) refl place ∙ ap (bit_at mask) bit

  pub moved_up : ((l t : ℕ) → new l t ≡ old l t + hit_at line word mask l t) → count_ones mask ≡ moved (old line) (new line) word
  moved_up rose = moved_by (old line) (new line) word mask fits (λ b within. omega (arith, rose line (64 * word + b), own b within))

  pub moved_down : ((l t : ℕ) → new l t + hit_at line word mask l t ≡ old l t) → count_ones mask ≡ moved (old line) (new line) word
  moved_down fell = moved_by (old line) (new line) word mask fits (λ b within. omega (arith, fell line (64 * word + b), own b within))

-- ---- lowered where present

-- targets that are present can be lowered
pub lower_present : (counts : ℕ → ℕ) (word mask present : ℕ) → IsPresence counts word present → bit_and present mask ≡ mask → CanLower counts word mask
lower_present counts word mask present is all t =
    let b = t % 64 in
    let within : b < 64 = omega arith in
    elim (cases_eq (t / 64) word) [
      | inl e ↦
          let place : 64 * word + b ≡ t = omega arith in
          omega (
            arith,
            hit-here word mask t e,
            is b within,
            ap counts place,
            bit_at_and present mask b,
            ap (λ n. bit_at n b) all,
            bit_at-lt mask b,
          )
      | inr n ↦ omega (arith, hit-there word mask t n)
    ]
