-- Turns and changes in the order of their words.
use Rattle.cil_recorded.proofs.Common.{◌≡◌, ◌≢◌, ℕ, Bool, true, false, if◌then◌else◌, ◌+◌, ◌-◌, ◌*◌, ◌/◌, ◌%◌, ◌^◌, ◌<◌, ◌≤◌, List, [], ◌∷◌, ◌++◌, bit_xor, bit_and, min, refl, sym, arith, inl, inr, Result, Ok, Err, IfOk, cases_eq, sum_by-cons, bit_at_xor, bit_at_and, bit_at-lt, Turn, Ascends, alone_at, appeared_at, balance_at, gone_at, key_of, low_at, turn_key, came_by, came_in, hit_at, turned_by, turned_in, went_by, went_in, IsTurned, Step}
use Rattle.cil_recorded.proofs.LogLemmas.{by_hit, hit_off, hit_out}
use Rattle.cil_recorded.specs.declared.recorded_lines.changes.Change.{Change}

-- words of lines that differ have numbers that differ
pub key_is : (a b x y : ℕ) → x < 2 ^ 64 → y < 2 ^ 64 → key_of a x ≡ key_of b y → (a ≡ b) × (x ≡ y)
unfolding key_of
key_is a b x y p q e = (omega (arith, e), omega (arith, e))

-- the least number that may follow
abbrev pub next : {X : Type 0} → (X → ℕ) → ℕ → List X → ℕ
next key k [] = k
next key k (x ∷ xs) = next key (key x + 1) xs

module _ {X : Type 0} (key : X → ℕ) where
  pub ascends-push : (k : ℕ) (xs : List X) (y : X) → Ascends key k xs → next key k xs ≤ key y → Ascends key k (xs ++ y ∷ [])
  ascends-push k [] y up le = (le, tt)
  ascends-push k (x ∷ xs) y up le = (up.0, ascends-push (key x + 1) xs y up.1 le)

  pub next-push : (k : ℕ) (xs : List X) (y : X) → next key k (xs ++ y ∷ []) ≡ key y + 1
  next-push k [] y = refl
  next-push k (x ∷ xs) y = next-push (key x + 1) xs y

  pub ascends-less : (j k : ℕ) (xs : List X) → j ≤ k → Ascends key k xs → Ascends key j xs
  ascends-less j k [] le up = tt
  ascends-less j k (x ∷ xs) le up = (omega (arith, up.0), up.1)

-- a target is hit by turns of its own word alone
hit_key : (line word mask l t : ℕ) → key_of line word ≢ key_of l (t / 64) → hit_at line word mask l t ≡ 0
hit_key line word mask l t other =
    elim (cases_eq l line) [
      | inl e ↦
          elim (cases_eq (t / 64) word) [
            | inl e' ↦ absurd (other (λ i. key_of (sym e i) (sym e' i)))
            | inr n ↦ hit_out line word mask l t n
          ]
      | inr n ↦ hit_off line word mask l t n
    ]

-- the targets whose upper digit stands alone
abbrev pub alone : Turn → ℕ
alone s = bit_xor s.high (bit_and s.low s.high)

-- ---- the digits of one turn

module _ (line word low high l t : ℕ) where
  -- no target has both of these digits
  digits-once : hit_at line word low l t + hit_at line word (bit_xor high (bit_and low high)) l t ≤ 1
  digits-once =
      by_hit line word l t (λ hit. hit low + hit (bit_xor high (bit_and low high)) ≤ 1)
      (λ _ _. let b = t % 64 in omega (arith, bit_at_and low high b, bit_at_xor high (bit_and low high) b, bit_at-lt low b, bit_at-lt high b)) (omega arith)

  -- what appeared and what went is what has a lower digit
  pub digits-low : hit_at line word (bit_xor low (bit_and low high)) l t + hit_at line word (bit_and low high) l t ≡ hit_at line word low l t
  digits-low =
      by_hit line word l t (λ hit. hit (bit_xor low (bit_and low high)) + hit (bit_and low high) ≡ hit low)
      (λ _ _. let b = t % 64 in omega (arith, bit_at_and low high b, bit_at_xor low (bit_and low high) b, bit_at-lt low b, bit_at-lt high b)) (omega arith)

  -- what went has both digits
  pub digits-high : hit_at line word (bit_and low high) l t + hit_at line word (bit_xor high (bit_and low high)) l t ≡ hit_at line word high l t
  digits-high =
      by_hit line word l t (λ hit. hit (bit_and low high) + hit (bit_xor high (bit_and low high)) ≡ hit high)
      (λ _ _. let b = t % 64 in omega (arith, bit_at_and low high b, bit_at_xor high (bit_and low high) b, bit_at-lt low b, bit_at-lt high b)) (omega arith)

-- two turns of one word are one
pub two_turns : (line word x y a b l t : ℕ)
    → (hit_at line word (bit_xor x y) l t + 2 * hit_at line word (bit_xor (bit_xor a b) (bit_and x y)) l t) % 4
    ≡ (hit_at line word x l t + 2 * hit_at line word a l t + (hit_at line word y l t + 2 * hit_at line word b l t)) % 4
two_turns line word x y a b l t =
    by_hit line word l t (λ hit. (hit (bit_xor x y) + 2 * hit (bit_xor (bit_xor a b) (bit_and x y))) % 4 ≡ (hit x + 2 * hit a + (hit y + 2 * hit b)) % 4)
    (λ _ _.
    let n = t % 64 in
    omega (
      arith,
      bit_at_xor x y n,
      bit_at_xor a b n,
      bit_at_xor (bit_xor a b) (bit_and x y) n,
      bit_at_and x y n,
      bit_at-lt x n,
      bit_at-lt y n,
      bit_at-lt a n,
      bit_at-lt b n,
    ))
    (omega arith)

-- ---- turns whose numbers rise

none_below : (k : ℕ) (xs : List Turn) (l t : ℕ) → Ascends turn_key k xs → key_of l (t / 64) < k → low_at xs l t + alone_at xs l t ≡ 0
none_below k [] l t up lt = refl
none_below k (x ∷ xs) l t up lt =
    let other : turn_key x ≢ key_of l (t / 64) = λ e. omega (arith, up.0, e, lt) in
    omega (
      arith,
      sum_by-cons (λ s. hit_at s.line s.word s.low l t) x xs,
      sum_by-cons (λ s. hit_at s.line s.word (alone s) l t) x xs,
      hit_key x.line x.word x.low l t other,
      hit_key x.line x.word (alone x) l t other,
      none_below (turn_key x + 1) xs l t up.1 (omega (arith, up.0)),
    )

-- no target stands twice there
pub once : (k : ℕ) (xs : List Turn) (l t : ℕ) → Ascends turn_key k xs → low_at xs l t + alone_at xs l t ≤ 1
once k [] l t up = omega arith
once k (x ∷ xs) l t up =
    let low = sum_by-cons (λ s. hit_at s.line s.word s.low l t) x xs in
    let rest = sum_by-cons (λ s. hit_at s.line s.word (alone s) l t) x xs in
    elim (cases_eq (turn_key x) (key_of l (t / 64))) [
      | inl e ↦ omega (arith, low, rest, digits-once x.line x.word x.low x.high l t, none_below (turn_key x + 1) xs l t up.1 (omega (arith, e)))
      | inr n ↦
          omega (
            arith,
            low,
            rest,
            hit_key x.line x.word x.low l t n,
            hit_key x.line x.word (alone x) l t n,
            once (turn_key x + 1) xs l t up.1,
          )
    ]

-- modulo 4, one that went once is one that came three times
step-turned : (s : Step) (l t : ℕ) → turned_by s l t ≡ came_by s l t + 3 * went_by s l t
step-turned s l t = by s.up
  where
    here : ℕ
    here = hit_at s.line s.word s.turned l t

    by : (up : Bool) → (if up then here else 3 * here) ≡ (if up then here else 0) + 3 * (if up then 0 else here)
    by true = omega arith
    by false = omega arith

turned-sum : (ss : List Step) (l t : ℕ) → turned_in ss l t ≡ came_in ss l t + 3 * went_in ss l t
turned-sum [] l t = refl
turned-sum (s ∷ ss) l t =
    omega (
      arith,
      step-turned s l t,
      turned-sum ss l t,
      sum_by-cons (λ s. turned_by s l t) s ss,
      sum_by-cons (λ s. came_by s l t) s ss,
      sum_by-cons (λ s. went_by s l t) s ss,
    )

-- so the turns of steps and whether a target was present make whether it is, modulo 4
turned-modulo : (ss : List Step) (now before : ℕ → ℕ → ℕ) → IsTurned ss now before → (l t : ℕ) → (turned_in ss l t + min 1 (before l t)) % 4 ≡ min 1 (now l t)
turned-modulo ss now before turned l t = omega (arith, turned l t, turned-sum ss l t)

-- what came on the whole appeared, and what went is gone
pub came : (balance steps now before a g rest : ℕ) → balance ≡ a + 3 * g + 2 * rest → a + g + rest ≤ 1 → balance % 4 ≡ steps % 4 → (steps + min 1 before) % 4 ≡ min 1 now
    → (a ≡ min 1 now - min 1 before) × (g ≡ min 1 before - min 1 now)
came balance steps now before a g rest is few same turned = (omega (arith, is, few, same, turned), omega (arith, is, few, same, turned))

-- so it is of the changes of turns
pub split_changes : (ts : List Turn) (log : List Step) (now before : ℕ → ℕ → ℕ) → Ascends turn_key 0 ts → ((l t : ℕ) → balance_at ts l t % 4 ≡ turned_in log l t % 4) → IsTurned log now before
    → (cs : List Change) → ((l t : ℕ) → balance_at ts l t ≡ appeared_at cs l t + 3 * gone_at cs l t + 2 * alone_at ts l t) → ((l t : ℕ) → appeared_at cs l t + gone_at cs l t ≡ low_at ts l t)
    → (l t : ℕ) → (appeared_at cs l t ≡ min 1 (now l t) - min 1 (before l t)) × (gone_at cs l t ≡ min 1 (before l t) - min 1 (now l t))
split_changes ts log now before up same turned cs is low l t =
    came (balance_at ts l t) (turned_in log l t) (now l t) (before l t) (appeared_at cs l t) (gone_at cs l t) (alone_at ts l t) (is l t)
    (let few = once 0 ts l t up in omega (arith, low l t, few)) (same l t) (turned-modulo log now before turned l t)

pub IfOk-both : {T E : Type 0} {P Q R : T → Type 0} (r : Result T E) → ((x : T) → P x → Q x → R x) → IfOk r P → IfOk r Q → IfOk r R
IfOk-both (Ok x) f p q = f x p q
IfOk-both (Err e) f p q = tt

pub IfOk-map : {T E : Type 0} {P Q : T → Type 0} (r : Result T E) → ((x : T) → P x → Q x) → IfOk r P → IfOk r Q
IfOk-map (Ok x) f p = f x p
IfOk-map (Err e) f p = tt
