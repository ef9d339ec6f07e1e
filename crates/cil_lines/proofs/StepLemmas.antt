-- Steps of the counters of a word within their limits.
use Rattle.cil_lines.proofs.Common.{suc, ◌≡◌, ◌≢◌, ℕ, ◌+◌, ◌-◌, ◌*◌, ◌/◌, ◌%◌, ◌^◌, ◌<◌, ◌≤◌, List, [], ◌∷◌, length, get_or, get_or-eq_default, drop, set, min, refl, sym, ap, subst, ◌∙◌, arith, eq-eqb, if◌then◌else◌, bit_xor, bit_and, inl, inr, w64, cases_eq, cases_lt, ne_eqb, bit_at_xor, bit_at_and, bit_at_not, bit_at_above, bit_at-lt, bit_at-zero, bit_at, bit_not, Words, bits_of, HasPlace, Counters, value, count_of, hit, HasRoom, limit, limit_of, AreBelow, CanRaise, CanLower}
use Rattle.std.proofs.Math.Seq.{drop-cons}
use Rattle.std.proofs.lemmas.Nat.{and_le_l, and_le_r}
use Rattle.cil_lines.proofs.LineLemmas.{half_add, next_power, some_bit, turn_step}
use Rattle.cil_lines.proofs.PlaceLemmas.{limit-end, limit-some, limit-here, limit-more, place-limit}

-- ---- carries and room

-- what is carried into counters below the limit leaves them below it, where there is room
pub carry-below : (ds : List Words) (w c b : ℕ) → HasRoom ds w c → value ds w b < limit ds w → value ds w b + bit_at c b < limit ds w
carry-below [] w c b none below = omega (arith, limit-end w, ap (λ n. bit_at n b) none, bit_at-zero b)
carry-below (d ∷ ds) w c b (inl none) below = omega (arith, below, ap (λ n. bit_at n b) none, bit_at-zero b)
carry-below (d ∷ ds) w c b (inr room) below =
    let p = bits_of d w in
    let twice = limit-here d ds w room.0 in
    let next = carry-below ds w (bit_and c p) b room.1 (omega (arith, below, twice)) in
    omega (arith, below, twice, next, half_add p c b, bit_at-lt (bit_xor p c) b)

-- there is room for a carry where each counter that it raises stays below the limit
pub room-below : (ds : List Words) (w c : ℕ) → c < 2 ^ 64 → ((b : ℕ) → b < 64 → bit_at c b ≡ 1 → value ds w b + 1 < limit ds w) → HasRoom ds w c
room-below [] w c fits can =
    elim (cases_eq c 0) [
      | inl none ↦ none
      | inr some ↦ let bit = some_bit 64 c fits some in absurd (omega (arith, can bit.0 bit.1 bit.2, limit-end w))
    ]
room-below (d ∷ ds) w c fits can =
    elim (cases_eq c 0) [
      | inl none ↦ inl none
      | inr some ↦
          let bit = some_bit 64 c fits some in
          let more = can bit.0 bit.1 bit.2 in
          let place = place-limit d ds w (omega (arith, more)) in
          let p = bits_of d w in
          inr (
            place,
            room-below ds w (bit_and c p) (omega (arith, and_le_l c p, fits))
                (λ b within both. let parts : min (bit_at c b) (bit_at p b) ≡ 1 = sym (bit_at_and c p b) ∙ both in
                let one : bit_at c b ≡ 1 = omega (arith, parts, bit_at-lt c b, bit_at-lt p b) in
                let here = can b within one in
                omega (arith, here, parts, limit-here d ds w place)),
          )
    ]

-- ---- borrows

-- what a digit makes of a bit that is borrowed from it
pub half_subtract : (p c b : ℕ) → bit_at (bit_xor p c) b + bit_at c b ≡ bit_at p b + 2 * bit_at (bit_and c (bit_xor p c)) b
half_subtract p c b = omega (arith, bit_at_xor p c b, bit_at_and c (bit_xor p c) b, bit_at-lt p b, bit_at-lt c b)

-- a digit passes on what is borrowed past it, at twice the weight
pub subtract_step : (ds : List Words) (i w c b goal m : ℕ) (d e : Words) → i < length ds → bits_of e w ≡ bit_xor (bits_of (get_or ds i d) w) c
    → value ds w b + m ≡ goal + 2 ^ i * bit_at c b
    → value (set ds i e) w b + m ≡ goal + 2 ^ (i + 1) * bit_at (bit_and c (bit_xor (bits_of (get_or ds i d) w) c)) b
subtract_step ds i w c b goal m d e within turned before =
    let x = bit_xor (bits_of (get_or ds i d) w) c in
    rw (next_power i) (omega (arith, before, turn_step ds i w c b (bit_at c b) (2 * bit_at (bit_and c x) b) d e within turned (half_subtract (bits_of (get_or ds i d) w) c b)))

module _ (ds : List Words) (i w : ℕ) (d : Words) (within : i < length ds) where
  split : drop i ds ≡ get_or ds i d ∷ drop (suc i) ds
  split = drop-cons ds i d within

  -- a borrow that is left has a place in the digit that comes
  pub borrow-place : (c : ℕ) → c < 2 ^ 64 → c ≢ 0 → ((b : ℕ) → bit_at c b ≤ value (drop i ds) w b) → ((b : ℕ) → value (drop i ds) w b < limit (drop i ds) w)
      → HasPlace (get_or ds i d) w
  borrow-place c fits some above below =
      let bit = some_bit 64 c fits some in
      let set = bit.2 in
      let more : 1 < limit (drop i ds) w = omega (arith, above bit.0, below bit.0, set) in
      place-limit (get_or ds i d) (drop (suc i) ds) w (subst (λ l. 1 < limit l w) split more)

  pub borrow-below : HasPlace (get_or ds i d) w → (b : ℕ) → value (drop i ds) w b < limit (drop i ds) w → value (drop (suc i) ds) w b < limit (drop (suc i) ds) w
  borrow-below place b below =
      let here = subst (λ l. value l w b < limit l w) split below in
      omega (arith, here, limit-here (get_or ds i d) (drop (suc i) ds) w place)

  pub borrow-above : (c b : ℕ) → bit_at c b ≤ value (drop i ds) w b → bit_at (bit_and c (bit_xor (bits_of (get_or ds i d) w) c)) b ≤ value (drop (suc i) ds) w b
  borrow-above c b above =
      let p = bits_of (get_or ds i d) w in
      let here = subst (λ l. bit_at c b ≤ value l w b) split above in
      omega (arith, here, half_subtract p c b, bit_at_and c (bit_xor p c) b, bit_at-lt p b, bit_at-lt c b, bit_at-lt (bit_xor p c) b)

-- ---- targets of a word

pub hit-here : (word mask t : ℕ) → t / 64 ≡ word → hit word mask t ≡ bit_at mask (t % 64)
unfolding hit
hit-here word mask t e = ap (λ q. if q then bit_at mask (t % 64) else 0) (eq-eqb (t / 64) word e)

pub hit-there : (word mask t : ℕ) → t / 64 ≢ word → hit word mask t ≡ 0
unfolding hit
hit-there word mask t n = ap (λ q. if q then bit_at mask (t % 64) else 0) (ne_eqb (t / 64) word n)

pub hit-none : (word t : ℕ) → hit word 0 t ≡ 0
hit-none word t =
    elim (cases_eq (t / 64) word) [
      | inl e ↦ hit-here word 0 t e ∙ bit_at-zero (t % 64)
      | inr n ↦ hit-there word 0 t n
    ]

module _ (d : Words) (h : List Words) where
  abbrev line : Counters
  line = record { lowest = d; higher = h }

  count_value : (t : ℕ) → count_of line t ≡ value (d ∷ h) (t / 64) (t % 64)
  unfolding count_of
  count_value t = refl

  limit_value : (w : ℕ) → limit_of line w ≡ limit (d ∷ h) w
  unfolding limit_of
  limit_value w = refl

  below_at : AreBelow line → (w b : ℕ) → value (d ∷ h) w b < limit (d ∷ h) w
  unfolding AreBelow limit_of
  below_at below = below

  from_below : ((w b : ℕ) → value (d ∷ h) w b < limit (d ∷ h) w) → AreBelow line
  unfolding AreBelow limit_of
  from_below below = below

  pub count_below : AreBelow line → (t : ℕ) → count_of line t < limit_of line (t / 64)
  count_below below t = omega (arith, below_at below (t / 64) (t % 64), count_value t, limit_value (t / 64))

  pub nothing_below : ((w : ℕ) → bits_of d w ≡ 0) → h ≡ [] → AreBelow line
  nothing_below none empty =
      from_below (λ w b. let high = ap (λ l. value l w b) empty in
      let low = ap (λ n. bit_at n b) (none w) in
      omega (arith, high, low, bit_at-zero b, limit-some (d ∷ h) w))

  -- the counters of words are their bits, where no digit is higher
  pub ones_are : (l : List ℕ) → ((w : ℕ) → bits_of d w ≡ get_or l w 0) → h ≡ [] → (t : ℕ) → count_of line t ≡ bit_at (get_or l (t / 64) 0) (t % 64)
  ones_are l are empty t =
      let high = ap (λ r. value r (t / 64) (t % 64)) empty in
      let low = ap (λ n. bit_at n (t % 64)) (are (t / 64)) in
      omega (arith, count_value t, high, low)

  pub ones_below : (l : List ℕ) → ((w : ℕ) → bits_of d w ≡ get_or l w 0) → ((w : ℕ) → w < length l → HasPlace d w) → h ≡ [] → AreBelow line
  ones_below l are places empty =
      from_below (λ w b. let high = ap (λ r. value r w b) empty in
      let low = ap (λ n. bit_at n b) (are w) in
      elim (cases_lt w (length l)) [
        | inl within ↦ omega (arith, high, bit_at-lt (bits_of d w) b, limit-here d h w (places w within), limit-some h w)
        | inr past ↦ omega (arith, high, low, ap (λ n. bit_at n b) (get_or-eq_default l 0 past), bit_at-zero b, limit-some (d ∷ h) w)
      ])

  -- the counter of a bit of a word
  count_at : (word b : ℕ) → b < 64 → count_of line (64 * word + b) ≡ value (d ∷ h) word b
  count_at word b within =
      let place : (64 * word + b) / 64 ≡ word = omega arith in
      let bit : (64 * word + b) % 64 ≡ b = omega arith in
      count_value (64 * word + b) ∙ (λ i. value (d ∷ h) (place i) (bit i))

  hit_at : (word mask b : ℕ) → b < 64 → hit word mask (64 * word + b) ≡ bit_at mask b
  hit_at word mask b within =
      let place : (64 * word + b) / 64 ≡ word = omega arith in
      let bit : (64 * word + b) % 64 ≡ b = omega arith in
      hit-here word mask (64 * word + b) place ∙ ap (bit_at mask) bit

  -- ---- what a step asks for

  module _ (word mask : ℕ) where
    raise_at : CanRaise (count_of line) (limit_of line) word mask → (b : ℕ) → b < 64 → bit_at mask b ≡ 1 → value (d ∷ h) word b + 1 < limit (d ∷ h) word
    raise_at can b within one =
        let t = 64 * word + b in
        let place : t / 64 ≡ word = omega arith in
        let more = can t (hit_at word mask b within ∙ one) in
        omega (arith, more, count_at word b within, limit_value (t / 64), ap (limit (d ∷ h)) place)

    pub raise_place : mask < 2 ^ 64 → mask ≢ 0 → CanRaise (count_of line) (limit_of line) word mask → HasPlace d word
    raise_place fits some can =
        let bit = some_bit 64 mask fits some in
        place-limit d h word (omega (arith, raise_at can bit.0 bit.1 bit.2))

    pub raise_room : mask < 2 ^ 64 → mask ≢ 0 → CanRaise (count_of line) (limit_of line) word mask → HasRoom h word (bit_and (bits_of d word) mask)
    raise_room fits some can =
        let p = bits_of d word in
        let twice = limit-here d h word (raise_place fits some can) in
        room-below h word (bit_and p mask) (omega (arith, and_le_r p mask, fits))
        (λ b within both. let parts : min (bit_at p b) (bit_at mask b) ≡ 1 = sym (bit_at_and p mask b) ∙ both in
        let one : bit_at mask b ≡ 1 = omega (arith, parts, bit_at-lt mask b, bit_at-lt p b) in
        omega (arith, raise_at can b within one, parts, twice))

    lower_at : mask < 2 ^ 64 → CanLower (count_of line) word mask → (b : ℕ) → bit_at mask b ≤ value (d ∷ h) word b
    lower_at fits can b =
        elim (cases_lt b 64) [
          | inl within ↦ omega (arith, can (64 * word + b), hit_at word mask b within, count_at word b within)
          | inr past ↦ omega (arith, bit_at_above mask 64 b fits past)
        ]

    pub lower_place : mask < 2 ^ 64 → mask ≢ 0 → AreBelow line → CanLower (count_of line) word mask → HasPlace d word
    lower_place fits some below can =
        let bit = some_bit 64 mask fits some in
        let set = bit.2 in
        place-limit d h word (omega (arith, lower_at fits can bit.0, below_at below word bit.0, set))

    pub lower_above : mask < 2 ^ 64 → CanLower (count_of line) word mask → (b : ℕ) → bit_at (bit_and (bit_xor (bits_of d word) mask) mask) b ≤ value h word b
    lower_above fits can b =
        let p = bits_of d word in
        let x = bit_xor p mask in
        omega (arith, lower_at fits can b, bit_at_and x mask b, bit_at_xor p mask b, bit_at-lt p b, bit_at-lt mask b)

    pub lower_below : AreBelow line → HasPlace d word → (b : ℕ) → value h word b < limit h word
    lower_below below place b = omega (arith, below_at below word b, limit-here d h word place)

    -- room in each digit is room for each target
    pub room_now : (bits : ℕ) → AreBelow line → HasPlace d word → bits ≡ bits_of d word → HasRoom h word (bit_and bits mask)
        → CanRaise (count_of line) (limit_of line) word mask
    room_now bits below place is room t one =
        let b = t % 64 in
        elim (cases_eq (t / 64) word) [
          | inl e ↦
              let set : bit_at mask b ≡ 1 = sym (hit-here word mask t e) ∙ one in
              let was = below_at below word b in
              let twice = limit-here d h word place in
              let fits = carry-below h word (bit_and bits mask) b room (omega (arith, was, twice)) in
              let more : value (d ∷ h) word b + 1 < limit (d ∷ h) word = omega (arith, was, twice, fits, set, bit_at_and bits mask b, ap (λ n. bit_at n b) is, bit_at-lt bits b) in
              omega (arith, more, count_value t, limit_value (t / 64), ap (limit (d ∷ h)) e, ap (λ w. value (d ∷ h) w b) e)
          | inr n ↦ absurd (omega (arith, one, hit-there word mask t n))
        ]

-- ---- what a step leaves

-- a line, and what it is once its targets of a mask are lowered
pub record IsLowered (d d' : Words) (h h' : List Words) (word mask : ℕ) : Type 0 where
  pub below : AreBelow (line d' h')
  pub now : (t : ℕ) → count_of (line d' h') t + hit word mask t ≡ count_of (line d h) t
  pub limits : (w : ℕ) → limit_of (line d h) w ≤ limit_of (line d' h') w
  pub room : CanRaise (count_of (line d' h')) (limit_of (line d' h')) word mask

module _ (d d' : Words) (h h' : List Words) (kept : (w : ℕ) → HasPlace d w → HasPlace d' w) (more : (w : ℕ) → limit h w ≤ limit h' w) where
  pub limits_now : (w : ℕ) → limit_of (line d h) w ≤ limit_of (line d' h') w
  unfolding limit_of
  limits_now w = limit-more d d' h h' w (kept w) (more w)

  limits_at : (w : ℕ) → limit (d ∷ h) w ≤ limit (d' ∷ h') w
  limits_at w = limit-more d d' h h' w (kept w) (more w)

  pub same_below : AreBelow (line d h) → ((w : ℕ) → bits_of d' w ≡ bits_of d w) → ((w b : ℕ) → value h' w b ≡ value h w b) → AreBelow (line d' h')
  same_below below bits values =
      from_below d' h' (λ w b. omega (arith, below_at d h below w b, limits_at w, ap (λ x. bit_at x b) (bits w), values w b))

  module _ (word mask bits : ℕ) (is : bits ≡ bits_of d word) (turned : bits_of d' word ≡ bit_xor bits mask)
      (low_others : (w : ℕ) → w ≢ word → bits_of d' w ≡ bits_of d w) (high_others : (w b : ℕ) → w ≢ word → value h' w b ≡ value h w b) (below : AreBelow (line d h)) where
    other_at : (w b : ℕ) → w ≢ word → value (d' ∷ h') w b ≡ value (d ∷ h) w b
    other_at w b n = omega (arith, ap (λ x. bit_at x b) (low_others w n), high_others w b n)

    -- from the word and the others to all
    all_below : ((b : ℕ) → value (d' ∷ h') word b < limit (d' ∷ h') word) → AreBelow (line d' h')
    all_below here =
        from_below d' h' (λ w b. elim (cases_eq w word) [
          | inl e ↦ subst (λ v. value (d' ∷ h') v b < limit (d' ∷ h') v) (sym e) (here b)
          | inr n ↦ omega (arith, other_at w b n, below_at d h below w b, limits_at w)
        ])

    pub raised_below : HasPlace d word → HasRoom h word (bit_and bits mask) → ((b : ℕ) → value h' word b ≡ value h word b + bit_at (bit_and bits mask) b) → AreBelow (line d' h')
    raised_below place room sum =
        all_below (λ b. let was = below_at d h below word b in
        let twice = limit-here d h word place in
        let fits = carry-below h word (bit_and bits mask) b room (omega (arith, was, twice)) in
        omega (arith, fits, twice, sum b, limits_at word, bit_at-lt (bits_of d' word) b))

    module _ (difference : (b : ℕ) → value h' word b + bit_at (bit_and (bit_xor bits mask) mask) b ≡ value h word b) where
      lowered_at : (b : ℕ) → value (d' ∷ h') word b + bit_at mask b ≡ value (d ∷ h) word b
      lowered_at b =
          let x = bit_xor bits mask in
          omega (arith, difference b, ap (λ n. bit_at n b) turned, ap (λ n. bit_at n b) is, half_subtract bits mask b, bit_at_and mask x b, bit_at_and x mask b)

      lowered_now : (t : ℕ) → count_of (line d' h') t + hit word mask t ≡ count_of (line d h) t
      lowered_now t =
          let b = t % 64 in
          elim (cases_eq (t / 64) word) [
            | inl e ↦
                let new = ap (λ w. value (d' ∷ h') w b) e in
                let old = ap (λ w. value (d ∷ h) w b) e in
                omega (arith, count_value d' h' t, count_value d h t, new, old, lowered_at b, hit-here word mask t e)
            | inr n ↦ omega (arith, count_value d' h' t, count_value d h t, other_at (t / 64) b n, hit-there word mask t n)
          ]

      pub lowered : IsLowered d d' h h' word mask
      lowered = record {
        below = all_below (λ b. omega (arith, lowered_at b, below_at d h below word b, limits_at word));
        now = lowered_now;
        limits = limits_now;
        room = λ t one. omega (arith, one, lowered_now t, count_below d h below t, limits_now (t / 64));
      }

-- the counters that are 1 have the lowest digit alone
pub single_is : (d : Words) (h : List Words) (word b low high : ℕ) → b < 64 → high < 2 ^ 64 → low ≡ bits_of d word → bit_at high b ≡ min 1 (value h word b)
    → bit_at (bit_and low (bit_not w64 high)) b ≡ min 1 (count_of (line d h) (64 * word + b)) - min 1 (count_of (line d h) (64 * word + b) - 1)
single_is d h word b low high within fits is above =
    rw (count_at d h word b within) (omega (arith, bit_at_and low (bit_not w64 high) b, bit_at_not w64 high b fits within, ap (λ n. bit_at n b) is, above, bit_at-lt low b))
