-- Counters by the digits of a line.
use Rattle.cil_lines.proofs.Common.{zero, suc, ◌≡◌, ◌≢◌, ℕ, ◌+◌, ◌-◌, ◌*◌, ◌/◌, ◌%◌, ◌^◌, ◌<◌, ◌≤◌, List, [], ◌∷◌, ◌++◌, length, get_or, take, drop, set, min, refl, sym, ap, subst, ◌∙◌, arith, eq-eqb, if◌then◌else◌, bit_xor, bit_and, bit_or, inl, inr, pow-suc, Option, Some, None, Result, Ok, Err, OnErr, cases_eq, cases_lt, ne_eqb, bit_at_lowest, bit_at-suc, bit_at_xor, bit_at_and, bit_at_or, bit_at-lt, bit_at-zero, shr_and_one, bit_at, Words, bits_of, HasPlace, IsNext, Counters, value, total, count_of, hit, HasRoom, IsPresence}
use Rattle.std.specs.Int.Bits.{and_zero_r}

-- ---- one digit of a list changes

pub value-set : (ds : List Words) (i w b : ℕ) (d e : Words) → i < length ds
    → value (set ds i e) w b + 2 ^ i * bit_at (bits_of (get_or ds i d) w) b ≡ value ds w b + 2 ^ i * bit_at (bits_of e w) b
value-set [] i w b d e within = absurd (omega arith)
value-set (x ∷ ds) zero w b d e within = omega arith
value-set (x ∷ ds) (suc i) w b d e within = let next = value-set ds i w b d e (omega arith) in let twice : 2 ^ suc i ≡ 2 * 2 ^ i = omega (arith, pow-suc 2 i) in rw twice (omega (arith, next))

pub value-set_same : (ds : List Words) (i w b : ℕ) (d e : Words) → i < length ds → bits_of e w ≡ bits_of (get_or ds i d) w → value (set ds i e) w b ≡ value ds w b
value-set_same ds i w b d e within same =
    let moved = value-set ds i w b d e within in
    let bits = ap (λ x. 2 ^ i * bit_at x b) same in
    omega (arith, moved, bits)

pub drop-set : (ds : List Words) (i : ℕ) (e : Words) → drop (suc i) (set ds i e) ≡ drop (suc i) ds
drop-set [] i e = refl
drop-set (x ∷ ds) zero e = refl
drop-set (x ∷ ds) (suc i) e = drop-set ds i e

pub take-set : (ds rest : List Words) (i : ℕ) (e : Words) → i < length ds → take (suc i) (set ds i e) ++ rest ≡ take i ds ++ (e ∷ rest)
take-set [] rest i e within = absurd (omega arith)
take-set (x ∷ ds) rest zero e within = refl
take-set (x ∷ ds) rest (suc i) e within = ap (λ l. x ∷ l) (take-set ds rest i e (omega arith))

-- ---- adding

-- what a digit makes of a bit that is carried into it
pub half_add : (p c b : ℕ) → bit_at (bit_xor p c) b + 2 * bit_at (bit_and c p) b ≡ bit_at p b + bit_at c b
half_add p c b = omega (arith, bit_at_xor p c b, bit_at_and c p b, bit_at-lt p b, bit_at-lt c b)

-- a digit of a list turned by bits, where with what it passes on it has what it had with what came
pub turn_step : (ds : List Words) (i w c b n m : ℕ) (d e : Words) → i < length ds → bits_of e w ≡ bit_xor (bits_of (get_or ds i d) w) c
    → bit_at (bit_xor (bits_of (get_or ds i d) w) c) b + n ≡ bit_at (bits_of (get_or ds i d) w) b + m
    → value (set ds i e) w b + 2 ^ i * n ≡ value ds w b + 2 ^ i * m
turn_step ds i w c b n m d e within turned even = omega (arith, value-set ds i w b d e within, ap (λ x. 2 ^ i * bit_at x b) turned, ap (λ x. 2 ^ i * x) even)

pub next_power : (i : ℕ) → 2 ^ (i + 1) ≡ 2 * 2 ^ i
next_power i = let next : i + 1 ≡ suc i = omega arith in omega (arith, ap (λ k. 2 ^ k) next, pow-suc 2 i)

-- a digit passes on what is carried out of it, at twice the weight
pub add_step : (ds : List Words) (i w c b goal : ℕ) (d e : Words) → i < length ds → bits_of e w ≡ bit_xor (bits_of (get_or ds i d) w) c
    → value ds w b + 2 ^ i * bit_at c b ≡ goal
    → value (set ds i e) w b + 2 ^ (i + 1) * bit_at (bit_and c (bits_of (get_or ds i d) w)) b ≡ goal
add_step ds i w c b goal d e within turned before =
    let p = bits_of (get_or ds i d) w in
    rw (next_power i) (omega (arith, before, turn_step ds i w c b (2 * bit_at (bit_and c p) b) (bit_at c b) d e within turned (half_add p c b)))

-- a carry that is left has a place in the digit that comes, and room behind it
pub room-next : (ds : List Words) (i w c : ℕ) (d : Words) → i < length ds → c ≢ 0 → HasRoom (drop i ds) w c
    → HasPlace (get_or ds i d) w × HasRoom (drop (suc i) ds) w (bit_and c (bits_of (get_or ds i d) w))
room-next [] i w c d within some room = absurd (omega arith)
room-next (x ∷ ds) zero w c d within some (inl none) = absurd (some none)
room-next (x ∷ ds) zero w c d within some (inr room) = room
room-next (x ∷ ds) (suc i) w c d within some room = room-next ds i w c d (omega arith) some room

pub room-none : (ds rest : List Words) (w : ℕ) → HasRoom rest w 0 → HasRoom (ds ++ rest) w 0
room-none [] rest w room = room
room-none (d ∷ ds) rest w room = inl refl

-- room for a carry from one more digit on
pub room-more : (ds rest : List Words) (i w c mask : ℕ) (e : Words) → i < length ds → HasPlace e w
    → ((rest : List Words) → HasRoom rest w c → HasRoom (take i ds ++ rest) w mask)
    → HasRoom rest w (bit_and c (bits_of e w)) → HasRoom (take (suc i) (set ds i e) ++ rest) w mask
room-more ds rest i w c mask e within place before room =
    subst (λ l. HasRoom l w mask) (sym (take-set ds rest i e within)) (before (e ∷ rest) (inr (place, room)))

-- ---- a digit without bits comes to the end

pub room-last : (d : Words) (w c : ℕ) → HasPlace d w → bits_of d w ≡ 0 → HasRoom (d ∷ []) w c
room-last d w c place none = inr (place, ap (bit_and c) none ∙ and_zero_r c)

pub value-append : (ds : List Words) (d : Words) (w b : ℕ) → bits_of d w ≡ 0 → value (ds ++ d ∷ []) w b ≡ value ds w b
value-append [] d w b none = omega (arith, ap (λ x. bit_at x b) none, bit_at-zero b)
value-append (x ∷ ds) d w b none = ap (λ n. bit_at (bits_of x w) b + 2 * n) (value-append ds d w b none)

-- ---- reading

pub value-drop : (ds : List Words) (i w b : ℕ) (d : Words) → i < length ds → value (drop i ds) w b ≡ bit_at (bits_of (get_or ds i d) w) b + 2 * value (drop (suc i) ds) w b
value-drop [] i w b d within = absurd (omega arith)
value-drop (x ∷ ds) zero w b d within = refl
value-drop (x ∷ ds) (suc i) w b d within = value-drop ds i w b d (omega arith)

pub total-drop : (ds : List Words) (i w : ℕ) (d : Words) → i < length ds → total (drop i ds) w ≡ bits_of (get_or ds i d) w + total (drop (suc i) ds) w
total-drop [] i w d within = absurd (omega arith)
total-drop (x ∷ ds) zero w d within = refl
total-drop (x ∷ ds) (suc i) w d within = total-drop ds i w d (omega arith)

pub next-same : (f g : ℕ → ℕ) (from : ℕ) (next : Option ℕ) → ((w : ℕ) → f w ≡ g w) → IsNext f from next → IsNext g from next
next-same f g from None same h = λ w on. sym (same w) ∙ h w on
next-same f g from (Some n) same h = (h.0, h.1, λ w on before. sym (same w) ∙ h.2 w on before)

-- one digit more is looked at
pub next_step : (ds : List Words) (i from : ℕ) (d : Words) (next : Option ℕ) → 0 < i → i ≤ length ds → d ≡ get_or ds (i - 1) d
    → IsNext (λ w. bits_of d w + total (drop i ds) w) from next → IsNext (total (drop (i - 1) ds)) from next
next_step ds i from d next some upto is h =
    let e : suc (i - 1) ≡ i = omega arith in
    next-same _ _ from next (λ w. let at = total-drop ds (i - 1) w d (omega arith) in
    let here = ap (λ x. bits_of x w) is in
    let behind = ap (λ k. total (drop k ds) w) e in
    omega (arith, at, here, behind)) h

pub present_step : (ds : List Words) (i w b x y : ℕ) (d : Words) → 0 < i → i ≤ length ds → x ≡ bits_of (get_or ds (i - 1) d) w → bit_at y b ≡ min 1 (value (drop i ds) w b)
    → bit_at (bit_or y x) b ≡ min 1 (value (drop (i - 1) ds) w b)
present_step ds i w b x y d some upto is before =
    let e : suc (i - 1) ≡ i = omega arith in
    let at = value-drop ds (i - 1) w b d (omega arith) in
    let behind = ap (λ k. value (drop k ds) w b) e in
    omega (arith, at, behind, before, bit_at_or y x b, ap (λ n. bit_at n b) is, bit_at-lt x b)

pub total-none : (ds : List Words) (w b : ℕ) → total ds w ≡ 0 → value ds w b ≡ 0
total-none [] w b none = refl
total-none (d ∷ ds) w b none =
    let first : bits_of d w ≡ 0 = omega (arith, none) in
    let rest = total-none ds w b (omega (arith, none)) in
    omega (arith, rest, ap (λ x. bit_at x b) first, bit_at-zero b)

pub none_counted : (c : Counters) (t : ℕ) → total (c.lowest ∷ c.higher) (t / 64) ≡ 0 → count_of c t ≡ 0
unfolding count_of
none_counted c t none = total-none (c.lowest ∷ c.higher) (t / 64) (t % 64) none

pub nothing : (d : Words) → ((w : ℕ) → bits_of d w ≡ 0) → (t : ℕ) → count_of (record { lowest = d; higher = [] }) t ≡ 0
nothing d none t = none_counted (record { lowest = d; higher = [] }) t (let first = none (t / 64) in omega (arith, first))

pub count_is : (c : Counters) (t low high doubled result : ℕ) → low ≡ bits_of c.lowest (t / 64) → high ≡ min (value c.higher (t / 64) (t % 64)) (2 ^ 64 - 1)
    → doubled ≡ min (high * 2) (2 ^ 64 - 1) → result ≡ min (doubled + bit_and (low / 2 ^ (t % 64)) 1) (2 ^ 64 - 1) → result ≡ min (count_of c t) (2 ^ 64 - 1)
unfolding count_of
count_is c t low high doubled result is above twice all =
    let bit = shr_and_one low (t % 64) ∙ ap (λ n. bit_at n (t % 64)) is in
    omega (arith, all, twice, above, bit)

pub present_is : (c : Counters) (word b low high : ℕ) → b < 64 → low ≡ bits_of c.lowest word → bit_at high b ≡ min 1 (value c.higher word b)
    → bit_at (bit_or low high) b ≡ min 1 (count_of c (64 * word + b))
unfolding count_of
present_is c word b low high within is above =
    let place : (64 * word + b) / 64 ≡ word = omega arith in
    let bit : (64 * word + b) % 64 ≡ b = omega arith in
    rw (place, bit) (omega (arith, bit_at_or low high b, ap (λ n. bit_at n b) is, above, bit_at-lt low b))

-- a number above 0 has a bit
pub some_bit : (k x : ℕ) → x < 2 ^ k → x ≢ 0 → (b : ℕ) × (b < k) × (bit_at x b ≡ 1)
some_bit zero x fits some = absurd (omega (arith, some))
some_bit (suc k) x fits some =
    let twice : 2 ^ suc k ≡ 2 * 2 ^ k = omega (arith, pow-suc 2 k) in
    elim (cases_eq (x % 2) 1) [
      | inl odd ↦ (0, omega arith, bit_at_lowest x ∙ odd)
      | inr even ↦ let next = some_bit k (x / 2) (omega (arith, fits, twice)) (omega (arith, some, even)) in (suc next.0, (let less = next.1 in omega (arith, less)), bit_at-suc x next.0 ∙ next.2)
    ]

pub target_of : (t : ℕ) → 64 * (t / 64) + t % 64 ≡ t
target_of t = omega arith

-- no target of a word without a mask is counted
pub none_present : (counts : ℕ → ℕ) (word mask : ℕ) → IsPresence counts word mask → mask ≡ 0 → (t : ℕ) → t / 64 ≡ word → counts t ≡ 0
none_present counts word mask present none t here =
    let bit = present (t % 64) (omega arith) in
    let zeros = ap (λ x. bit_at x (t % 64)) none in
    let same : counts (64 * word + t % 64) ≡ counts t = ap (λ w. counts (64 * w + t % 64)) (sym here) ∙ ap counts (target_of t) in
    omega (arith, bit, zeros, same, bit_at-zero (t % 64))

pub some_present : (counts : ℕ → ℕ) (word mask : ℕ) → IsPresence counts word mask → mask < 2 ^ 64 → mask ≢ 0 → (t : ℕ) × (t / 64 ≡ word) × (0 < counts t)
some_present counts word mask present fits some =
    let bit = some_bit 64 mask fits some in
    let b = bit.0 in
    let within : b < 64 = bit.1 in
    let at = present b within in
    let set = bit.2 in
    (64 * word + b, omega (arith, within), omega (arith, at, set))

-- ---- what becomes of the counters

pub same_now : (d d' : Words) (h h' : List Words) → ((w : ℕ) → bits_of d' w ≡ bits_of d w) → ((w b : ℕ) → value h' w b ≡ value h w b)
    → (t : ℕ) → count_of (record { lowest = d'; higher = h' }) t ≡ count_of (record { lowest = d; higher = h }) t
unfolding count_of
same_now d d' h h' low high t = (λ i. bit_at (low (t / 64) i) (t % 64) + 2 * high (t / 64) (t % 64) i)

pub add_now : (d d' : Words) (h h' : List Words) (word mask bits : ℕ) → bits ≡ bits_of d word → bits_of d' word ≡ bit_xor bits mask
    → ((w : ℕ) → w ≢ word → bits_of d' w ≡ bits_of d w)
    → ((b : ℕ) → value h' word b ≡ value h word b + bit_at (bit_and bits mask) b) → ((w b : ℕ) → w ≢ word → value h' w b ≡ value h w b)
    → (t : ℕ) → count_of (record { lowest = d'; higher = h' }) t ≡ count_of (record { lowest = d; higher = h }) t + hit word mask t
unfolding count_of hit
add_now d d' h h' word mask bits is turned low_others sum high_others t =
    let b = t % 64 in
    elim (cases_eq (t / 64) word) [
      | inl e ↦
          let before = ap (λ w. bit_at (bits_of d w) b + 2 * value h w b) e in
          let after = ap (λ w. bit_at (bits_of d' w) b + 2 * value h' w b) e in
          let low = ap (λ n. bit_at n b) is in
          let new = ap (λ n. bit_at n b) turned in
          let moved = ap (λ q. if q then bit_at mask b else 0) (eq-eqb (t / 64) word e) in
          omega (arith, before, after, low, new, moved, sum b, half_add bits mask b, bit_at_and bits mask b, bit_at_and mask bits b)
      | inr n ↦
          let moved = ap (λ q. if q then bit_at mask b else 0) (ne_eqb (t / 64) word n) in
          omega (arith, moved, ap (λ x. bit_at x b) (low_others (t / 64) n), high_others (t / 64) b n)
    ]

-- what always holds does where there is an error
pub OnErr-any : {T E : Type 0} {P : Type 0} (r : Result T E) → P → OnErr r P
OnErr-any (Ok x) h = tt
OnErr-any (Err e) h = h

-- a word is passed over, and those before it that have no place
pub none_passed : (c : Counters) (first from next : ℕ) → ((t : ℕ) → first ≤ t / 64 → t / 64 < from → count_of c t ≡ 0)
    → ((w : ℕ) → from ≤ w → w < next → total (c.lowest ∷ c.higher) w ≡ 0) → (t : ℕ) → first ≤ t / 64 → t / 64 < next → count_of c t ≡ 0
none_passed c first from next before between t on upto =
    elim (cases_lt (t / 64) from) [
      | inl lower ↦ before t on lower
      | inr behind ↦ none_counted c t (between (t / 64) behind upto)
    ]
