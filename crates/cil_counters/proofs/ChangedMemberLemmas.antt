-- Names of attributes and types that are hit, put together one after the other.
use Rattle.cil_counters.proofs.Common.{◌≡◌, ◌≢◌, ◌⊎◌, ℕ, zero, suc, ◌+◌, ◌-◌, ◌*◌, ◌/◌, ◌%◌, ◌<◌, ◌≤◌, Bool, true, cond, not, List, [], ◌∷◌, ◌++◌, Option, None, Some, length, get_or, take, min, nat_lt, bytes_eq, position, slice_get, is_some, refl, sym, ap, subst, ◌∙◌, inl, inr, arith, take_all, true≢false, Contains, IsDistinct, cases_eq, cases_lt, le-ltb, lt-ltb, list_any_at, sum_by_more, sum_by_more_le, get_or_from_slice_get, same_Some, slice_get_within, bytes_eq-Decides, any-position, differ, found-name, has_turned, AreChangedMembers, AreHit, AreNamed, has_at}
use Rattle.std.specs.Int.{bit_at}
use Rattle.std.proofs.lemmas.List.Elements.{Contains-append_cases, Contains-append_left, Contains-append_right, Contains-get_or}
use Rattle.std.proofs.lemmas.List.Quantifiers.{all_pairs_push}
use Rattle.std.proofs.lemmas.Nat.Bits.{bit_at-lt}
use Rattle.cil_bind.proofs.NamespaceLemmas.{distinct-place}
use Rattle.cil_recorded.specs.Differences.{appeared_at, gone_at}
use Rattle.cil_recorded.specs.Log.{hit_at}
use Rattle.cil_recorded.specs.declared.recorded_lines.changes.Change.{Change}
use Rattle.cil_recorded.proofs.LogLemmas.{hit_off, hit_on, hit_out}

-- what stands in a list of one is that one
only : {X : Type 0} (x y : X) → Contains (x ∷ []) y → x ≡ y
only {X} x y at = by at.0 at.1 at.2
  where
    by : (n : ℕ) → n < length (x ∷ []) → get_or (x ∷ []) n y ≡ y → x ≡ y
    by zero within is = is
    by (suc n) within is = absurd (omega (arith, within))

module _ (names : List (List ℕ)) where
  -- nothing is hit
  pub named-none : (hits : ℕ → ℕ → ℕ) → ((r t : ℕ) → hits r t ≡ 0) → AreNamed names hits []
  named-none hits none = record {
    exact = λ a t. (
      (λ at. absurd (let within = at.1 in omega (arith, within))),
      λ h. absurd (omega (arith, h.hit, none h.row h.target)),
    );
    once = λ i j d less within. absurd (omega (arith, within));
  }

  hit-too : (f g : ℕ → ℕ → ℕ) (a t : List ℕ)
      → ((r s : ℕ) → slice_get names r ≡ Some a → slice_get names s ≡ Some t → f r s ≡ g r s)
      → AreHit names f a t → AreHit names g a t
  hit-too f g a t same h = record {
    row = h.row;
    target = h.target;
    attribute_at = h.attribute_at;
    ty_at = h.ty_at;
    hit = omega (arith, h.hit, same h.row h.target h.attribute_at h.ty_at);
  }

  -- the same is hit, but for symbols without a name
  pub named-same : (f g : ℕ → ℕ → ℕ) (pairs : List (List ℕ × List ℕ))
      → ((r s : ℕ) (a t : List ℕ) → slice_get names r ≡ Some a → slice_get names s ≡ Some t → f r s ≡ g r s)
      → AreNamed names f pairs → AreNamed names g pairs
  named-same f g pairs same is = record {
    exact = λ a t. (
      (λ at. hit-too f g a t (λ r s first second. same r s a t first second) ((is.exact a t).0 at)),
      λ h. (is.exact a t).1 (hit-too g f a t (λ r s first second. sym (same r s a t first second)) h),
    );
    once = is.once;
  }

  module _ (distinct : IsDistinct bytes_eq names) where
    -- a name stands at one place
    pub one-place : (i j : ℕ) (name : List ℕ) → slice_get names i ≡ Some name → slice_get names j ≡ Some name → i ≡ j
    one-place i j name here there =
        distinct-place names i j distinct (slice_get_within names i name here) (slice_get_within names j name there)
        (get_or_from_slice_get names i name [] here ∙ sym (get_or_from_slice_get names j name [] there))

    -- it is found there
    pub found-at : (i : ℕ) (name : List ℕ) → slice_get names i ≡ Some name → position (bytes_eq name) names ≡ Some i
    found-at i name here = by (position (bytes_eq name) names) refl
      where
        by : (o : Option ℕ) → position (bytes_eq name) names ≡ o → position (bytes_eq name) names ≡ Some i
        by None missing =
            let same = (bytes_eq-Decides name (get_or names i [])).1 (sym (get_or_from_slice_get names i name [] here)) in
            let any = list_any_at (bytes_eq name) names i [] (slice_get_within names i name here) same in
            absurd (true≢false (sym any ∙ any-position (bytes_eq name) names ∙ ap is_some missing))
        by (Some j) found = found ∙ ap Some (one-place j i name (found-name names name j found) here)

    -- one more is hit
    module _ (f g : ℕ → ℕ → ℕ) (pairs : List (List ℕ × List ℕ)) (row target : ℕ) (attribute ty : List ℕ)
        (row_at : slice_get names row ≡ Some attribute) (target_at : slice_get names target ≡ Some ty)
        (not_yet : f row target ≡ 0) (hit : 0 < g row target)
        (others : (r s : ℕ) → ((r ≡ row) × (s ≡ target)) ⊎ (f r s ≡ g r s)) (is : AreNamed names f pairs) where
      still : (a t : List ℕ) → AreHit names f a t → AreHit names g a t
      still a t h = record {
        row = h.row;
        target = h.target;
        attribute_at = h.attribute_at;
        ty_at = h.ty_at;
        hit = elim (others h.row h.target) [
          | inl same ↦
              let e : g h.row h.target ≡ g row target = (λ i. g (same.0 i) (same.1 i)) in
              omega (arith, e, hit)
          | inr same ↦ omega (arith, h.hit, same)
        ];
      }

      new-one : (a t : List ℕ) → ◌≡◌ {A = List ℕ × List ℕ} (attribute, ty) (a, t) → AreHit names g a t
      new-one a t e = record {
        row = row;
        target = target;
        attribute_at = row_at ∙ ap (λ p. Some p.0) e;
        ty_at = target_at ∙ ap (λ p. Some p.1) e;
        hit = hit;
      }

      back : (a t : List ℕ) → AreHit names g a t → Contains (pairs ++ (attribute, ty) ∷ []) (a, t)
      back a t h =
          elim (others h.row h.target) [
            | inl same ↦
                let first : attribute ≡ a =
                same_Some attribute a (sym row_at ∙ ap (slice_get names) (sym same.0) ∙ h.attribute_at) in
                let second : ty ≡ t = same_Some ty t (sym target_at ∙ ap (slice_get names) (sym same.1) ∙ h.ty_at) in
                Contains-append_right pairs ((attribute, ty) ∷ []) (a, t) (0, omega arith, λ i. (first i, second i))
            | inr same ↦
                Contains-append_left pairs ((attribute, ty) ∷ []) (a, t)
                ((is.exact a t).1
                (record {
                  row = h.row;
                  target = h.target;
                  attribute_at = h.attribute_at;
                  ty_at = h.ty_at;
                  hit = omega (arith, h.hit, same);
                }))
          ]

      not-there : Contains pairs (attribute, ty) → ⊥
      not-there at =
          let h = (is.exact attribute ty).0 at in
          let first = one-place h.row row attribute h.attribute_at row_at in
          let second = one-place h.target target ty h.ty_at target_at in
          let e : f h.row h.target ≡ f row target = (λ i. f (first i) (second i)) in
          absurd (omega (arith, h.hit, e, not_yet))

      pub named-more : AreNamed names g (pairs ++ (attribute, ty) ∷ [])
      named-more = record {
        exact = λ a t. (
          (λ at. elim (Contains-append_cases pairs ((attribute, ty) ∷ []) (a, t) at) [
            | inl old ↦ still a t ((is.exact a t).0 old)
            | inr new ↦ new-one a t (only (attribute, ty) (a, t) new)
          ]),
          back a t,
        );
        once = all_pairs_push (λ x y. x ≢ y) pairs (attribute, ty) is.once
            (λ k d within same. not-there (subst (Contains pairs) same (Contains-get_or pairs k d within)));
      }

-- ---- the bits of a mask

-- 1 for a target of one of the first bits of a mask
abbrev pub hit_below : ℕ → ℕ → ℕ → ℕ → ℕ → ℕ → ℕ
hit_below row word mask b r t = cond (nat_lt (t % 64) b) (hit_at row word mask r t) 0

module _ (row word mask : ℕ) where
  below-in : (b r t : ℕ) → t % 64 < b → hit_below row word mask b r t ≡ hit_at row word mask r t
  below-in b r t low = ap (λ c. cond c (hit_at row word mask r t) 0) (lt-ltb (t % 64) b low)

  below-out : (b r t : ℕ) → b ≤ t % 64 → hit_below row word mask b r t ≡ 0
  below-out b r t high = ap (λ c. cond c (hit_at row word mask r t) 0) (le-ltb (t % 64) b high)

  below-zero : (b r t : ℕ) → hit_at row word mask r t ≡ 0 → hit_below row word mask b r t ≡ 0
  below-zero b r t none =
      elim (cases_lt (t % 64) b) [
        | inl low ↦ below-in b r t low ∙ none
        | inr high ↦ below-out b r t high
      ]

  -- a target is that of a bit, or the bit makes no difference to it
  bit-only : (b r t : ℕ)
      → ((r ≡ row) × (t ≡ 64 * word + b)) ⊎ (hit_below row word mask b r t ≡ hit_below row word mask (b + 1) r t)
  bit-only b r t =
      elim (cases_eq r row) [
        | inl own ↦ elim (cases_eq (t / 64) word) [
          | inl here ↦ elim (cases_eq (t % 64) b) [
            | inl bit ↦ inl (own, omega (arith, here, bit))
            | inr other ↦ inr (elim (cases_lt (t % 64) b) [
              | inl low ↦ below-in b r t low ∙ sym (below-in (b + 1) r t (omega (arith, low)))
              | inr high ↦ below-out b r t high ∙ sym (below-out (b + 1) r t (omega (arith, high, other)))
            ])
          ]
          | inr elsewhere ↦
              let none = hit_out row word mask r t elsewhere in
              inr (below-zero b r t none ∙ sym (below-zero (b + 1) r t none))
        ]
        | inr other ↦
            let none = hit_off row word mask r t other in
            inr (below-zero b r t none ∙ sym (below-zero (b + 1) r t none))
      ]

  at-bit : (b : ℕ) → b < 64 → hit_at row word mask row (64 * word + b) ≡ bit_at mask b
  at-bit b low =
      let place : (64 * word + b) % 64 ≡ b = omega (arith, low) in
      hit_on row word mask row (64 * word + b) refl (omega (arith, low)) ∙ ap (bit_at mask) place

  module _ (names : List (List ℕ)) (hits : ℕ → ℕ → ℕ) (pairs : List (List ℕ × List ℕ)) where
    abbrev so-far : ℕ → ℕ → ℕ → ℕ
    so-far b r t = hits r t + hit_below row word mask b r t

    abbrev in-all : ℕ → ℕ → ℕ
    in-all r t = hits r t + hit_at row word mask r t

    pub bits-first : AreNamed names hits pairs → AreNamed names (so-far 0) pairs
    bits-first =
        named-same names hits (so-far 0) pairs (λ r s a t first second. omega (arith, below-out 0 r s (omega arith)))

    pub bits-last : (b : ℕ) → 64 ≤ b → AreNamed names (so-far b) pairs → AreNamed names in-all pairs
    bits-last b all =
        named-same names (so-far b) in-all pairs
        (λ r s a t first second. omega (arith, below-in b r s (omega (arith, all))))

    -- the mask doesn't have the bit, or its target has no name
    pub bits-past : (b : ℕ) → b < 64 → (bit_at mask b ≢ 1) ⊎ (slice_get names (64 * word + b) ≡ None)
        → AreNamed names (so-far b) pairs → AreNamed names (so-far (b + 1)) pairs
    bits-past b low without = named-same names (so-far b) (so-far (b + 1)) pairs same
      where
        same : (r s : ℕ) (a t : List ℕ) → slice_get names r ≡ Some a → slice_get names s ≡ Some t
            → so-far b r s ≡ so-far (b + 1) r s
        same r s a t first second =
            elim (bit-only b r s) [
              | inl own ↦ elim without [
                | inl unset ↦
                    let hit = hit_at row word mask in
                    let place : hit r s ≡ hit row (64 * word + b) = (λ i. hit (own.0 i) (own.1 i)) in
                    let none : hit r s ≡ 0 = omega (arith, place, at-bit b low, bit_at-lt mask b, unset) in
                    omega (arith, below-zero b r s none, below-zero (b + 1) r s none)
                | inr unnamed ↦
                    absurd (true≢false (sym (ap is_some (sym unnamed ∙ ap (slice_get names) (sym own.1) ∙ second))))
              ]
              | inr e ↦ omega (arith, e)
            ]

    -- the mask has the bit, and its target has a name
    pub bits-more : IsDistinct bytes_eq names → ((r t : ℕ) → in-all r t ≤ 1) → (attribute ty : List ℕ)
        → slice_get names row ≡ Some attribute → (b : ℕ) → b < 64 → bit_at mask b ≡ 1
        → slice_get names (64 * word + b) ≡ Some ty → AreNamed names (so-far b) pairs
        → AreNamed names (so-far (b + 1)) (pairs ++ (attribute, ty) ∷ [])
    bits-more distinct few attribute ty row_at b low set target_at is =
        let target = 64 * word + b in
        let one = at-bit b low in
        let place : target % 64 ≡ b = omega (arith, low) in
        named-more names distinct (so-far b) (so-far (b + 1)) pairs row target attribute ty row_at target_at
        (omega (arith, few row target, one, set, below-out b row target (omega (arith, place))))
        (omega (arith, one, set, below-in (b + 1) row target (omega (arith, place))))
        (λ r t. elim (bit-only b r t) [
          | inl own ↦ inl own
          | inr e ↦ inr (omega (arith, e))
        ])
        is

    -- an attribute without a name
    pub bits-unnamed : slice_get names row ≡ None → AreNamed names hits pairs → AreNamed names in-all pairs
    bits-unnamed unnamed =
        named-same names hits in-all pairs
        (λ r s a t first second. elim (cases_eq r row) [
          | inl own ↦ absurd (true≢false (sym (ap is_some (sym unnamed ∙ ap (slice_get names) (sym own) ∙ first))))
          | inr other ↦ let none = hit_off row word mask r s other in omega (arith, none)
        ])

    -- a word whose types have no names
    pub bits-beyond : length names / 64 < word → AreNamed names hits pairs → AreNamed names in-all pairs
    bits-beyond beyond =
        named-same names hits in-all pairs
        (λ r s a t first second. let within = slice_get_within names s t second in
        let none = hit_out row word mask r s (λ here. absurd (omega (arith, here, beyond, within))) in
        omega (arith, none))

-- ---- changes

abbrev pub turned_in : List Change → ℕ → ℕ → ℕ
turned_in cs r t = appeared_at cs r t + gone_at cs r t

module _ (changes : List Change) (few : (r t : ℕ) → turned_in changes r t ≤ 1) (k : ℕ) (d : Change)
    (within : k < length changes) where
  abbrev here : Change
  here = get_or changes k d

  abbrev came : ℕ → ℕ → ℕ
  came r t = hit_at here.line here.word here.appeared r t

  abbrev went : ℕ → ℕ → ℕ
  went r t = hit_at here.line here.word here.gone r t

  sum : (r t : ℕ) → turned_in (take (k + 1) changes) r t ≡ turned_in (take k changes) r t + came r t + went r t
  sum r t =
      let first = sum_by_more (λ (c : Change). hit_at c.line c.word c.appeared r t) changes k d within in
      let second = sum_by_more (λ (c : Change). hit_at c.line c.word c.gone r t) changes k d within in
      omega (arith, first, second)

  all : (r t : ℕ) → turned_in (take k changes) r t + came r t + went r t ≤ 1
  all r t =
      let first = sum_by_more_le (λ (c : Change). hit_at c.line c.word c.appeared r t) changes k d within in
      let second = sum_by_more_le (λ (c : Change). hit_at c.line c.word c.gone r t) changes k d within in
      omega (arith, few r t, first, second)

  pub change-came : (r t : ℕ) → turned_in (take k changes) r t + came r t ≤ 1
  change-came r t = omega (arith, all r t)

  pub change-went : (r t : ℕ) → turned_in (take k changes) r t + came r t + went r t ≤ 1
  change-went = all

  pub change-more : (names : List (List ℕ)) (pairs : List (List ℕ × List ℕ))
      → AreNamed names (λ r t. turned_in (take k changes) r t + came r t + went r t) pairs
      → AreNamed names (turned_in (take (k + 1) changes)) pairs
  change-more names pairs =
      named-same names (λ r t. turned_in (take k changes) r t + came r t + went r t) (turned_in (take (k + 1) changes))
      pairs (λ r s a t first second. sym (sum r s))

-- what stands in all changes
module _ (was is : ℕ → ℕ → ℕ) (changes : List Change)
    (appeared : (r t : ℕ) → appeared_at changes r t ≡ min 1 (is r t) - min 1 (was r t))
    (gone : (r t : ℕ) → gone_at changes r t ≡ min 1 (was r t) - min 1 (is r t))
    (given : List Change) (same : given ≡ changes) where
  given-turned : (r t : ℕ) → turned_in given r t ≡ has_turned was is r t
  given-turned r t = omega (arith, ap (λ l. appeared_at l r t) same, ap (λ l. gone_at l r t) same, appeared r t, gone r t)

  pub few-turned : (r t : ℕ) → turned_in given r t ≤ 1
  few-turned r t = omega (arith, given-turned r t)

  pub all-turned : (names : List (List ℕ)) (pairs : List (List ℕ × List ℕ)) (k : ℕ) → length given ≤ k
      → AreNamed names (turned_in (take k given)) pairs → AreNamed names (has_turned was is) pairs
  all-turned names pairs k whole =
      named-same names (turned_in (take k given)) (has_turned was is) pairs
      (λ r s a t first second. ap (λ l. turned_in l r s) (take_all k given whole) ∙ given-turned r s)

-- ---- by full names

module _ (was is : ℕ → ℕ → ℕ) where
  abbrev differs : ℕ → ℕ → Bool
  differs r t = differ (nat_lt 0 (was r t)) (nat_lt 0 (is r t))

  -- what they say where a type was a member, and where it was none
  had-differs : (r t : ℕ) → 0 < was r t → differs r t ≡ not (nat_lt 0 (is r t))
  had-differs r t had = ap (λ b. differ b (nat_lt 0 (is r t))) (lt-ltb 0 (was r t) had)

  new-differs : (r t : ℕ) → was r t ≤ 0 → differs r t ≡ nat_lt 0 (is r t)
  new-differs r t new = ap (λ b. differ b (nat_lt 0 (is r t))) (le-ltb 0 (was r t) new)

  turned-differ : (r t : ℕ) → 0 < has_turned was is r t → differs r t ≡ true
  turned-differ r t turned =
      elim (cases_lt 0 (was r t)) [
        | inl had ↦ had-differs r t had ∙ ap not (le-ltb 0 (is r t) (omega (arith, had, turned)))
        | inr new ↦ new-differs r t new ∙ lt-ltb 0 (is r t) (omega (arith, new, turned))
      ]

  differ-turned : (r t : ℕ) → differs r t ≡ true → 0 < has_turned was is r t
  differ-turned r t other =
      elim (cases_lt 0 (was r t)) [
        | inl had ↦ elim (cases_lt 0 (is r t)) [
          | inl has ↦ absurd (true≢false (sym other ∙ had-differs r t had ∙ ap not (lt-ltb 0 (is r t) has)))
          | inr none ↦ omega (arith, had, none)
        ]
        | inr new ↦ elim (cases_lt 0 (is r t)) [
          | inl has ↦ omega (arith, new, has)
          | inr none ↦ absurd (true≢false (sym other ∙ new-differs r t new ∙ le-ltb 0 (is r t) none))
        ]
      ]

  module _ (names : List (List ℕ)) where
    abbrev place : List ℕ → Option ℕ
    place name = position (bytes_eq name) names

    abbrev test : List ℕ → List ℕ → Bool
    test a t = differ (has_at was (place a) (place t)) (has_at is (place a) (place t))

    tested : (a t : List ℕ) (o p : Option ℕ) → place a ≡ o → place t ≡ p
        → differ (has_at was o p) (has_at is o p) ≡ true → AreHit names (has_turned was is) a t
    tested a t None p first second other = absurd (true≢false (sym other))
    tested a t (Some r) None first second other = absurd (true≢false (sym other))
    tested a t (Some r) (Some s) first second other = record {
      row = r;
      target = s;
      attribute_at = found-name names a r first;
      ty_at = found-name names t s second;
      hit = differ-turned r s other;
    }

    module _ (distinct : IsDistinct bytes_eq names) (pairs : List (List ℕ × List ℕ)) where
      hit-passes : (a t : List ℕ) → AreHit names (has_turned was is) a t → test a t ≡ true
      hit-passes a t h =
          let first = found-at names distinct h.row a h.attribute_at in
          let second = found-at names distinct h.target t h.ty_at in
          let places : test a t ≡ differs h.row h.target =
          (λ i. differ (has_at was (first i) (second i)) (has_at is (first i) (second i))) in
          places ∙ turned-differ h.row h.target h.hit

      pub changed-named : AreNamed names (has_turned was is) pairs → AreChangedMembers test pairs
      changed-named named = record {
        exact = λ a t. (
          (λ at. hit-passes a t ((named.exact a t).0 at)),
          λ other. (named.exact a t).1 (tested a t (place a) (place t) refl refl other),
        );
        once = named.once;
      }
