-- The counters of a group move together, and no others.
use Rattle.cil_keyed_lines.proofs.Common.{AreCounted, AreLines, AreNamed, AreOf, HasCount, List, Moved, Named, Naming, State, ap, arith, came, cases_eq, count_before, count_now, in_line, inl, inr, lines_in, name_before, name_now, named_at, now_in, one_if, subst, sym, times, went, ℕ, ◌*◌, ◌+◌, ◌<◌, ◌==◌, ◌∙◌, ◌≡◌, ◌≢◌}
use Rattle.cil_keyed_lines.proofs.MoveLemmas.{in_here, in_other}
use Rattle.cil_keyed_lines.proofs.NameLemmas.{one_other, one_same}
use Rattle.cil_keyed_lines.proofs.ReachLemmas.{AreRenamed, lines_kept, name_member, renamed_not, renamed_to}

joined : (a b m x y x' y' : ℕ) → a + x ≡ m + y → m ≡ b → x ≡ x' → y ≡ y' → a + x' ≡ b + y'
joined a b m x y x' y' sum mid left right = omega (arith, sum, mid, left, right)

-- a counter of a place that names the same line
same_name : (n0 n1 : Naming) (s0 s1 : State) → AreLines n0 s0 → AreLines n1 s1 → ((l t : ℕ) → l < lines_in s0 → count_now s1 l t ≡ count_now s0 l t)
    → (p t : ℕ) → name_now n1 p ≡ name_now n0 p → now_in n1 s1 p t ≡ now_in n0 s0 p t
same_name n0 n1 s0 s1 lined lined1 now p t same = elim (cases_eq (name_now n0 p) 0) [
  | inl none ↦
      ap (λ l. count_now s1 l t) (same ∙ none) ∙ lined1.nothing t ∙ sym (ap (λ l. count_now s0 l t) none ∙ lined.nothing t)
  | inr some ↦ ap (λ l. count_now s1 l t) same ∙ now (name_now n0 p) t (lined.within p some)
]

-- nothing has moved
module _ (n0 n1 : Naming) (s0 s1 : State) (lined : AreLines n0 s0) (lined1 : AreLines n1 s1) (now : (l t : ℕ) → l < lines_in s0 → count_now s1 l t ≡ count_now s0 l t)
    (same : n1.named ≡ n0.named) where
  pub now_kept : (p t : ℕ) → now_in n1 s1 p t ≡ now_in n0 s0 p t
  now_kept p t = same_name n0 n1 s0 s1 lined lined1 now p t (ap (λ l. name_now (record { named = l; lines = 0; log = n0.log; room = 0 }) p) same)

  pub counted_kept : AreCounted n0 s0 → AreCounted n1 s1
  counted_kept counted p some =
      let is : name_now n1 p ≡ name_now n0 p = ap (λ l. name_now (record { named = l; lines = 0; log = n0.log; room = 0 }) p) same in
      let (t, above) = counted p (λ e. some (is ∙ e)) in
      (t, omega (arith, above, now_kept p t))

module _ (group : List Named) (moved : List Moved) (n0 n1 : Naming) (s0 s1 s2 : State) (line : ℕ) (named : AreNamed group n0) (of : AreOf (named_at group 0).line group)
    (lined : AreLines n0 s0) (lined1 : AreLines n1 s1) (own : (p : ℕ) → times group p ≡ one_if (name_now n1 p == line))
    (others : (p : ℕ) → times group p ≡ 0 → name_now n1 p ≡ name_now n0 p) (copy : (t : ℕ) → count_now s1 line t ≡ count_now s0 (named_at group 0).line t)
    (now : (l t : ℕ) → l < lines_in s0 → count_now s1 l t ≡ count_now s0 l t)
    (step : (l t : ℕ) → count_now s2 l t + in_line line (went moved) l t ≡ count_now s1 l t + in_line line (came moved) l t) where
  own_in : (p : ℕ) → times group p ≢ 0 → name_now n1 p ≡ line
  own_in p some = elim (cases_eq (name_now n1 p) line) [
    | inl here ↦ here
    | inr other ↦ absurd (some (own p ∙ one_other (name_now n1 p) line other))
  ]

  -- before the move the places count as they did
  reached : (p t : ℕ) → now_in n1 s1 p t ≡ now_in n0 s0 p t
  reached p t = elim (cases_eq (times group p) 0) [
    | inl none ↦ same_name n0 n1 s0 s1 lined lined1 now p t (others p none)
    | inr some ↦
        ap (λ l. count_now s1 l t) (own_in p some) ∙ copy t
        ∙ ap (λ l. count_now s0 l t) (sym (name_member group n0 named of p (omega (arith, some))))
  ]

  in_group : (amount : ℕ → ℕ) (p t : ℕ) → in_line line amount (name_now n1 p) t ≡ times group p * amount t
  in_group amount p t = elim (cases_eq (name_now n1 p) line) [
    | inl here ↦
        let one : times group p * amount t ≡ 1 * amount t = ap (λ m. m * amount t) (own p ∙ one_same (name_now n1 p) line here) in
        omega (arith, in_here line amount (name_now n1 p) t here, one)
    | inr other ↦
        let none : times group p * amount t ≡ 0 * amount t = ap (λ m. m * amount t) (own p ∙ one_other (name_now n1 p) line other) in
        omega (arith, in_other line amount (name_now n1 p) t other, none)
  ]

  pub now_moved : (p t : ℕ) → now_in n1 s2 p t + times group p * went moved t ≡ now_in n0 s0 p t + times group p * came moved t
  now_moved p t =
      joined (now_in n1 s2 p t) (now_in n0 s0 p t) (now_in n1 s1 p t) (in_line line (went moved) (name_now n1 p) t) (in_line line (came moved) (name_now n1 p) t)
      (times group p * went moved t) (times group p * came moved t) (step (name_now n1 p) t) (reached p t) (in_group (went moved) p t) (in_group (came moved) p t)

  elsewhere : (l t : ℕ) → l ≢ line → count_now s2 l t ≡ count_now s1 l t
  elsewhere l t other = omega (arith, step l t, in_other line (went moved) l t other, in_other line (came moved) l t other)

  -- the lines of other places have their counters
  counted_others : AreCounted n0 s0 → (p : ℕ) → name_now n1 p ≢ 0 → name_now n1 p ≢ line → HasCount s2 (name_now n1 p)
  counted_others counted p some other =
      let none : times group p ≡ 0 = own p ∙ one_other (name_now n1 p) line other in
      let (t, above) = counted p (λ e. some (others p none ∙ e)) in
      (t, omega (arith, above, elsewhere (name_now n1 p) t other, reached p t))

  pub counted_moved : AreCounted n0 s0 → HasCount s2 line → AreCounted n1 s2
  counted_moved counted has p some = elim (cases_eq (name_now n1 p) line) [
    | inl here ↦ subst (HasCount s2) (sym here) has
    | inr other ↦ counted_others counted p some other
  ]

  module _ (some_line : line ≢ 0) (len : lines_in s2 ≡ lines_in s1) (before : (l t : ℕ) → count_before s2 l t ≡ count_before s1 l t) where
    pub lines_moved : AreLines n1 s2
    lines_moved =
        lines_kept n1 n1 s1 s2 lined1 (omega (arith, len, lined1.lines)) (omega (arith, len)) (λ p _. name_now n1 p) (λ p _. name_before n1 p)
        (λ t. elsewhere 0 t (λ e. some_line (sym e))) (before 0)

    -- where no counter is left the places name line 0
    module _ (n2 : Naming) (renamed : AreRenamed (times group) (name_now n1) (name_now n2) 0) (clear : (t : ℕ) → count_now s2 line t ≡ 0) where
      now_left : (p t : ℕ) → now_in n2 s2 p t ≡ now_in n1 s2 p t
      now_left p t = elim (cases_eq (times group p) 0) [
        | inl none ↦ ap (λ l. count_now s2 l t) (renamed_not (times group) (name_now n1) (name_now n2) 0 p renamed none)
        | inr some ↦
            ap (λ l. count_now s2 l t) (renamed_to (times group) (name_now n1) (name_now n2) 0 p renamed some) ∙ lines_moved.nothing t ∙ sym (ap (λ l. count_now s2 l t) (own_in p some) ∙ clear t)
      ]

      pub now_cleared : (p t : ℕ) → now_in n2 s2 p t + times group p * went moved t ≡ now_in n0 s0 p t + times group p * came moved t
      now_cleared p t = ap (λ m. m + times group p * went moved t) (now_left p t) ∙ now_moved p t

      stays : (p : ℕ) → name_now n2 p ≢ 0 → (times group p ≡ 0) × (name_now n2 p ≡ name_now n1 p)
      stays p some = elim (cases_eq (times group p) 0) [
        | inl none ↦ (none, renamed_not (times group) (name_now n1) (name_now n2) 0 p renamed none)
        | inr one ↦ absurd (some (renamed_to (times group) (name_now n1) (name_now n2) 0 p renamed one))
      ]

      pub counted_cleared : AreCounted n0 s0 → AreCounted n2 s2
      counted_cleared counted p some =
          let (none, same) = stays p some in
          let other : name_now n1 p ≢ line = λ e. omega (arith, none, own p, one_same (name_now n1 p) line e) in
          subst (HasCount s2) (sym same) (counted_others counted p (λ e. some (same ∙ e)) other)

      pub lines_cleared : n2.lines ≡ n1.lines → ((p : ℕ) → name_before n2 p ≡ name_before n1 p) → AreLines n2 s2
      lines_cleared lines names_before =
          record {
            lines = omega (arith, lines_moved.lines, lines);
            within = λ p some. let (_, same) = stays p some in omega (arith, same, lines_moved.within p (λ e. some (same ∙ e)));
            past = λ p some. omega (arith, names_before p, lines_moved.past p (λ e. some (names_before p ∙ e)));
            nothing = lines_moved.nothing;
            nothing_before = lines_moved.nothing_before;
          }
