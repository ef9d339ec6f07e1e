-- Places that are moved group by group.
use Rattle.cil_keyed_lines.proofs.Common.{AreNamed, AreOf, All, List, Moved, Named, Names, Naming, State, ap, arith, came, drop, get_or, length, name_now, named_at, now_in, one_if, subst, sym, take, times, went, ℕ, ◌*◌, ◌+◌, ◌<◌, ◌==◌, ◌∙◌, ◌≡◌, ◌≤◌}
use Rattle.cil_keyed_lines.proofs.NameLemmas.{one_same}
use Rattle.std.proofs.Math.Nat.{add-mul}
use Rattle.std.proofs.Math.Seq.{take-add}
use Rattle.std.proofs.lemmas.List.{get_or-take}
use Rattle.std.proofs.lemmas.List.Elements.{All-drop, All-take}
use Rattle.std.proofs.lemmas.List.Sums.{get_or-le-sum_by, sum_by-append, sum_by-take-le}

-- each place of a list is there
member_times : (group : List Named) (k : ℕ) (d : Named) → k < length group → 0 < times group (get_or group k d).place
member_times group k d less =
    let place = (get_or group k d).place in
    omega (arith, get_or-le-sum_by (λ (n : Named). one_if (n.place == place)) group k d less, one_same place place (λ _. place))

above_mid : (a b k m w c : ℕ) → a + k * w ≡ b + k * c → k ≡ 0 → m * w ≤ b → m ≡ 1 → w ≤ a
above_mid a b k m w c sum none most one =
    let left : k * w ≡ 0 * w = ap (λ n. n * w) none in
    let right : k * c ≡ 0 * c = ap (λ n. n * c) none in
    let all : m * w ≡ 1 * w = ap (λ n. n * w) one in
    sums (k * w) (k * c) (m * w) (omega (arith, left)) (omega (arith, right)) (omega (arith, all)) sum most
  where
    sums : (x y z : ℕ) → x ≡ 0 → y ≡ 0 → z ≡ w → a + x ≡ b + y → z ≤ b → w ≤ a
    sums x y z x_is y_is z_is e le = omega (arith, x_is, y_is, z_is, e, le)

more_mid : (a' a b k g n w c : ℕ) → a' + g * w ≡ a + g * c → a + k * w ≡ b + k * c → n ≡ k + g → a' + n * w ≡ b + n * c
more_mid a' a b k g n w c step so_far is =
    sums (k * w) (k * c) (g * w) (g * c) (n * w) (n * c) (ap (λ m. m * w) is ∙ add-mul k g w) (ap (λ m. m * c) is ∙ add-mul k g c) step so_far
  where
    sums : (kw kc gw gc nw nc : ℕ) → nw ≡ kw + gw → nc ≡ kc + gc → a' + gw ≡ a + gc → a + kw ≡ b + kc → a' + nw ≡ b + nc
    sums kw kc gw gc nw nc w_is c_is e f = omega (arith, w_is, c_is, e, f)

module _ (places group : List Named) (from r : ℕ) (is : group ≡ take r (drop from places)) where
  pub times_group : (p : ℕ) → times (take (from + r) places) p ≡ times (take from places) p + times group p
  times_group p =
      ap (λ l. times l p) (take-add from r places)
      ∙ sum_by-append (λ (n : Named). one_if (n.place == p)) (take from places) (take r (drop from places))
      ∙ ap (λ l. times (take from places) p + times l p) (sym is)

  times_parts : (p : ℕ) → times (take from places) p + times group p ≤ times places p
  times_parts p = omega (arith, times_group p, sum_by-take-le (λ (n : Named). one_if (n.place == p)) places (from + r))

  module _ (n0 n : Naming) (s0 s : State) (moved : List Moved) (named : AreNamed places n0) (len : length n.named ≡ length n0.named)
      (others : (p : ℕ) → times (take from places) p ≡ 0 → name_now n p ≡ name_now n0 p)
      (so_far : (p t : ℕ) → now_in n s p t + times (take from places) p * went moved t ≡ now_in n0 s0 p t + times (take from places) p * came moved t) where
    all : All (Names n0) group
    all = subst (All (Names n0)) (sym is) (All-take (Names n0) r (drop from places) (All-drop (Names n0) from places named.named))

    -- a place of the group wasn't moved yet
    fresh : (p : ℕ) → 0 < times group p → (times (take from places) p ≡ 0) × (times places p ≡ 1)
    fresh p some = (omega (arith, some, times_parts p, named.once p), omega (arith, some, times_parts p, named.once p))

    pub named_run : AreNamed group n
    named_run =
        record {
          named = λ k d less.
              let (within, name) = all k d less in
              let (none, _) = fresh (get_or group k d).place (member_times group k d less) in
              (omega (arith, within, len), others (get_or group k d).place none ∙ name);
          once = λ p. omega (arith, times_parts p, named.once p);
        }

    pub above_run : 0 < length group → ((p t : ℕ) → times places p * went moved t ≤ now_in n0 s0 p t) → (t : ℕ) → went moved t ≤ now_in n s (named_at group 0).place t
    above_run some above t =
        let p = (named_at group 0).place in
        let (none, one) = fresh p (member_times group 0 (record { line = 0; place = 0 }) some) in
        above_mid (now_in n s p t) (now_in n0 s0 p t) (times (take from places) p) (times places p) (went moved t) (came moved t) (so_far p t) none (above p t) one

    pub now_run : (n' : Naming) (s' : State) → ((p t : ℕ) → now_in n' s' p t + times group p * went moved t ≡ now_in n s p t + times group p * came moved t)
        → (p t : ℕ) → now_in n' s' p t + times (take (from + r) places) p * went moved t ≡ now_in n0 s0 p t + times (take (from + r) places) p * came moved t
    now_run n' s' step p t =
        more_mid (now_in n' s' p t) (now_in n s p t) (now_in n0 s0 p t) (times (take from places) p) (times group p) (times (take (from + r) places) p) (went moved t) (came moved t)
        (step p t) (so_far p t) (times_group p)

    pub names_run : (n' : Naming) → ((p : ℕ) → times group p ≡ 0 → name_now n' p ≡ name_now n p) → (p : ℕ) → times (take (from + r) places) p ≡ 0 → name_now n' p ≡ name_now n0 p
    names_run n' step p none = step p (omega (arith, none, times_group p)) ∙ others p (omega (arith, none, times_group p))

-- the places of a run are all of one line
pub of_run : (rest group : List Named) (r : ℕ) → group ≡ take r rest → 0 < r → AreOf (named_at rest 0).line (take r rest) → AreOf (named_at group 0).line group
of_run rest group r is some of =
    let first : named_at group 0 ≡ named_at rest 0 = ap (λ l. named_at l 0) is ∙ get_or-take r rest 0 (record { line = 0; place = 0 }) some in
    subst (λ x. AreOf x.line group) (sym first) (subst (AreOf (named_at rest 0).line) (sym is) of)
