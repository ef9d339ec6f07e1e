-- How the counters of a line move, word by word.
use Rattle.cil_keyed_lines.proofs.Common.{AreMoves, CanLower, CanRaise, HasRoomFrom, HasRoomTo, List, Moved, State, ap, arith, came, cases_eq, count_now, eq-eqb, hit, hit_at, hit_in, hit_off, if◌then◌else◌, in_line, inl, inr, length, limit_now, move_at, ne_eqb, subst, sym, take, went, ℕ, ◌+◌, ◌/◌, ◌<◌, ◌≡◌, ◌≢◌, ◌≤◌}
use Rattle.std.proofs.lemmas.List.Sums.{sum_by_more, sum_by_more_le}
use Rattle.cil_lines.proofs.StepLemmas.{hit-there}

-- ---- so much in a line

pub in_here : (line : ℕ) (amount : ℕ → ℕ) (l t : ℕ) → l ≡ line → in_line line amount l t ≡ amount t
unfolding in_line
in_here line amount l t same = ap (λ b. if b then amount t else 0) (eq-eqb l line same)

pub in_other : (line : ℕ) (amount : ℕ → ℕ) (l t : ℕ) → l ≢ line → in_line line amount l t ≡ 0
unfolding in_line
in_other line amount l t other = ap (λ b. if b then amount t else 0) (ne_eqb l line other)

-- what moves in a line is more by the targets of a mask
in_more : (line : ℕ) (amount more : ℕ → ℕ) (word mask : ℕ) → ((t : ℕ) → more t ≡ amount t + hit word mask t) → (l t : ℕ) → in_line line more l t ≡ in_line line amount l t + hit_at line word mask l t
in_more line amount more word mask grown l t = elim (cases_eq l line) [
  | inl here ↦ omega (arith, grown t, in_here line amount l t here, in_here line more l t here, hit_in line word mask l t here)
  | inr other ↦ omega (arith, in_other line amount l t other, in_other line more l t other, hit_off line word mask l t other)
]

-- ---- a further word

module _ (moved : List Moved) (i : ℕ) (within : i < length moved) where
  abbrev m : Moved
  m = move_at moved i

  pub went_more : (t : ℕ) → went (take (i + 1) moved) t ≡ went (take i moved) t + hit m.word m.gone t
  went_more t = sum_by_more (λ (x : Moved). hit x.word x.gone t) moved i (record { word = 0; gone = 0; come = 0 }) within

  pub came_more : (t : ℕ) → came (take (i + 1) moved) t ≡ came (take i moved) t + hit m.word m.come t
  came_more t = sum_by_more (λ (x : Moved). hit x.word x.come t) moved i (record { word = 0; gone = 0; come = 0 }) within

  -- what goes in it can go
  pub can_lower : (line : ℕ) (old now : State) → ((l t : ℕ) → count_now now l t + in_line line (went (take i moved)) l t ≡ count_now old l t + in_line line (came (take i moved)) l t)
      → ((t : ℕ) → went moved t ≤ count_now old line t) → CanLower (count_now now line) m.word m.gone
  can_lower line old now so_far above t =
      omega (
        arith,
        above t,
        so_far line t,
        in_here line (went (take i moved)) line t (λ _. line),
        in_here line (came (take i moved)) line t (λ _. line),
        sum_by_more_le (λ (x : Moved). hit x.word x.gone t) moved i (record { word = 0; gone = 0; come = 0 }) within,
      )

  -- the counters that have moved behind it
  pub now_more : (line : ℕ) (old now low new : State) → ((l t : ℕ) → count_now now l t + in_line line (went (take i moved)) l t ≡ count_now old l t + in_line line (came (take i moved)) l t)
      → ((l t : ℕ) → count_now low l t + hit_at line m.word m.gone l t ≡ count_now now l t) → ((l t : ℕ) → count_now new l t ≡ count_now low l t + hit_at line m.word m.come l t)
      → (l t : ℕ) → count_now new l t + in_line line (went (take (i + 1) moved)) l t ≡ count_now old l t + in_line line (came (take (i + 1) moved)) l t
  now_more line old now low new so_far fell rose l t =
      omega (
        arith,
        so_far l t,
        fell l t,
        rose l t,
        in_more line (went (take i moved)) (went (take (i + 1) moved)) m.word m.gone went_more l t,
        in_more line (came (take i moved)) (came (take (i + 1) moved)) m.word m.come came_more l t,
      )

  -- what comes in it can still come behind what went, and so can what comes in the words behind it
  pub can_raise : (line : ℕ) (now low : State) → HasRoomFrom now line moved i → ((l t : ℕ) → count_now low l t + hit_at line m.word m.gone l t ≡ count_now now l t)
      → ((l w : ℕ) → limit_now now l w ≤ limit_now low l w) → CanRaise (count_now low line) (limit_now low line) m.word m.come
  can_raise line now low room fell more t one = omega (arith, room i (omega arith) within t one, fell line t, more line (t / 64))

  pub room_more : (line : ℕ) (now low new : State) → AreMoves moved → HasRoomFrom now line moved i → ((l t : ℕ) → count_now low l t + hit_at line m.word m.gone l t ≡ count_now now l t)
      → ((l t : ℕ) → count_now new l t ≡ count_now low l t + hit_at line m.word m.come l t) → ((l w : ℕ) → limit_now now l w ≤ limit_now low l w) → ((l w : ℕ) → limit_now low l w ≤ limit_now new l w)
      → HasRoomFrom new line moved (i + 1)
  room_more line now low new are room fell rose more more' j past less t one =
      let apart : t / 64 ≢ m.word = λ e. elsewhere e in
      omega (
        arith,
        room j (omega (arith, past)) less t one,
        fell line t,
        rose line t,
        hit_in line m.word m.gone line t (λ _. line),
        hit_in line m.word m.come line t (λ _. line),
        hit-there m.word m.gone t apart,
        hit-there m.word m.come t apart,
        more line (t / 64),
        more' line (t / 64),
      )
    where
      elsewhere : t / 64 ≡ m.word → ⊥
      elsewhere e = elim (cases_eq (t / 64) (move_at moved j).word) [
        | inl here ↦ omega (arith, are.rising i j (omega (arith, past)) less, e, here)
        | inr there ↦ omega (arith, one, hit-there (move_at moved j).word (move_at moved j).come t there)
      ]

-- room that is made for a further word
pub room_made : (moved : List Moved) (i line : ℕ) (now new : State) → HasRoomTo now line moved i → CanRaise (count_now new line) (limit_now new line) (move_at moved i).word (move_at moved i).come
    → ((l t : ℕ) → count_now new l t ≡ count_now now l t) → ((l w : ℕ) → limit_now now l w ≤ limit_now new l w) → HasRoomTo new line moved (i + 1)
room_made moved i line now new room here same more j before less = elim (cases_eq j i) [
  | inl last ↦ subst (λ n. CanRaise (count_now new line) (limit_now new line) (move_at moved n).word (move_at moved n).come) (sym last) here
  | inr other ↦ λ t one. omega (arith, room j (omega (arith, before, other)) less t one, same line t, more line (t / 64))
]
