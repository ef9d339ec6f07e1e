-- Places that a digit keeps, and the limits of counters by places.
use Rattle.cil_lines.proofs.Common.{zero, suc, ◌≡◌, ℕ, ◌+◌, ◌*◌, ◌<◌, ◌≤◌, true, false, List, [], ◌∷◌, ◌++◌, length, get_or, set, refl, sym, ap, ◌∙◌, arith, eq-eqb, if◌then◌else◌, inl, inr, cases_eq, cases_lt, cases_Bool, ne_eqb, lt-ltb, le-ltb, insert, Entry, Words, Rises, HasEntry, HasPlace, has_entry, has_place, limit}
use Rattle.std.proofs.lemmas.List.{length-set}

abbrev entry : ℕ → ℕ → Entry
entry w b = record { word = w; bits = b }

-- ---- entries and dense words

has_entry-set : (es : List Entry) (w b i v : ℕ) → ((d : Entry) → (get_or es i d).word ≡ w) → HasEntry es v → HasEntry (set es i (entry w b)) v
has_entry-set [] w b i v at p = p
has_entry-set (e ∷ es) w b zero v at (inl same) = inl (sym (at e) ∙ same)
has_entry-set (e ∷ es) w b zero v at (inr p) = inr p
has_entry-set (e ∷ es) w b (suc i) v at (inl same) = inl same
has_entry-set (e ∷ es) w b (suc i) v at (inr p) = inr (has_entry-set es w b i v at p)

has_entry-put_in : (es : List Entry) (x : Entry) (i v : ℕ) → HasEntry es v → HasEntry (insert es i x) v
has_entry-put_in [] x i v p = absurd p
has_entry-put_in (e ∷ es) x zero v p = inr p
has_entry-put_in (e ∷ es) x (suc i) v (inl same) = inl same
has_entry-put_in (e ∷ es) x (suc i) v (inr p) = inr (has_entry-put_in es x i v p)

has_entry-below : (n m : ℕ) (es : List Entry) (v : ℕ) → Rises n m es → HasEntry es v → v < m
has_entry-below n m [] v r p = absurd p
has_entry-below n m (e ∷ es) v r (inl same) = let less = r.1 in omega (arith, less, same)
has_entry-below n m (e ∷ es) v r (inr p) = has_entry-below (e.word + 1) m es v r.2 p

module _ (l : List ℕ) (es : List Entry) where
  abbrev digit : Words
  digit = record { dense = l; sparse = es }

  pub kept-dense : (w b v : ℕ) → HasPlace digit v → HasPlace (record { dense = set l w b; sparse = es }) v
  unfolding HasPlace
  kept-dense w b v (inl within) = inl (rw length-set within)
  kept-dense w b v (inr p) = inr p

  pub kept-sparse : (w b i v : ℕ) → ((d : Entry) → (get_or es i d).word ≡ w) → HasPlace digit v → HasPlace (record { dense = l; sparse = set es i (entry w b) }) v
  unfolding HasPlace
  kept-sparse w b i v at (inl within) = inl within
  kept-sparse w b i v at (inr p) = inr (has_entry-set es w b i v at p)

  pub kept-insert : (w i v : ℕ) → HasPlace digit v → HasPlace (record { dense = l; sparse = insert es i (entry w 0) }) v
  unfolding HasPlace
  kept-insert w i v (inl within) = inl within
  kept-insert w i v (inr p) = inr (has_entry-put_in es (entry w 0) i v p)

  pub kept-spread : (l' : List ℕ) (end v : ℕ) → length l' ≡ end → Rises (length l) end es → length l ≤ end → HasPlace digit v → HasPlace (record { dense = l'; sparse = [] }) v
  unfolding HasPlace
  kept-spread l' end v long r behind (inl within) = inl (omega arith)
  kept-spread l' end v long r behind (inr p) = inl (let less = has_entry-below (length l) end es v r p in omega arith)

-- ---- whether a word has a place

entry-tested : (es : List Entry) (w : ℕ) → HasEntry es w → has_entry es w ≡ true
entry-tested [] w p = absurd p
entry-tested (e ∷ es) w (inl same) = ap (λ t. if t then true else has_entry es w) (eq-eqb e.word w same)
entry-tested (e ∷ es) w (inr p) =
    elim (cases_eq e.word w) [
      | inl same ↦ ap (λ t. if t then true else has_entry es w) (eq-eqb e.word w same)
      | inr other ↦ ap (λ t. if t then true else has_entry es w) (ne_eqb e.word w other) ∙ entry-tested es w p
    ]

entry-there : (es : List Entry) (w : ℕ) → has_entry es w ≡ true → HasEntry es w
entry-there [] w has = absurd (cc has)
entry-there (e ∷ es) w has =
    elim (cases_eq e.word w) [
      | inl same ↦ inl same
      | inr other ↦ inr (entry-there es w (sym (ap (λ t. if t then true else has_entry es w) (ne_eqb e.word w other)) ∙ has))
    ]

place-tested : (d : Words) (w : ℕ) → HasPlace d w → has_place d w ≡ true
unfolding HasPlace has_place
place-tested d w (inl within) = ap (λ t. if t then true else has_entry d.sparse w) (lt-ltb w (length d.dense) within)
place-tested d w (inr p) =
    elim (cases_lt w (length d.dense)) [
      | inl within ↦ ap (λ t. if t then true else has_entry d.sparse w) (lt-ltb w (length d.dense) within)
      | inr past ↦ ap (λ t. if t then true else has_entry d.sparse w) (le-ltb w (length d.dense) past) ∙ entry-tested d.sparse w p
    ]

place-there : (d : Words) (w : ℕ) → has_place d w ≡ true → HasPlace d w
unfolding HasPlace has_place
place-there d w has =
    elim (cases_lt w (length d.dense)) [
      | inl within ↦ inl within
      | inr past ↦ inr (entry-there d.sparse w (sym (ap (λ t. if t then true else has_entry d.sparse w) (le-ltb w (length d.dense) past)) ∙ has))
    ]

-- ---- limits

limit-has : (d : Words) (ds : List Words) (w : ℕ) → has_place d w ≡ true → limit (d ∷ ds) w ≡ 2 * limit ds w
unfolding limit
limit-has d ds w has = ap (λ t. if t then 2 * limit ds w else 1) has

limit-lacks : (d : Words) (ds : List Words) (w : ℕ) → has_place d w ≡ false → limit (d ∷ ds) w ≡ 1
unfolding limit
limit-lacks d ds w lacks = ap (λ t. if t then 2 * limit ds w else 1) lacks

pub limit-end : (w : ℕ) → limit [] w ≡ 1
unfolding limit
limit-end w = refl

pub limit-here : (d : Words) (ds : List Words) (w : ℕ) → HasPlace d w → limit (d ∷ ds) w ≡ 2 * limit ds w
limit-here d ds w place = limit-has d ds w (place-tested d w place)

pub limit-some : (ds : List Words) (w : ℕ) → 0 < limit ds w
limit-some [] w = omega (arith, limit-end w)
limit-some (d ∷ ds) w =
    elim (cases_Bool (has_place d w)) [
      | inl has ↦ omega (arith, limit-has d ds w has, limit-some ds w)
      | inr lacks ↦ omega (arith, limit-lacks d ds w lacks)
    ]

-- a word whose counters may be 1 has a place
pub place-limit : (d : Words) (ds : List Words) (w : ℕ) → 1 < limit (d ∷ ds) w → HasPlace d w
place-limit d ds w more =
    elim (cases_Bool (has_place d w)) [
      | inl has ↦ place-there d w has
      | inr lacks ↦ absurd (omega (arith, limit-lacks d ds w lacks))
    ]

pub limit-more : (d e : Words) (ds es : List Words) (w : ℕ) → (HasPlace d w → HasPlace e w) → limit ds w ≤ limit es w → limit (d ∷ ds) w ≤ limit (e ∷ es) w
limit-more d e ds es w kept more =
    elim (cases_Bool (has_place d w)) [
      | inl has ↦ omega (arith, limit-has d ds w has, limit-here e es w (kept (place-there d w has)))
      | inr lacks ↦ omega (arith, limit-lacks d ds w lacks, limit-some (e ∷ es) w)
    ]

pub limit-set : (ds : List Words) (i w : ℕ) (d e : Words) → i < length ds → (HasPlace (get_or ds i d) w → HasPlace e w) → limit ds w ≤ limit (set ds i e) w
limit-set [] i w d e within kept = absurd (omega arith)
limit-set (x ∷ ds) zero w d e within kept = limit-more x e ds ds w kept (omega arith)
limit-set (x ∷ ds) (suc i) w d e within kept = limit-more x x ds (set ds i e) w (λ p. p) (limit-set ds i w d e (omega arith) kept)

pub limit-append : (ds : List Words) (d : Words) (w : ℕ) → limit ds w ≤ limit (ds ++ d ∷ []) w
limit-append [] d w = omega (arith, limit-end w, limit-some (d ∷ []) w)
limit-append (x ∷ ds) d w = limit-more x x ds (ds ++ d ∷ []) w (λ p. p) (limit-append ds d w)
