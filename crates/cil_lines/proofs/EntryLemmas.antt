-- Entries of a digit, in the order of their words.
use Rattle.cil_lines.proofs.Common.{zero, suc, ◌≡◌, ◌≢◌, ℕ, ◌+◌, ◌-◌, ◌<◌, ◌≤◌, ◌==◌, List, [], ◌∷◌, length, get_or, take, set, ltb, false, refl, sym, ap, subst, ◌∙◌, arith, eq-eqb, if◌then◌else◌, inl, inr, cases_eq, ne_eqb, le-ltb, get_or-set_same, get_or-set_other, insert, Entry, bits_in, Rises, HasEntry, IsEntry, IsGap}

abbrev entry : ℕ → ℕ → Entry
entry w b = record { word = w; bits = b }

pub bits-here : (e : Entry) (es : List Entry) (w : ℕ) → e.word ≡ w → bits_in (e ∷ es) w ≡ e.bits
bits-here e es w p = ap (λ t. if t then e.bits else bits_in es w) (eq-eqb e.word w p)

pub bits-there : (e : Entry) (es : List Entry) (w : ℕ) → e.word ≢ w → bits_in (e ∷ es) w ≡ bits_in es w
bits-there e es w p = ap (λ t. if t then e.bits else bits_in es w) (ne_eqb e.word w p)

-- ---- what rising words say of one another

pub Rises-from : (n m l : ℕ) (es : List Entry) → l ≤ n → Rises n m es → Rises l m es
Rises-from n m l [] le r = tt
Rises-from n m l (e ∷ es) le r = (omega (arith, r.0), r.1, r.2)

pub Rises-above : (n m : ℕ) (es : List Entry) → Rises n m es → (k : ℕ) (d : Entry) → k < length es → n ≤ (get_or es k d).word
Rises-above n m [] r k d within = absurd (omega arith)
Rises-above n m (e ∷ es) r zero d within = r.0
Rises-above n m (e ∷ es) r (suc k) d within = omega (arith, r.0, Rises-above (e.word + 1) m es r.2 k d (omega arith))

pub Rises-below : (n m : ℕ) (es : List Entry) → Rises n m es → (k : ℕ) (d : Entry) → k < length es → (get_or es k d).word < m
Rises-below n m [] r k d within = absurd (omega arith)
Rises-below n m (e ∷ es) r zero d within = r.1
Rises-below n m (e ∷ es) r (suc k) d within = Rises-below (e.word + 1) m es r.2 k d (omega arith)

pub Rises-strictly : (n m : ℕ) (es : List Entry) → Rises n m es → (i j : ℕ) (d : Entry) → i < j → j < length es → (get_or es i d).word < (get_or es j d).word
Rises-strictly n m [] r i j d before within = absurd (omega arith)
Rises-strictly n m (e ∷ es) r i zero d before within = absurd (omega arith)
Rises-strictly n m (e ∷ es) r zero (suc j) d before within = omega (arith, Rises-above (e.word + 1) m es r.2 j d (omega arith))
Rises-strictly n m (e ∷ es) r (suc i) (suc j) d before within = Rises-strictly (e.word + 1) m es r.2 i j d (omega arith) (omega arith)

pub Rises-to : (n m l : ℕ) (es : List Entry) → ((k : ℕ) (d : Entry) → k < length es → (get_or es k d).word < l) → Rises n m es → Rises n l es
Rises-to n m l [] all r = tt
Rises-to n m l (e ∷ es) all r = (r.0, all 0 e (omega arith), Rises-to (e.word + 1) m l es (λ k d within. all (suc k) d (omega arith)) r.2)

-- no word is above the last
pub Rises-last : (n m : ℕ) (es : List Entry) → Rises n m es → (k : ℕ) (d : Entry) → k < length es → (get_or es k d).word ≤ (get_or es (length es - 1) d).word
Rises-last n m es r k d within =
    elim (cases_eq k (length es - 1)) [
      | inl e ↦ let same = ap (λ j. (get_or es j d).word) e in omega (arith, same)
      | inr other ↦ let lower = Rises-strictly n m es r k (length es - 1) d (omega (arith, other)) (omega arith) in omega (arith, lower)
    ]

-- ---- where a word's entry stands, or would stand

entry_behind : (e : Entry) (es : List Entry) (w i : ℕ) → IsEntry (e ∷ es) w (suc i) → IsEntry es w i
entry_behind e es w i p =
    let within = p.within in
    record { within = omega arith; at = p.at; below = λ k d before. p.below (suc k) d (omega arith) }

gap_behind : (e : Entry) (es : List Entry) (w i : ℕ) → IsGap (e ∷ es) w (suc i) → IsGap es w i
gap_behind e es w i p =
    let upto = p.within in
    record { within = omega arith; below = λ k d before. p.below (suc k) d (omega arith); above = λ k d from within. p.above (suc k) d (omega arith) (omega arith) }

gap_first : (e : Entry) (es : List Entry) (w : ℕ) → IsGap (e ∷ es) w zero → IsGap es w zero
gap_first e es w p = record { within = omega arith; below = λ k d before. absurd (omega arith); above = λ k d from within. p.above (suc k) d (omega arith) (omega arith) }

lower : (e : Entry) (es : List Entry) (w i : ℕ) → IsEntry (e ∷ es) w (suc i) → e.word < w
lower e es w i p = p.below 0 e (omega arith)

gap_lower : (e : Entry) (es : List Entry) (w i : ℕ) → IsGap (e ∷ es) w (suc i) → e.word < w
gap_lower e es w i p = p.below 0 e (omega arith)

gap_higher : (e : Entry) (es : List Entry) (w : ℕ) → IsGap (e ∷ es) w zero → w < e.word
gap_higher e es w p = p.above 0 e (omega arith) (omega arith)

pub bits_in-entry : (es : List Entry) (w i : ℕ) (d : Entry) → IsEntry es w i → bits_in es w ≡ (get_or es i d).bits
bits_in-entry [] w i d p = let within = p.within in absurd (omega arith)
bits_in-entry (e ∷ es) w zero d p = bits-here e es w (p.at d)
bits_in-entry (e ∷ es) w (suc i) d p = let less = lower e es w i p in bits-there e es w (λ q. omega (arith, q)) ∙ bits_in-entry es w i d (entry_behind e es w i p)

pub bits_in-gap : (es : List Entry) (w i : ℕ) → IsGap es w i → bits_in es w ≡ 0
bits_in-gap [] w i p = refl
bits_in-gap (e ∷ es) w zero p = let more = gap_higher e es w p in bits-there e es w (λ q. omega (arith, q)) ∙ bits_in-gap es w zero (gap_first e es w p)
bits_in-gap (e ∷ es) w (suc i) p = let less = gap_lower e es w i p in bits-there e es w (λ q. omega (arith, q)) ∙ bits_in-gap es w i (gap_behind e es w i p)

pub no_entry-gap : (es : List Entry) (w i : ℕ) → IsGap es w i → HasEntry es w → ⊥
no_entry-gap [] w i p h = h
no_entry-gap (e ∷ es) w zero p (inl q) = let more = gap_higher e es w p in omega (arith, q)
no_entry-gap (e ∷ es) w zero p (inr h) = no_entry-gap es w zero (gap_first e es w p) h
no_entry-gap (e ∷ es) w (suc i) p (inl q) = let less = gap_lower e es w i p in omega (arith, q)
no_entry-gap (e ∷ es) w (suc i) p (inr h) = no_entry-gap es w i (gap_behind e es w i p) h

pub has_entry-at : (es : List Entry) (w i : ℕ) → IsEntry es w i → HasEntry es w
has_entry-at [] w i p = let within = p.within in absurd (omega arith)
has_entry-at (e ∷ es) w zero p = inl (p.at e)
has_entry-at (e ∷ es) w (suc i) p = inr (has_entry-at es w i (entry_behind e es w i p))

-- ---- an entry is put in, with no bit

pub has_entry-insert : (es : List Entry) (w b i : ℕ) → i ≤ length es → HasEntry (insert es i (entry w b)) w
has_entry-insert es w b zero within = inl refl
has_entry-insert [] w b (suc i) within = absurd (omega arith)
has_entry-insert (e ∷ es) w b (suc i) within = inr (has_entry-insert es w b i (omega arith))

pub Rises-insert : (n m : ℕ) (es : List Entry) (w b i : ℕ) → Rises n m es → IsGap es w i → n ≤ w → w < m → Rises n m (insert es i (entry w b))
Rises-insert n m [] w b zero r p from to = (from, to, tt)
Rises-insert n m [] w b (suc i) r p from to = let within = p.within in absurd (omega arith)
Rises-insert n m (e ∷ es) w b zero r p from to = let more = gap_higher e es w p in (from, to, (omega arith, r.1, r.2))
Rises-insert n m (e ∷ es) w b (suc i) r p from to =
    let less = gap_lower e es w i p in
    (r.0, r.1, Rises-insert (e.word + 1) m es w b i r.2 (gap_behind e es w i p) (omega arith) to)

pub bits_in-insert : (es : List Entry) (w i : ℕ) → IsGap es w i → (v : ℕ) → bits_in (insert es i (entry w 0)) v ≡ bits_in es v
bits_in-insert es w zero p v =
    elim (cases_eq w v) [
      | inl q ↦ bits-here (entry w 0) es v q ∙ sym (bits_in-gap es w zero p) ∙ ap (bits_in es) q
      | inr n ↦ bits-there (entry w 0) es v n
    ]
bits_in-insert [] w (suc i) p v = let within = p.within in absurd (omega arith)
bits_in-insert (e ∷ es) w (suc i) p v = ap (λ n. if e.word == v then e.bits else n) (bits_in-insert es w i (gap_behind e es w i p) v)

-- ---- the bits of an entry change

pub Rises-set : (n m : ℕ) (es : List Entry) (w b i : ℕ) → IsEntry es w i → Rises n m es → Rises n m (set es i (entry w b))
Rises-set n m [] w b i p r = let within = p.within in absurd (omega arith)
Rises-set n m (e ∷ es) w b zero p r = subst (λ k. (n ≤ k) × (k < m) × Rises (k + 1) m es) (p.at e) r
Rises-set n m (e ∷ es) w b (suc i) p r = (r.0, r.1, Rises-set (e.word + 1) m es w b i (entry_behind e es w i p) r.2)

pub bits_in-set_same : (es : List Entry) (w b i : ℕ) → IsEntry es w i → bits_in (set es i (entry w b)) w ≡ b
bits_in-set_same [] w b i p = let within = p.within in absurd (omega arith)
bits_in-set_same (e ∷ es) w b zero p = bits-here (entry w b) es w refl
bits_in-set_same (e ∷ es) w b (suc i) p =
    let less = lower e es w i p in
    bits-there e (set es i (entry w b)) w (λ q. omega (arith, q)) ∙ bits_in-set_same es w b i (entry_behind e es w i p)

pub bits_in-set_other : (es : List Entry) (w b i v : ℕ) → IsEntry es w i → v ≢ w → bits_in (set es i (entry w b)) v ≡ bits_in es v
bits_in-set_other [] w b i v p other = let within = p.within in absurd (omega arith)
bits_in-set_other (e ∷ es) w b zero v p other =
    bits-there (entry w b) es v (λ q. other (sym q)) ∙ sym (bits-there e es v (λ q. other (sym q ∙ p.at e)))
bits_in-set_other (e ∷ es) w b (suc i) v p other = ap (λ n. if e.word == v then e.bits else n) (bits_in-set_other es w b i v (entry_behind e es w i p) other)

-- ---- the first entries alone

pub bits_in-take_same : (n m : ℕ) (es : List Entry) (i v : ℕ) (d : Entry) → Rises n m es → i < length es → (get_or es i d).word ≡ v → bits_in (take (suc i) es) v ≡ (get_or es i d).bits
bits_in-take_same n m [] i v d r within here = absurd (omega arith)
bits_in-take_same n m (e ∷ es) zero v d r within here = bits-here e [] v here
bits_in-take_same n m (e ∷ es) (suc i) v d r within here =
    let more = Rises-above (e.word + 1) m es r.2 i d (omega arith) in
    bits-there e (take (suc i) es) v (λ q. omega (arith, q, here)) ∙ bits_in-take_same (e.word + 1) m es i v d r.2 (omega arith) here

pub bits_in-take_other : (es : List Entry) (i v : ℕ) (d : Entry) → i < length es → (get_or es i d).word ≢ v → bits_in (take (suc i) es) v ≡ bits_in (take i es) v
bits_in-take_other [] i v d within other = absurd (omega arith)
bits_in-take_other (e ∷ es) zero v d within other = bits-there e [] v other
bits_in-take_other (e ∷ es) (suc i) v d within other = ap (λ n. if e.word == v then e.bits else n) (bits_in-take_other es i v d (omega arith) other)

pub bits_in-past : (n m : ℕ) (es : List Entry) (v : ℕ) → Rises n m es → m ≤ v → bits_in es v ≡ 0
bits_in-past n m [] v r past = refl
bits_in-past n m (e ∷ es) v r past = let less = r.1 in bits-there e es v (λ q. omega (arith, q)) ∙ bits_in-past (e.word + 1) m es v r.2 past

-- one entry more is written
pub fill_step : (n m : ℕ) (es : List Entry) (k : ℕ) (d : Entry) (old words : List ℕ) → Rises n m es → k < length es → (get_or es k d).word < length words
    → ((w : ℕ) → get_or words w 0 ≡ (if ltb w n then get_or old w 0 else bits_in (take k es) w))
    → (w : ℕ) → get_or (set words (get_or es k d).word (get_or es k d).bits) w 0 ≡ (if ltb w n then get_or old w 0 else bits_in (take (k + 1) es) w)
fill_step n m es k d old words r within fits before w =
    let e = get_or es k d in
    let next : k + 1 ≡ suc k = omega arith in
    let above = Rises-above n m es r k d within in
    elim (cases_eq e.word w) [
      | inl q ↦
          let written = ap (λ j. get_or (set words e.word e.bits) j 0) (sym q) ∙ get_or-set_same words e.word e.bits 0 fits in
          let later : ltb w n ≡ false = le-ltb w n (omega (arith, above, q)) in
          written ∙ sym (bits_in-take_same n m es k w d r within q) ∙ ap (λ j. bits_in (take j es) w) (sym next)
          ∙ sym (ap (λ t. if t then get_or old w 0 else bits_in (take (k + 1) es) w) later)
      | inr other ↦
          get_or-set_other words e.word w e.bits 0 (λ q. other (sym q)) ∙ before w
          ∙ ap (λ x. if ltb w n then get_or old w 0 else x) (sym (bits_in-take_other es k w d within other) ∙ ap (λ j. bits_in (take j es) w) (sym next))
    ]
