-- In trees in order no two shape faults of one kind stand at one place.
use Rattle.cil_specs.proofs.Common.{◌≡◌, ℕ, ◌+◌, ◌-◌, ◌<◌, ◌⊎◌, inl, inr, Bool, false, ◌||◌, ◌&&◌, List, [], ◌∷◌, length, map, get_or, zero, suc, sym, ◌∙◌, ap, subst, codes, bytes_eq, IsTrue, refl, ◌==◌, if◌then◌else◌, nat_le, nat_lt, arith, and_parts, and_from, le-leb, Place, TextFaultKind, unsupported, misshapen, not_in_optional, bad_byte, unbalanced, unclosed, unclosed_string, too_deep, bare_word, bad_name, reserved, code_of, TextFault, IsNoLater, Word, Role, Trees, none, a_word, a_string, a_list, in_order, Form, words_of, is_optional, Fits, IsAtWord, IsWordFault, no_keyword, no_fit, in_optional, no_name, IsListFault, IsShapeFault, IsInnerFault, IsBodyFault, IsFirstShapeFault}
use Rattle.std.proofs.Common.{Contains}
use Rattle.cil_specs.proofs.FormSame.{fits_same}
use Rattle.cil_specs.proofs.OrderLemmas.{RiseTo, role_offset, order_word, order_list}
use Rattle.cil_specs.proofs.ShapeLemmas.{inner_of_list}
use Rattle.cil_specs.proofs.FaultOrder.{at-offset, word_at, word_within, fits_rise, fault_within, inner_within, list_within}

-- of words that rise two with one offset are one
contains_same : (words : List (Role × Word)) (low high : ℕ) (v w : Role × Word) (j k : ℕ) → RiseTo low (map role_offset words) high → j < length words → k < length words → get_or words j v ≡ v → get_or words k w ≡ w
    → role_offset v ≡ role_offset w → v ≡ w
contains_same [] low high v w j k rises p q h h' same = absurd (omega arith)
contains_same (x ∷ xs) low high v w zero zero rises p q h h' same = sym h ∙ h'
contains_same (x ∷ xs) low high v w zero (suc k) rises p q h h' same =
    let behind = word_within xs w.0 w.1 (role_offset x + 1) high rises.1 (k, omega (arith, q), h') in
    absurd (omega (arith, behind.0, same, ap role_offset h))
contains_same (x ∷ xs) low high v w (suc j) zero rises p q h h' same =
    let behind = word_within xs v.0 v.1 (role_offset x + 1) high rises.1 (j, omega (arith, p), h) in
    absurd (omega (arith, behind.0, same, ap role_offset h'))
contains_same (x ∷ xs) low high v w (suc j) (suc k) rises p q h h' same = contains_same xs (role_offset x + 1) high v w j k rises.1 (omega (arith, p)) (omega (arith, q)) h h' same

-- two faults of one kind at one word are one
same_at_word : (f g : TextFault) (k l : TextFaultKind) (v w : Word) → IsAtWord f k v → IsAtWord g l w → v ≡ w → f.kind ≡ g.kind → f ≡ g
same_at_word f g k l v w at at' words kinds =
    let kind : k ≡ l = sym (ap (λ f. f.kind) at) ∙ kinds ∙ ap (λ f. f.kind) at' in
    at ∙ (λ i. record { kind = kind i; at = (words i).at; word = (words i).text }) ∙ sym at'

-- a fault by its words is at the first, or at one of the form
record IsNamed (inside : Bool) (place : Place) (text : List ℕ) (operands : Trees) (fault : TextFault) : Type 0 where
  form : Form
  inner : Trees
  role : Role
  word : Word
  kind : TextFaultKind
  fits : Fits (a_word place text operands) form inner
  has : Contains (words_of form) (role, word)
  at : IsAtWord fault kind word

word-cases : (inside : Bool) (place : Place) (text : List ℕ) (operands : Trees) (fault : TextFault) → IsWordFault inside (a_word place text operands) (word_at place text) fault
    → ((kind : TextFaultKind) × IsAtWord fault kind (word_at place text)) ⊎ IsNamed inside place text operands fault
word-cases inside place text operands fault (no_keyword is at) = inl (unsupported, at)
word-cases inside place text operands fault (no_fit is misfit at) = inl (misshapen, at)
word-cases inside place text operands fault (in_optional within is at) = inl (not_in_optional, at)
word-cases inside place text operands fault (no_name form inner role word kind fits has bad at) = inr (record {
  form = form;
  inner = inner;
  role = role;
  word = word;
  kind = kind;
  fits = fits;
  has = has;
  at = at;
})

-- a word of the form stands behind the first
named_behind : (inside : Bool) (place : Place) (text : List ℕ) (operands : Trees) (fault : TextFault) (low high : ℕ) → IsTrue (in_order low (a_word place text operands) high) → IsNamed inside place text operands fault → place.offset < fault.at.offset
named_behind inside place text operands fault low high order n =
    let rises = fits_rise place text operands n.form n.inner low high n.fits order in
    omega (arith, (word_within (words_of n.form) n.role n.word (place.offset + 1) rises.0 rises.1 n.has).0, at-offset fault n.kind n.word n.at)

word_same : (inside : Bool) (place : Place) (text : List ℕ) (operands : Trees) (f g : TextFault) (low high : ℕ) → IsTrue (in_order low (a_word place text operands) high)
    → ((kind : TextFaultKind) × IsAtWord f kind (word_at place text)) ⊎ IsNamed inside place text operands f → ((kind : TextFaultKind) × IsAtWord g kind (word_at place text)) ⊎ IsNamed inside place text operands g
    → f.at.offset ≡ g.at.offset → f.kind ≡ g.kind → f ≡ g
word_same inside place text operands f g low high order (inl h) (inl k) offsets kinds = same_at_word f g h.0 k.0 (word_at place text) (word_at place text) h.1 k.1 refl kinds
word_same inside place text operands f g low high order (inl h) (inr n) offsets kinds =
    absurd (omega (arith, named_behind inside place text operands g low high order n, at-offset f h.0 (word_at place text) h.1, offsets))
word_same inside place text operands f g low high order (inr n) (inl k) offsets kinds =
    absurd (omega (arith, named_behind inside place text operands f low high order n, at-offset g k.0 (word_at place text) k.1, offsets))
word_same inside place text operands f g low high order (inr m) (inr n) offsets kinds =
    let rises = fits_rise place text operands m.form m.inner low high m.fits order in
    let form = (fits_same (a_word place text operands) m.inner n.inner m.form n.form m.fits n.fits).0 in
    let has = subst (λ form. Contains (words_of form) (n.role, n.word)) (sym form) n.has in
    let same = contains_same (words_of m.form) (place.offset + 1) rises.0 (m.role, m.word) (n.role, n.word) m.has.0 has.0 rises.1 m.has.1 has.1 m.has.2 has.2
    (sym (at-offset f m.kind m.word m.at) ∙ offsets ∙ at-offset g n.kind n.word n.at) in
    same_at_word f g m.kind n.kind m.word n.word m.at n.at (ap (λ w. w.1) same) kinds

list_same_fault : (inside : Bool) (at : Place) (parts : Trees) (f g : TextFault) (low high : ℕ) → IsTrue (in_order low parts high) → IsListFault inside at parts f → IsListFault inside at parts g
    → f.at.offset ≡ g.at.offset → f.kind ≡ g.kind → f ≡ g
list_same_fault inside at none f g low high order h k offsets kinds = h ∙ sym k
list_same_fault inside at (a_word place text rest) f g low high order h k offsets kinds =
    word_same inside place text rest f g low high order (word-cases inside place text rest f h) (word-cases inside place text rest g k) offsets kinds
list_same_fault inside at (a_string place text rest) f g low high order h k offsets kinds = h ∙ sym k
list_same_fault inside at (a_list place end items rest) f g low high order h k offsets kinds = h ∙ sym k

-- a list's trees stand in order from its first word on
order_from : (low : ℕ) (place : Place) (text : List ℕ) (rest : Trees) (high : ℕ) → IsTrue (in_order low (a_word place text rest) high) → IsTrue (in_order place.offset (a_word place text rest) high)
order_from low place text rest high order =
    and_from (nat_le place.offset place.offset) (nat_lt 0 (length text) && in_order (place.offset + length text) rest high) (le-leb place.offset place.offset (omega arith)) (and_parts (nat_le low place.offset) (nat_lt 0 (length text) && in_order (place.offset + length text) rest high) order).1

-- a fault by the words of a list stands before those inside it
list_before_inner : (inside : Bool) (at : Place) (parts : Trees) (f g : TextFault) (low high : ℕ) → IsTrue (in_order low parts high) → IsListFault inside at parts f → IsInnerFault inside parts g → f.at.offset < g.at.offset
list_before_inner inside at none f g low high order h k = absurd k
list_before_inner inside at (a_word place text rest) f g low high order h k = by (word-cases inside place text rest f h)
  where
    by : ((kind : TextFaultKind) × IsAtWord f kind (word_at place text)) ⊎ IsNamed inside place text rest f → f.at.offset < g.at.offset
    by (inl p) =
        let o = order_word low place text rest high order in
        let q = inner_within (a_word place text rest) inside place.offset high g (order_from low place text rest high order) k in
        omega (arith, q.0, at-offset f p.0 (word_at place text) p.1)
    by (inr n) =
        let rises = fits_rise place text rest n.form n.inner low high n.fits order in
        let w = word_within (words_of n.form) n.role n.word (place.offset + 1) rises.0 rises.1 n.has in
        let q = fault_within n.inner (inside || is_optional n.form) rises.0 high g rises.2 (inner_of_list inside (a_word place text rest) n.inner n.form g n.fits k) in
        omega (arith, w.1, q.0, at-offset f n.kind n.word n.at)
list_before_inner inside at (a_string place text rest) f g low high order h k = absurd k
list_before_inner inside at (a_list place end items rest) f g low high order h k = absurd k

mutual
  -- two shape faults of one kind and one offset are one
  pub fault_same : (trees : Trees) (inside : Bool) (low high : ℕ) (f g : TextFault) → IsTrue (in_order low trees high) → IsShapeFault inside trees f → IsShapeFault inside trees g
      → f.at.offset ≡ g.at.offset → f.kind ≡ g.kind → f ≡ g
  fault_same none inside low high f g order h k offsets kinds = absurd h
  fault_same (a_word at text rest) inside low high f g order h k offsets kinds =
      fault_same rest inside (at.offset + length text) high f g (order_word low at text rest high order).2 h k offsets kinds
  fault_same (a_string at text rest) inside low high f g order h k offsets kinds =
      fault_same rest inside (at.offset + length text) high f g (order_word low at text rest high order).2 h k offsets kinds
  fault_same (a_list at end parts rest) inside low high f g order (inl h) (inl k) offsets kinds =
      list_same_fault inside at parts f g (at.offset + 1) (end - 1) (order_list low at end parts rest high order).2 h k offsets kinds
  fault_same (a_list at end parts rest) inside low high f g order (inl h) (inr (inl k)) offsets kinds =
      absurd (omega (arith, list_before_inner inside at parts f g (at.offset + 1) (end - 1) (order_list low at end parts rest high order).2 h k, offsets))
  fault_same (a_list at end parts rest) inside low high f g order (inr (inl h)) (inl k) offsets kinds =
      absurd (omega (arith, list_before_inner inside at parts g f (at.offset + 1) (end - 1) (order_list low at end parts rest high order).2 k h, offsets))
  fault_same (a_list at end parts rest) inside low high f g order (inr (inl h)) (inr (inl k)) offsets kinds =
      inner_same parts inside (at.offset + 1) (end - 1) f g (order_list low at end parts rest high order).2 h k offsets kinds
  fault_same (a_list at end parts rest) inside low high f g order (inr (inr h)) (inr (inr k)) offsets kinds =
      fault_same rest inside end high f g (order_list low at end parts rest high order).3 h k offsets kinds
  fault_same (a_list at end parts rest) inside low high f g order (inl h) (inr (inr k)) offsets kinds =
      absurd (omega (arith, (list_within inside at end parts rest low high f order (inl h)).1, (fault_within rest inside end high g (order_list low at end parts rest high order).3 k).0, offsets))
  fault_same (a_list at end parts rest) inside low high f g order (inr (inl h)) (inr (inr k)) offsets kinds =
      absurd (omega (arith, (list_within inside at end parts rest low high f order (inr h)).1, (fault_within rest inside end high g (order_list low at end parts rest high order).3 k).0, offsets))
  fault_same (a_list at end parts rest) inside low high f g order (inr (inr h)) (inl k) offsets kinds =
      absurd (omega (arith, (list_within inside at end parts rest low high g order (inl k)).1, (fault_within rest inside end high f (order_list low at end parts rest high order).3 h).0, offsets))
  fault_same (a_list at end parts rest) inside low high f g order (inr (inr h)) (inr (inl k)) offsets kinds =
      absurd (omega (arith, (list_within inside at end parts rest low high g order (inr k)).1, (fault_within rest inside end high f (order_list low at end parts rest high order).3 h).0, offsets))

  inner_same : (parts : Trees) (inside : Bool) (low high : ℕ) (f g : TextFault) → IsTrue (in_order low parts high) → IsInnerFault inside parts f → IsInnerFault inside parts g → f.at.offset ≡ g.at.offset → f.kind ≡ g.kind → f ≡ g
  inner_same none inside low high f g order h k offsets kinds = absurd h
  inner_same (a_word at text rest) inside low high f g order h k offsets kinds =
      body_same rest (inside || bytes_eq text (codes "optional")) (at.offset + length text) high f g (order_word low at text rest high order).2 h.1 k.1 offsets kinds
  inner_same (a_string at text rest) inside low high f g order h k offsets kinds = absurd h
  inner_same (a_list at end items rest) inside low high f g order h k offsets kinds = absurd h

  body_same : (operands : Trees) (inside : Bool) (low high : ℕ) (f g : TextFault) → IsTrue (in_order low operands high) → IsBodyFault inside operands f → IsBodyFault inside operands g → f.at.offset ≡ g.at.offset → f.kind ≡ g.kind → f ≡ g
  body_same none inside low high f g order h k offsets kinds = absurd h
  body_same (a_word at id rest) inside low high f g order h k offsets kinds =
      fault_same rest inside (at.offset + length id) high f g (order_word low at id rest high order).2 h.1 k.1 offsets kinds
  body_same (a_string at text rest) inside low high f g order h k offsets kinds = absurd h
  body_same (a_list at end items rest) inside low high f g order h k offsets kinds = absurd h

-- the kind that has a code
abbrev kind_of_code : ℕ → TextFaultKind
kind_of_code n =
    if n == 10 then bad_byte else if n == 11 then unbalanced else if n == 12 then unclosed else if n == 13 then unclosed_string else if n == 14 then too_deep else if n == 15 then bare_word
    else if n == 20 then unsupported else if n == 21 then misshapen else if n == 22 then bad_name else if n == 23 then reserved else not_in_optional

kind-of-code : (kind : TextFaultKind) → kind_of_code (code_of kind) ≡ kind
kind-of-code bad_byte = refl
kind-of-code _ = refl

-- of two faults neither of which is later the offset and the kind are one
same_rank : (f g : TextFault) → IsNoLater f g → IsNoLater g f → (f.at.offset ≡ g.at.offset) × (f.kind ≡ g.kind)
same_rank f g (inl h) (inl k) = absurd (omega (arith, h, k))
same_rank f g (inl h) (inr k) = absurd (omega (arith, h, k.0))
same_rank f g (inr h) (inl k) = absurd (omega (arith, h.0, k))
same_rank f g (inr h) (inr k) =
    let codes_same : code_of f.kind ≡ code_of g.kind = omega (arith, h.1, k.1) in
    (h.0, sym (kind-of-code f.kind) ∙ ap kind_of_code codes_same ∙ kind-of-code g.kind)

-- of trees in order the first fault is one
pub first_fault_same : (trees : Trees) (low high : ℕ) (f g : TextFault) → IsTrue (in_order low trees high) → IsFirstShapeFault trees f → IsFirstShapeFault trees g → f ≡ g
first_fault_same trees low high f g order h k =
    let rank = same_rank f g (h.first g k.is) (k.first f h.is) in
    fault_same trees false low high f g order h.is k.is rank.0 rank.1
