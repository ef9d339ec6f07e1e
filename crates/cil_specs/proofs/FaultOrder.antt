-- Where the shape faults stand in trees in order, and which is the first.
use Rattle.cil_specs.proofs.Common.{◌≡◌, ℕ, ◌+◌, ◌-◌, ◌<◌, ◌≤◌, ◌⊎◌, inl, inr, Bool, false, ◌||◌, List, [], ◌∷◌, length, map, get_or, sym, ◌∙◌, ap, codes, bytes_eq, IsTrue, arith, get_or-map, length-map, Place, TextFaultKind, unsupported, misshapen, not_in_optional, code_of, TextFault, IsNoLater, Word, Role, Trees, none, a_word, a_string, a_list, in_order, Form, words_of, Fits, keywords, is_among, IsAtWord, IsWordFault, no_keyword, no_fit, in_optional, no_name, IsListFault, IsShapeFault, IsInnerFault, IsBodyFault}
use Rattle.std.proofs.Common.{Contains}
use Rattle.cil_specs.proofs.FormLemmas.{fits_parts}
use Rattle.cil_specs.proofs.OrderLemmas.{RiseTo, RiseThen, rise_within, role_offset, order_word, order_list, order_le, words_rise}

-- the fault at the ( of a list
abbrev pub at_bracket : Place → TextFault
at_bracket at = record { kind = misshapen; at = at; word = 40 ∷ [] }

-- the word of a text at a place
abbrev pub word_at : Place → List ℕ → Word
word_at place text = record { at = place; text = text }

-- a fault at a word stands where the word does
pub at-offset : (fault : TextFault) (kind : TextFaultKind) (word : Word) → IsAtWord fault kind word → fault.at.offset ≡ word.at.offset
at-offset fault kind word h = ap (λ f. f.at.offset) h

-- within two bounds
abbrev pub IsWithin : ℕ → ℕ → ℕ → Type 0
IsWithin low high n = (low ≤ n) × (n < high)

-- one of words that rise stands within their bounds
pub word_within : (words : List (Role × Word)) (role : Role) (word : Word) (low high : ℕ) → RiseTo low (map role_offset words) high → Contains words (role, word) → IsWithin low high word.at.offset
word_within words role word low high rises h =
    let p = rise_within low (map role_offset words) high h.0 0 (omega (arith, length-map words role_offset, h.1)) rises in
    let e : get_or (map role_offset words) h.0 0 ≡ word.at.offset = get_or-map role_offset words h.0 (role, word) 0 h.1 ∙ ap role_offset h.2 in
    (omega (arith, p.0, e), omega (arith, p.1, e))

-- what stands behind the first word of a list that fits
pub fits_rise : (place : Place) (text : List ℕ) (operands : Trees) (form : Form) (inner : Trees) (low high : ℕ) → Fits (a_word place text operands) form inner → IsTrue (in_order low (a_word place text operands) high)
    → RiseThen (place.offset + 1) (map role_offset (words_of form)) inner high
fits_rise place text operands form inner low high fits order =
    let p = order_word low place text operands high order in
    let q = words_rise form operands inner (place.offset + length text) high (fits_parts place text operands form inner fits).1 p.2 in
    (q.0, rise_lower (place.offset + length text) (map role_offset (words_of form)) q.0 (omega (arith, p.1)) q.1, q.2)
  where
    rise_lower : (from : ℕ) (ns : List ℕ) (to : ℕ) → place.offset + 1 ≤ from → RiseTo from ns to → RiseTo (place.offset + 1) ns to
    rise_lower from [] to less h = omega (arith, less, h)
    rise_lower from (n ∷ ns) to less h = (omega (arith, less, h.0), h.1)

word_fault_within : (inside : Bool) (place : Place) (text : List ℕ) (operands : Trees) (low high : ℕ) (fault : TextFault) → IsTrue (in_order low (a_word place text operands) high)
    → IsWordFault inside (a_word place text operands) (word_at place text) fault → IsWithin low high fault.at.offset
word_fault_within inside place text operands low high fault order h = by h
  where
    p : (low ≤ place.offset) × (place.offset < place.offset + length text) × IsTrue (in_order (place.offset + length text) operands high)
    p = order_word low place text operands high order

    front : (kind : TextFaultKind) → IsAtWord fault kind (word_at place text) → IsWithin low high fault.at.offset
    front kind at =
        let e = at-offset fault kind (word_at place text) at in
        (omega (arith, p.0, e), omega (arith, p.1, e, order_le (place.offset + length text) operands high p.2))

    by : IsWordFault inside (a_word place text operands) (word_at place text) fault → IsWithin low high fault.at.offset
    by (no_keyword is at) = front unsupported at
    by (no_fit is misfit at) = front misshapen at
    by (in_optional within is at) = front not_in_optional at
    by (no_name form inner role word kind fits has bad at) =
        let r = fits_rise place text operands form inner low high fits order in
        let w = word_within (words_of form) role word (place.offset + 1) r.0 r.1 has in
        let e = at-offset fault kind word at in
        (omega (arith, p.0, w.0, e), omega (arith, w.1, e, order_le r.0 inner high r.2))

list_fault_within : (inside : Bool) (at : Place) (parts : Trees) (end : ℕ) (fault : TextFault) → 0 < end → IsTrue (in_order (at.offset + 1) parts (end - 1)) → IsListFault inside at parts fault → IsWithin at.offset end fault.at.offset
list_fault_within inside at none end fault some order h =
    let e = at-offset fault misshapen (word_at at (40 ∷ [])) h in
    (omega (arith, e), omega (arith, e, order_le (at.offset + 1) none (end - 1) order))
list_fault_within inside at (a_word place text operands) end fault some order h =
    let p = word_fault_within inside place text operands (at.offset + 1) (end - 1) fault order h in
    (omega (arith, p.0), omega (arith, p.1))
list_fault_within inside at (a_string place text rest) end fault some order h =
    let e = at-offset fault misshapen (word_at at (40 ∷ [])) h in
    (omega (arith, e), omega (arith, e, order_le (at.offset + 1) (a_string place text rest) (end - 1) order))
list_fault_within inside at (a_list place to items rest) end fault some order h =
    let e = at-offset fault misshapen (word_at at (40 ∷ [])) h in
    (omega (arith, e), omega (arith, e, order_le (at.offset + 1) (a_list place to items rest) (end - 1) order))

mutual
  -- a fault stands within the bounds of the trees
  pub fault_within : (trees : Trees) (inside : Bool) (low high : ℕ) (fault : TextFault) → IsTrue (in_order low trees high) → IsShapeFault inside trees fault → IsWithin low high fault.at.offset
  fault_within none inside low high fault order h = absurd h
  fault_within (a_word at text rest) inside low high fault order h =
      let p = order_word low at text rest high order in
      let q = fault_within rest inside (at.offset + length text) high fault p.2 h in
      (omega (arith, p.0, p.1, q.0), q.1)
  fault_within (a_string at text rest) inside low high fault order h =
      let p = order_word low at text rest high order in
      let q = fault_within rest inside (at.offset + length text) high fault p.2 h in
      (omega (arith, p.0, p.1, q.0), q.1)
  fault_within (a_list at end parts rest) inside low high fault order (inl h) =
      let p = order_list low at end parts rest high order in
      let q = list_fault_within inside at parts end fault p.1 p.2 h in
      (omega (arith, p.0, q.0), omega (arith, q.1, order_le end rest high p.3))
  fault_within (a_list at end parts rest) inside low high fault order (inr (inl h)) =
      let p = order_list low at end parts rest high order in
      let q = inner_within parts inside (at.offset + 1) (end - 1) fault p.2 h in
      (omega (arith, p.0, q.0), omega (arith, q.1, order_le end rest high p.3))
  fault_within (a_list at end parts rest) inside low high fault order (inr (inr h)) =
      let p = order_list low at end parts rest high order in
      let q = fault_within rest inside end high fault p.3 h in
      (omega (arith, p.0, p.1, q.0, order_le (at.offset + 1) parts (end - 1) p.2), q.1)

  -- a fault inside a list stands behind its first byte
  pub inner_within : (parts : Trees) (inside : Bool) (low high : ℕ) (fault : TextFault) → IsTrue (in_order low parts high) → IsInnerFault inside parts fault → IsWithin (low + 1) high fault.at.offset
  inner_within none inside low high fault order h = absurd h
  inner_within (a_word at text rest) inside low high fault order h =
      let p = order_word low at text rest high order in
      let q = body_within rest (inside || bytes_eq text (codes "optional")) (at.offset + length text) high fault p.2 h.1 in
      (omega (arith, p.0, p.1, q.0), q.1)
  inner_within (a_string at text rest) inside low high fault order h = absurd h
  inner_within (a_list at end items rest) inside low high fault order h = absurd h

  body_within : (operands : Trees) (inside : Bool) (low high : ℕ) (fault : TextFault) → IsTrue (in_order low operands high) → IsBodyFault inside operands fault → IsWithin low high fault.at.offset
  body_within none inside low high fault order h = absurd h
  body_within (a_word at id rest) inside low high fault order h =
      let p = order_word low at id rest high order in
      let q = fault_within rest inside (at.offset + length id) high fault p.2 h.1 in
      (omega (arith, p.0, p.1, q.0), q.1)
  body_within (a_string at text rest) inside low high fault order h = absurd h
  body_within (a_list at end items rest) inside low high fault order h = absurd h

-- the faults of a list stand before its end
pub list_within : (inside : Bool) (at : Place) (end : ℕ) (parts rest : Trees) (low high : ℕ) (fault : TextFault) → IsTrue (in_order low (a_list at end parts rest) high)
    → IsListFault inside at parts fault ⊎ IsInnerFault inside parts fault → IsWithin low end fault.at.offset
list_within inside at end parts rest low high fault order (inl h) =
    let p = order_list low at end parts rest high order in
    let q = list_fault_within inside at parts end fault p.1 p.2 h in
    (omega (arith, p.0, q.0), q.1)
list_within inside at end parts rest low high fault order (inr h) =
    let p = order_list low at end parts rest high order in
    let q = inner_within parts inside (at.offset + 1) (end - 1) fault p.2 h in
    (omega (arith, p.0, q.0), omega (arith, q.1))

-- The first of the faults of a list.

-- a fault at a word is no later than others at it with no lesser code
pub no_later-here : (fault other : TextFault) (kind kind' : TextFaultKind) (word : Word) → IsAtWord fault kind word → IsAtWord other kind' word → code_of kind ≤ code_of kind' → IsNoLater fault other
no_later-here fault other kind kind' word here there less =
    inr (
      at-offset fault kind word here ∙ sym (at-offset other kind' word there),
      omega (arith, less, ap (λ f. code_of f.kind) here, ap (λ f. code_of f.kind) there),
    )

-- a fault at the first word comes before those that stand behind it, and is first where its code is the least at the word
pub front_first : (inside : Bool) (place : Place) (text : List ℕ) (operands : Trees) (low high : ℕ) (kind : TextFaultKind) (fault other : TextFault) → IsAtWord fault kind (word_at place text)
    → (is_among keywords text ≡ false → code_of kind ≤ 20) → (IsTrue (is_among keywords text) → ((form : Form) (inner : Trees) → Fits (a_word place text operands) form inner → ⊥) → code_of kind ≤ 21) → code_of kind ≤ 24
    → IsTrue (in_order low (a_word place text operands) high) → IsWordFault inside (a_word place text operands) (word_at place text) other ⊎ IsInnerFault inside (a_word place text operands) other → IsNoLater fault other
front_first inside place text operands low high kind fault other here first second third order (inl (no_keyword is at)) = no_later-here fault other kind unsupported (word_at place text) here at (first is)
front_first inside place text operands low high kind fault other here first second third order (inl (no_fit is misfit at)) = no_later-here fault other kind misshapen (word_at place text) here at (second is misfit)
front_first inside place text operands low high kind fault other here first second third order (inl (in_optional within is at)) = no_later-here fault other kind not_in_optional (word_at place text) here at third
front_first inside place text operands low high kind fault other here first second third order (inl (no_name form inner role word bad fits has is at)) =
    let r = fits_rise place text operands form inner low high fits order in
    let w = word_within (words_of form) role word (place.offset + 1) r.0 r.1 has in
    inl (omega (arith, w.0, at-offset fault kind (word_at place text) here, at-offset other bad word at))
front_first inside place text operands low high kind fault other here first second third order (inr h) =
    let p = order_word low place text operands high order in
    let q = body_within operands (inside || bytes_eq text (codes "optional")) (place.offset + length text) high other p.2 h.1 in
    inl (omega (arith, p.1, q.0, at-offset fault kind (word_at place text) here))
