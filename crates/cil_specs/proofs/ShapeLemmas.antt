-- Statements and shape faults: trees have not both, and where the faults stand.
use Rattle.cil_specs.proofs.Common.{◌≡◌, ℕ, ◌+◌, ◌-◌, ◌<◌, ◌⊎◌, inl, inr, Bool, true, false, ◌||◌, List, [], ◌∷◌, ◌++◌, length, map, get_or, zero, suc, Some, sym, ◌∙◌, ap, subst, refl, bytes_eq, IsTrue, not, ◌&&◌, arith, list_any, AllByRecursion, true≢false, or_cases, bytes_eq-Decides, Place, TextFaultKind, TextFault, Word, Role, name_fault, Trees, none, a_word, a_list, are_lists, in_order, allow, auditallow, dontaudit, neverallow, Form, block, optional, common, class, class_common, class_order, rule, words_of, is_optional, stands_apart, Statements, no_more, statement, are_apart, statement_offsets, Fits, keywords, outside_optionals, is_among, IsGoodWord, IsAllowed, Shapes, IsWordFault, no_keyword, no_fit, in_optional, no_name, IsListFault, IsShapeFault, IsInnerFault, IsBodyFault}
use Rattle.std.proofs.Common.{Contains}
use Rattle.cil_specs.proofs.FormLemmas.{first_word, OperandsFit, fits_begin, fits_parts}
use Rattle.cil_specs.proofs.FormSame.{fits_same}
use Rattle.cil_specs.proofs.Runs.{both_true}
use Rattle.cil_specs.proofs.OrderLemmas.{RiseTo, rise_join, rise_wide, role_offset, order_none, order_word, order_list, words_rise}

-- a fact of each element is one of the element at a place
pub all_at : {X : Type 0} (P : X → Type 0) (xs : List X) (k : ℕ) (d : X) → k < length xs → AllByRecursion P xs → P (get_or xs k d)
all_at P [] k d within h = absurd (omega arith)
all_at P (x ∷ xs) zero d within h = h.0
all_at P (x ∷ xs) (suc k) d within h = all_at P xs k d (omega arith) h.1

-- each form's first word is a keyword
pub keyword_of : (form : Form) → is_among keywords (first_word form) ≡ true
keyword_of (rule allow source target permissions) = refl
keyword_of _ = refl

-- the first word of a list that fits is a keyword
pub fits_keyword : (place : Place) (text : List ℕ) (operands : Trees) (form : Form) (inner : Trees) → Fits (a_word place text operands) form inner → is_among keywords text ≡ true
fits_keyword place text operands form inner h = ap (is_among keywords) (fits_parts place text operands form inner h).0 ∙ keyword_of form

among_both : (words others : List (List ℕ)) (text : List ℕ) → AllByRecursion (λ word. is_among others word ≡ true) words → is_among words text ≡ true → is_among others text ≡ true
among_both [] others text all h = absurd (true≢false (sym h))
among_both (word ∷ words) others text all h = by (or_cases (bytes_eq text word) (list_any (bytes_eq text) words) h) (λ k. among_both words others text all.1 k)
  where
    by : (bytes_eq text word ≡ true) ⊎ (is_among words text ≡ true) → (is_among words text ≡ true → is_among others text ≡ true) → is_among others text ≡ true
    by (inl same) rest = ap (is_among others) ((bytes_eq-Decides text word).0 same) ∙ all.0
    by (inr more) rest = rest more

-- the words that no optional may hold are keywords
pub outside_keyword : (text : List ℕ) → is_among outside_optionals text ≡ true → is_among keywords text ≡ true
outside_keyword text h = among_both outside_optionals keywords text (refl, (refl, (refl, (refl, (refl, tt))))) h

-- a good word has no fault
good_word : (role : Role) (word : Word) (kind : TextFaultKind) → IsGoodWord (role, word) → name_fault role word.text ≡ Some kind → ⊥
good_word role word kind good bad = absurd cc

-- among good words none has a fault
pub all_good : (words : List (Role × Word)) (role : Role) (word : Word) (kind : TextFaultKind) → AllByRecursion IsGoodWord words → Contains words (role, word) → name_fault role word.text ≡ Some kind → ⊥
all_good words role word kind good h bad =
    good_word role word kind (subst IsGoodWord h.2 (all_at IsGoodWord words h.0 (role, word) h.1 good)) bad

-- what is no fault of a list by its words, where it fits and each word is good
pub no_word_fault : (inside : Bool) (place : Place) (text : List ℕ) (operands : Trees) (form : Form) (inner : Trees) (fault : TextFault) → Fits (a_word place text operands) form inner
    → IsAllowed inside (a_word place text operands) → AllByRecursion IsGoodWord (words_of form) → IsWordFault inside (a_word place text operands) (record { at = place; text = text }) fault → ⊥
no_word_fault inside place text operands form inner fault fits allowed good (no_keyword is at) = true≢false (sym (fits_keyword place text operands form inner fits) ∙ is)
no_word_fault inside place text operands form inner fault fits allowed good (no_fit is misfit at) = misfit form inner fits
no_word_fault inside place text operands form inner fault fits allowed good (in_optional within is at) = true≢false (sym is ∙ allowed within)
no_word_fault inside place text operands form inner fault fits allowed good (no_name f i role word kind fits' has bad at) =
    all_good (words_of form) role word kind good (subst (λ form. Contains (words_of form) (role, word)) (sym (fits_same (a_word place text operands) inner i form f fits fits').0) has) bad

-- the faults inside a list that fits are those of its inner statements
pub inner_faults : (form : Form) (place : Place) (operands inner : Trees) (inside : Bool) (fault : TextFault) → OperandsFit operands form inner → IsInnerFault inside (a_word place (first_word form) operands) fault
    → IsShapeFault (inside || is_optional form) inner fault
inner_faults (block id) place operands inner inside fault fits h = (subst (λ operands. IsBodyFault (inside || false) operands fault) fits.0 h.1).1
inner_faults (optional id) place operands inner inside fault fits h = (subst (λ operands. IsBodyFault (inside || true) operands fault) fits.0 h.1).1
inner_faults (rule allow source target permissions) place operands inner inside fault fits h = absurd (true≢false (sym h.0))
inner_faults (rule auditallow source target permissions) place operands inner inside fault fits h = absurd (true≢false (sym h.0))
inner_faults (rule dontaudit source target permissions) place operands inner inside fault fits h = absurd (true≢false (sym h.0))
inner_faults (rule neverallow source target permissions) place operands inner inside fault fits h = absurd (true≢false (sym h.0))
inner_faults _ place operands inner inside fault fits h = absurd (true≢false (sym h.0))

none-fault : (inside : Bool) (inner : Trees) (fault : TextFault) → inner ≡ none → IsShapeFault inside inner fault → ⊥
none-fault inside inner fault empty h = subst (λ trees. IsShapeFault inside trees fault) empty h

-- and the other way round
pub inner_fault_is : (form : Form) (place : Place) (operands inner : Trees) (inside : Bool) (fault : TextFault) → OperandsFit operands form inner → IsShapeFault (inside || is_optional form) inner fault
    → IsInnerFault inside (a_word place (first_word form) operands) fault
inner_fault_is (block id) place operands inner inside fault fits h = (refl, subst (λ operands. IsBodyFault (inside || false) operands fault) (sym fits.0) (fits.1, h))
inner_fault_is (optional id) place operands inner inside fault fits h = (refl, subst (λ operands. IsBodyFault (inside || true) operands fault) (sym fits.0) (fits.1, h))
inner_fault_is _ place operands inner inside fault fits h = absurd (none-fault _ inner fault fits.1 h)

-- a list that fits, may stand there and has good words has no fault but those of its inner statements
pub list_no_fault : (inside : Bool) (at : Place) (parts inner : Trees) (form : Form) (fault : TextFault) → Fits parts form inner → IsAllowed inside parts → AllByRecursion IsGoodWord (words_of form)
    → IsListFault inside at parts fault → ⊥
list_no_fault inside at parts inner form fault fits allowed good h =
    let b = fits_begin parts form inner fits in
    no_word_fault inside b.0 (first_word form) b.1 form inner fault (subst (λ parts. Fits parts form inner) b.2 fits) (subst (IsAllowed inside) b.2 allowed) good (subst (λ parts. IsListFault inside at parts fault) b.2 h)

-- the same for what lies in it
pub inner_of_list : (inside : Bool) (parts inner : Trees) (form : Form) (fault : TextFault) → Fits parts form inner → IsInnerFault inside parts fault → IsShapeFault (inside || is_optional form) inner fault
inner_of_list inside parts inner form fault fits h =
    let b = fits_begin parts form inner fits in
    inner_faults form b.0 b.1 inner inside fault b.3 (subst (λ parts. IsInnerFault inside parts fault) b.2 h)

-- a fault of a list and of trees is one of the three
fault-cases : (inside : Bool) (at : Place) (end : ℕ) (parts rest : Trees) (fault : TextFault) → (IsListFault inside at parts fault → ⊥) → (IsInnerFault inside parts fault → ⊥) → (IsShapeFault inside rest fault → ⊥)
    → IsShapeFault inside (a_list at end parts rest) fault → ⊥
fault-cases inside at end parts rest fault here within behind (inl h) = here h
fault-cases inside at end parts rest fault here within behind (inr (inl h)) = within h
fault-cases inside at end parts rest fault here within behind (inr (inr h)) = behind h

-- trees that spell statements have no shape fault
pub shapes_no_fault : (statements : Statements) (inside : Bool) (trees : Trees) → Shapes inside trees statements → (fault : TextFault) → IsShapeFault inside trees fault → ⊥
shapes_no_fault no_more inside trees h fault bad = none-fault inside trees fault h bad
shapes_no_fault (statement at form body more) inside trees h fault bad =
    fault-cases inside at h.0 h.1 h.3 fault (list_no_fault inside at h.1 h.2 form fault h.5 h.6 h.7)
    (λ k. shapes_no_fault body (inside || is_optional form) h.2 h.8 fault (inner_of_list inside h.1 h.2 form fault h.5 k))
    (shapes_no_fault more inside h.3 h.9 fault) (subst (λ trees. IsShapeFault inside trees fault) h.4 bad)

-- trees spell one list of statements at most
pub shapes_same : (s t : Statements) (inside : Bool) (trees : Trees) → Shapes inside trees s → Shapes inside trees t → s ≡ t
shapes_same no_more no_more inside trees h k = refl
shapes_same no_more (statement at form body more) inside trees h k = absurd (let e : none ≡ a_list at k.0 k.1 k.3 = sym h ∙ k.4 in cc)
shapes_same (statement at form body more) no_more inside trees h k = absurd (let e : none ≡ a_list at h.0 h.1 h.3 = sym k ∙ h.4 in cc)
shapes_same (statement at form body more) (statement at' form' body' more') inside trees h k =
    let e : a_list at h.0 h.1 h.3 ≡ a_list at' k.0 k.1 k.3 = sym h.4 ∙ k.4 in
    let place : at ≡ at' = cc e in
    let parts : h.1 ≡ k.1 = cc e in
    let rest : h.3 ≡ k.3 = cc e in
    let p = fits_same h.1 h.2 k.2 form form' h.5 (subst (λ parts. Fits parts form' k.2) (sym parts) k.5) in
    let b = shapes_same body body' (inside || is_optional form) h.2 h.8 (subst (λ inner. Shapes (inside || is_optional form) inner body') (sym p.1) (subst (λ form. Shapes (inside || is_optional form) k.2 body') (sym p.0) k.8)) in
    let m = shapes_same more more' inside h.3 h.9 (subst (λ rest. Shapes inside rest more') (sym rest) k.9) in
    λ i. statement (place i) (p.0 i) (b i) (m i)

-- the offsets of statements and of their words rise
pub shapes_rise : (statements : Statements) (inside : Bool) (trees : Trees) (low high : ℕ) → Shapes inside trees statements → IsTrue (in_order low trees high) → RiseTo low (statement_offsets statements) high
shapes_rise no_more inside trees low high h order = order_none low high (subst (λ trees. IsTrue (in_order low trees high)) h order)
shapes_rise (statement at form body more) inside trees low high h order =
    let p = order_list low at h.0 h.1 h.3 high (subst (λ trees. IsTrue (in_order low trees high)) h.4 order) in
    let b = fits_begin h.1 form h.2 h.5 in
    let q = order_word (at.offset + 1) b.0 (first_word form) b.1 (h.0 - 1) (subst (λ parts. IsTrue (in_order (at.offset + 1) parts (h.0 - 1))) b.2 p.2) in
    let from : ℕ = b.0.offset + length (first_word form) in
    let w = words_rise form b.1 h.2 from (h.0 - 1) b.3 q.2 in
    let inner = shapes_rise body (inside || is_optional form) h.2 w.0 (h.0 - 1) h.8 w.2 in
    let behind = shapes_rise more inside h.3 h.0 high h.9 p.3 in (
      p.0,
      rise_join (at.offset + 1) (map role_offset (words_of form)) w.0 (statement_offsets body ++ statement_offsets more) high
          (rise_wide (at.offset + 1) from (map role_offset (words_of form)) w.0 w.0 (omega (arith, q.0, q.1)) w.1 (omega arith))
          (rise_join w.0 (statement_offsets body) (h.0 - 1) (statement_offsets more) high inner (rise_wide (h.0 - 1) h.0 (statement_offsets more) high high (omega arith) behind (omega arith))),
    )

-- a statement whose first word may stand where it does is apart, if it has to be
form_apart : (inside : Bool) (form : Form) → (IsTrue inside → is_among outside_optionals (first_word form) ≡ false) → not (inside && stands_apart form) ≡ true
form_apart false form allowed = refl
form_apart true (block id) allowed = absurd (true≢false (allowed refl))
form_apart true (common id permissions) allowed = absurd (true≢false (allowed refl))
form_apart true (class id permissions) allowed = absurd (true≢false (allowed refl))
form_apart true (class_common the_class the_common) allowed = absurd (true≢false (allowed refl))
form_apart true (class_order classes) allowed = absurd (true≢false (allowed refl))
form_apart _ _ allowed = refl

-- what may stand in no optional stands in none
pub shapes_apart : (statements : Statements) (inside : Bool) (trees : Trees) → Shapes inside trees statements → are_apart inside statements ≡ true
shapes_apart no_more inside trees h = refl
shapes_apart (statement at form body more) inside trees h =
    let b = fits_begin h.1 form h.2 h.5 in
    both_true (not (inside && stands_apart form)) (are_apart (inside || is_optional form) body && are_apart inside more)
    (form_apart inside form (subst (IsAllowed inside) b.2 h.6))
    (both_true (are_apart (inside || is_optional form) body) (are_apart inside more) (shapes_apart body (inside || is_optional form) h.2 h.8) (shapes_apart more inside h.3 h.9))

-- the inner statements of operands that fit are lists
operands_lists : (form : Form) (operands inner : Trees) → OperandsFit operands form inner → IsTrue (are_lists inner)
operands_lists (block id) operands inner h = h.1
operands_lists (optional id) operands inner h = h.1
operands_lists _ operands inner h = subst (λ trees. IsTrue (are_lists trees)) (sym h.1) refl

-- those of a list that fits are
pub fits_lists : (form : Form) (parts inner : Trees) → Fits parts form inner → IsTrue (are_lists inner)
fits_lists form parts inner h = let b = fits_begin parts form inner h in operands_lists form b.1 inner b.3
