-- The first of the faults of a list, but for those of its inner statements.
use Rattle.cil_text.proofs.Common.{◌≡◌, ◌≢◌, ℕ, ◌+◌, ◌≤◌, ◌⊎◌, inl, inr, Bool, true, false, not, ◌&&◌, ◌||◌, [], ◌∷◌, refl, sym, ap, ◌∙◌, subst, IsTrue, Contains, arith, true≢false, and_parts, not-false, TextFaultKind, unsupported, misshapen, not_in_optional, code_of, TextFault, IsNoLater, Trees, none, a_word, a_string, a_list, in_order, Form, words_of, is_optional, put_word, Fits, keywords, outside_optionals, is_among, IsAllowed, IsAtWord, IsWordFault, no_keyword, no_fit, in_optional, no_name, IsInnerFault, fits_same, fits_keyword, outside_keyword, inner_of_list, at_bracket, at-offset, word_within, fits_rise, fault_within, no_later-here, front_first, IsFirstBad, IsFaultOf, IsFirstOf, IsHeadingFault, word_of, FaultIs}
use Rattle.cil_specs.specs.Place.{Place}
use Rattle.cil_specs.specs.Names.{Word}
use Rattle.cil_specs.proofs.FaultOrder.{word_at}
use Rattle.cil_text.specs.Keyword.{spelling}
use Rattle.cil_reader.specs.declared.word.Word as code
use Rattle.cil_reader.specs.declared.fault.TextFault as fault_type
use Rattle.cil_text.specs.declared.statement.RuleKind.TheVariants.{Allow, AuditAllow, DontAudit, NeverAllow}
use Rattle.cil_text.specs.declared.keyword.Keyword.{Keyword}
use Rattle.cil_text.specs.declared.keyword.Keyword.TheVariants.{Rule}
use Rattle.cil_text.proofs.FirstBad.{first_bad_is, first_bad_first, found_is}

-- each keyword is one
pub spelling_is : (keyword : Keyword) → is_among keywords (spelling keyword) ≡ true
spelling_is (Rule Allow) = refl
spelling_is (Rule AuditAllow) = refl
spelling_is (Rule DontAudit) = refl
spelling_is (Rule NeverAllow) = refl
spelling_is _ = refl

-- a fault at the ( is the only one
bracket-only : (at : Place) (other : TextFault) → IsAtWord other misshapen (word_at at (40 ∷ [])) ⊎ ⊥ → IsNoLater (at_bracket at) other
bracket-only at other (inl h) = no_later-here (at_bracket at) other misshapen misshapen (word_at at (40 ∷ [])) refl h (omega arith)
bracket-only at other (inr h) = absurd h

-- a list without a first word
pub no_first_word : (inside : Bool) (at : Place) (parts : Trees) → ((word : Word) (rest : Trees) → parts ≢ put_word word rest) → IsFirstOf inside at parts (at_bracket at)
no_first_word inside at none no_word = record { is = inl refl; first = λ low high order other h. bracket-only at other h }
no_first_word inside at (a_word place text rest) no_word = absurd (no_word (word_at place text) rest refl)
no_first_word inside at (a_string place text rest) no_word = record { is = inl refl; first = λ low high order other h. bracket-only at other h }
no_first_word inside at (a_list place end items rest) no_word = record { is = inl refl; first = λ low high order other h. bracket-only at other h }

-- a fault at the first word that no other fault at it precedes
front_is_first : (inside : Bool) (at : Place) (parts : Trees) (first : Word) (operands : Trees) (kind : TextFaultKind) (fault : TextFault) → parts ≡ put_word first operands → IsAtWord fault kind first
    → IsWordFault inside (put_word first operands) first fault → (is_among keywords first.text ≡ false → code_of kind ≤ 20)
    → (IsTrue (is_among keywords first.text) → ((form : Form) (inner : Trees) → Fits (put_word first operands) form inner → ⊥) → code_of kind ≤ 21) → code_of kind ≤ 24 → IsFirstOf inside at parts fault
front_is_first inside at parts first operands kind fault begins here is a b c = record {
  is = subst (λ parts. IsFaultOf inside at parts fault) (sym begins) (inl is);
  first = λ low high order other h.
      front_first inside first.at first.text operands low high kind fault other here a b c (subst (λ parts. IsTrue (in_order low parts high)) begins order) (subst (λ parts. IsFaultOf inside at parts other) begins h);
}

-- a fault at a word
abbrev pub fault_of : TextFaultKind → Word → TextFault
fault_of kind word = record { kind = kind; at = word.at; word = word.text }

-- a first word that is no keyword
pub unsupported_first : (inside : Bool) (at : Place) (parts : Trees) (first : Word) (operands : Trees) → parts ≡ put_word first operands → is_among keywords first.text ≡ false
    → IsFirstOf inside at parts (fault_of unsupported first)
unsupported_first inside at parts first operands begins is =
    front_is_first inside at parts first operands unsupported (fault_of unsupported first) begins refl (no_keyword is refl) (λ _. omega arith) (λ _ _. omega arith) (omega arith)

-- operands that fit no form
pub misfit_first : (inside : Bool) (at : Place) (parts : Trees) (first : Word) (operands : Trees) → parts ≡ put_word first operands → is_among keywords first.text ≡ true
    → ((form : Form) (inner : Trees) → Fits (put_word first operands) form inner → ⊥) → IsFirstOf inside at parts (fault_of misshapen first)
misfit_first inside at parts first operands begins is misfit =
    front_is_first inside at parts first operands misshapen (fault_of misshapen first) begins refl (no_fit is misfit refl) (λ not_one. absurd (true≢false (sym is ∙ not_one))) (λ _ _. omega arith) (omega arith)

-- a statement that no optional may hold, inside one
pub outside_first : (inside : Bool) (at : Place) (parts : Trees) (first : Word) (operands : Trees) (form : Form) (inner : Trees) → parts ≡ put_word first operands → IsTrue inside
    → is_among outside_optionals first.text ≡ true → Fits (put_word first operands) form inner → IsFirstOf inside at parts (fault_of not_in_optional first)
outside_first inside at parts first operands form inner begins within is fits =
    front_is_first inside at parts first operands not_in_optional (fault_of not_in_optional first) begins refl (in_optional within is refl)
    (λ not_one. absurd (true≢false (sym (outside_keyword first.text is) ∙ not_one))) (λ _ misfit. absurd (misfit form inner fits)) (omega arith)

-- a word that is not good
word_first : (inside : Bool) (first : Word) (operands : Trees) (form : Form) (inner : Trees) (low high : ℕ) (fault other : TextFault) → Fits (put_word first operands) form inner → IsAllowed inside (put_word first operands)
    → IsFirstBad (words_of form) fault → IsTrue (in_order low (put_word first operands) high) → IsWordFault inside (put_word first operands) first other ⊎ IsInnerFault inside (put_word first operands) other → IsNoLater fault other
word_first inside first operands form inner low high fault other fits allowed bad order (inl (no_keyword is at)) = absurd (true≢false (sym (fits_keyword first.at first.text operands form inner fits) ∙ is))
word_first inside first operands form inner low high fault other fits allowed bad order (inl (no_fit is misfit at)) = absurd (misfit form inner fits)
word_first inside first operands form inner low high fault other fits allowed bad order (inl (in_optional within is at)) = absurd (true≢false (sym is ∙ allowed within))
word_first inside first operands form inner low high fault other fits allowed bad order (inl (no_name f i role word kind fits' has is at)) =
    let rises = fits_rise first.at first.text operands form inner low high fits order in
    let same = (fits_same (put_word first operands) inner i form f fits fits').0 in
    first_bad_first (words_of form) (first.at.offset + 1) rises.0 fault other rises.1 bad (record {
      role = role;
      word = word;
      kind = kind;
      has = subst (λ form. Contains (words_of form) (role, word)) (sym same) has;
      bad = is;
      at = at;
    })
word_first inside first operands form inner low high fault other fits allowed bad order (inr h) =
    let rises = fits_rise first.at first.text operands form inner low high fits order in
    let is = first_bad_is (words_of form) fault bad in
    let w = word_within (words_of form) is.role is.word (first.at.offset + 1) rises.0 rises.1 is.has in
    let q = fault_within inner (inside || is_optional form) rises.0 high other rises.2 (inner_of_list inside (put_word first operands) inner form other fits h) in
    inl (omega (arith, w.1, q.0, at-offset fault is.kind is.word is.at))

pub bad_word_first : (inside : Bool) (at : Place) (parts : Trees) (first : Word) (operands : Trees) (form : Form) (inner : Trees) (fault : TextFault) → parts ≡ put_word first operands
    → Fits (put_word first operands) form inner → IsAllowed inside (put_word first operands) → IsFirstBad (words_of form) fault → IsFirstOf inside at parts fault
bad_word_first inside at parts first operands form inner fault begins fits allowed bad =
    let b = first_bad_is (words_of form) fault bad in
    record {
      is = subst (λ parts. IsFaultOf inside at parts fault) (sym begins) (inl (no_name form inner b.role b.word b.kind fits b.has b.bad b.at));
      first = λ low high order other h.
          word_first inside first operands form inner low high fault other fits allowed bad (subst (λ parts. IsTrue (in_order low parts high)) begins order) (subst (λ parts. IsFaultOf inside at parts other) begins h);
    }

-- what the test says of where a statement stands
pub allowed_by : (inside outside result : Bool) → result ≡ not (inside && outside) → result ≡ true → IsTrue inside → outside ≡ false
allowed_by true false result test is within = refl
allowed_by true true result test is within = absurd (true≢false (sym is ∙ test))
allowed_by false outside result test is within = absurd (true≢false (sym within))

pub forbidden_by : (inside outside result : Bool) → result ≡ not (inside && outside) → result ≡ false → (inside ≡ true) × (outside ≡ true)
forbidden_by inside outside result test is = and_parts inside outside (not-false (inside && outside) (sym test ∙ is))

-- a keyword and its operands, spelt as the word is
pub fits_word : (first : Word) (operands : Trees) (keyword : Keyword) (form : Form) (inner : Trees) → first.text ≡ spelling keyword → Fits (a_word first.at (spelling keyword) operands) form inner → Fits (put_word first operands) form inner
fits_word first operands keyword form inner spelt h = subst (λ text. Fits (a_word first.at text operands) form inner) (sym spelt) h

-- the fault of a first word that may not stand there, or of the first word behind it that is not as its place asks
pub bad_heading_first : (inside : Bool) (at : Place) (parts : Trees) (first : code.Word) (operands : Trees) (keyword : Keyword) (form : Form) (inner : Trees) (fault : fault_type.TextFault)
    → parts ≡ put_word (word_of first) operands → first.text.now ≡ spelling keyword → Fits (put_word (word_of first) operands) form inner → IsHeadingFault inside keyword first form fault
    → FaultIs fault (IsFirstOf inside at parts)
bad_heading_first inside at parts first operands keyword form inner fault begins spelt fits (inl h) =
    subst (λ fault. FaultIs fault (IsFirstOf inside at parts)) (sym h.2)
    (outside_first inside at parts (word_of first) operands form inner begins h.0 (ap (is_among outside_optionals) spelt ∙ h.1) fits)
bad_heading_first inside at parts first operands keyword form inner fault begins spelt fits (inr h) =
    found_is (IsFirstBad (words_of form)) (IsFirstOf inside at parts) fault
    (λ f bad. bad_word_first inside at parts (word_of first) operands form inner f begins fits (λ within. ap (is_among outside_optionals) spelt ∙ h.0 within) bad) h.1
