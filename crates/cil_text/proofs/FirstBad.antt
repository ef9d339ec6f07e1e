-- The first word of a statement that is not good.
use Rattle.cil_text.proofs.Common.{◌≡◌, ℕ, ◌+◌, List, [], ◌∷◌, ◌++◌, get_or, map, zero, suc, Option, Some, None, MatchOption, Result, Ok, Err, IsErrAnd, IfErr, inl, sym, ◌∙◌, ap, subst, refl, Contains, arith, TextFaultKind, code_of, TextFault, IsNoLater, Role, name_fault, IsAtWord, RiseTo, role_offset, at-offset, word_within, no_later-here, place_of, kind_of, shown, FaultIs, AreGood, IsFirstBad, IsFoundAs, Checks}
use Rattle.cil_specs.specs.Names.{Word}
use Rattle.cil_reader.specs.declared.fault.TextFault as code
use Rattle.cil_reader.specs.declared.fault.TextFault.TheVariants.{Memory, Found}

-- a word that is not good, and its fault
pub record IsBad (words : List (Role × Word)) (fault : TextFault) : Type 0 where
  pub role : Role
  pub word : Word
  pub kind : TextFaultKind
  pub has : Contains words (role, word)
  pub bad : name_fault role word.text ≡ Some kind
  pub at : IsAtWord fault kind word

bad_more : (w : Role × Word) (words : List (Role × Word)) (fault : TextFault) → IsBad words fault → IsBad (w ∷ words) fault
bad_more w words fault h = record {
  role = h.role;
  word = h.word;
  kind = h.kind;
  has = (suc h.has.0, omega (arith, h.has.1), h.has.2);
  bad = h.bad;
  at = h.at;
}

pub first_bad_is : (words : List (Role × Word)) (fault : TextFault) → IsFirstBad words fault → IsBad words fault
first_bad_is [] fault h = absurd h
first_bad_is ((role, word) ∷ words) fault h = by (name_fault role word.text) refl h (first_bad_is words fault)
  where
    by : (o : Option TextFaultKind) → name_fault role word.text ≡ o → MatchOption o (IsFirstBad words fault) (λ kind. IsAtWord fault kind word) → (IsFirstBad words fault → IsBad words fault) → IsBad ((role, word) ∷ words) fault
    by (Some kind) is at rest = record {
      role = role;
      word = word;
      kind = kind;
      has = (0, omega arith, refl);
      bad = is;
      at = at;
    }
    by None is bad rest = bad_more (role, word) words fault (rest bad)

-- the first is no later than another
pub first_bad_first : (words : List (Role × Word)) (low high : ℕ) (fault other : TextFault) → RiseTo low (map role_offset words) high → IsFirstBad words fault → IsBad words other → IsNoLater fault other
first_bad_first [] low high fault other rises h bad = absurd h
first_bad_first ((role, word) ∷ words) low high fault other rises h bad = by (name_fault role word.text) refl h bad.has.0 refl (λ first k is. first_bad_first words (word.at.offset + 1) high fault other rises.1 first (rest k is))
  where
    rest : (k : ℕ) → bad.has.0 ≡ suc k → IsBad words other
    rest k is = record {
      role = bad.role;
      word = bad.word;
      kind = bad.kind;
      has = (k, omega (arith, is, bad.has.1), ap (λ n. get_or ((role, word) ∷ words) n (bad.role, bad.word)) (sym is) ∙ bad.has.2);
      bad = bad.bad;
      at = bad.at;
    }

    at-front : bad.has.0 ≡ 0 → (let w : Role × Word = (role, word) in w ≡ (bad.role, bad.word))
    at-front is = ap (λ n. get_or ((role, word) ∷ words) n (bad.role, bad.word)) (sym is) ∙ bad.has.2

    by : (o : Option TextFaultKind) → name_fault role word.text ≡ o → MatchOption o (IsFirstBad words fault) (λ kind. IsAtWord fault kind word) → (k : ℕ) → bad.has.0 ≡ k
        → (IsFirstBad words fault → (k : ℕ) → bad.has.0 ≡ suc k → IsNoLater fault other) → IsNoLater fault other
    by (Some kind) is at zero here next =
        let same = at-front here in
        let one : Some kind ≡ Some bad.kind = sym is ∙ ap (λ w. name_fault w.0 w.1.text) same ∙ bad.bad in
        let kinds : kind ≡ bad.kind = cc one in
        no_later-here fault other kind bad.kind word at (bad.at ∙ ap (λ w. let f : TextFault = record { kind = bad.kind; at = w.1.at; word = w.1.text } in f) (sym same)) (omega (arith, ap code_of kinds))
    by (Some kind) is at (suc k) here next =
        let more = rest k here in
        let w = word_within words bad.role bad.word (word.at.offset + 1) high rises.1 more.has in
        inl (omega (arith, w.0, at-offset fault kind word at, at-offset other bad.kind bad.word bad.at))
    by None is first zero here next =
        let same = at-front here in
        let one : None ≡ Some bad.kind = sym is ∙ ap (λ w. name_fault w.0 w.1.text) same ∙ bad.bad in
        absurd cc
    by None is first (suc k) here next = next first k here

-- What is found of the rest of the words is found of all.
pub record GoesOn (all rest : List (Role × Word)) : Type 0 where
  pub good : AreGood rest → AreGood all
  pub bad : (fault : TextFault) → IsFirstBad rest fault → IsFirstBad all fault

pub goes_first : (all : List (Role × Word)) → GoesOn all all
goes_first all = record { good = λ h. h; bad = λ fault h. h }

good-more : (words rest : List (Role × Word)) → AreGood words → AreGood rest → AreGood (words ++ rest)
good-more [] rest h k = k
good-more (w ∷ ws) rest h k = (h.0, good-more ws rest h.1 k)

bad-behind : (words rest : List (Role × Word)) (fault : TextFault) → AreGood words → IsFirstBad rest fault → IsFirstBad (words ++ rest) fault
bad-behind [] rest fault h k = k
bad-behind ((role, word) ∷ ws) rest fault h k = subst (λ o. MatchOption o (IsFirstBad (ws ++ rest) fault) (λ kind. IsAtWord fault kind word)) (sym h.0) (bad-behind ws rest fault h.1 k)

bad-front : (words rest : List (Role × Word)) (fault : TextFault) → IsFirstBad words fault → IsFirstBad (words ++ rest) fault
bad-front [] rest fault h = absurd h
bad-front ((role, word) ∷ ws) rest fault h = by (name_fault role word.text) h (bad-front ws rest fault)
  where
    by : (o : Option TextFaultKind) → MatchOption o (IsFirstBad ws fault) (λ kind. IsAtWord fault kind word) → (IsFirstBad ws fault → IsFirstBad (ws ++ rest) fault)
        → MatchOption o (IsFirstBad (ws ++ rest) fault) (λ kind. IsAtWord fault kind word)
    by (Some kind) at more = at
    by None bad more = more bad

-- behind good words
pub goes_more : (all words rest : List (Role × Word)) → GoesOn all (words ++ rest) → AreGood words → GoesOn all rest
goes_more all words rest goes good = record {
  good = λ h. goes.good (good-more words rest good h);
  bad = λ fault h. goes.bad fault (bad-behind words rest fault good h);
}

found-as : (P Q : TextFault → Type 0) (fault : code.TextFault) → ((f : TextFault) → P f → Q f) → IsFoundAs P fault → IsFoundAs Q fault
found-as P Q Memory more h = absurd h
found-as P Q (Found kind at word) more h = more (record { kind = kind_of kind; at = place_of at; word = shown word }) h

-- the first bad word of words in front of the rest
pub found_front : (all words rest : List (Role × Word)) (fault : code.TextFault) → GoesOn all (words ++ rest) → IsFoundAs (IsFirstBad words) fault → IsFoundAs (IsFirstBad all) fault
found_front all words rest fault goes h = found-as (IsFirstBad words) (IsFirstBad all) fault (λ f k. goes.bad f (bad-front words rest f k)) h

-- what the rest is checked as
pub checks_rest : {T : Type 0} → (all rest : List (Role × Word)) (result : Result T code.TextFault) → GoesOn all rest → Checks rest result → Checks all result
checks_rest all rest (Ok x) goes h = goes.good h
checks_rest all rest (Err e) goes h = found-as (IsFirstBad rest) (IsFirstBad all) e goes.bad h

-- the error of words in front of the rest, handed on
pub checks_error : {T : Type 0} → (all words rest : List (Role × Word)) (result : Result T code.TextFault) (fault : code.TextFault) → GoesOn all (words ++ rest) → IsFoundAs (IsFirstBad words) fault
    → IsErrAnd result (λ given. given ≡ fault) → Checks all result
checks_error all words rest (Ok x) fault goes h given = absurd given
checks_error all words rest (Err e) fault goes h given = subst (IsFoundAs (IsFirstBad all)) (sym given) (found_front all words rest fault goes h)

-- a fault that is found is one that is answered
pub found_is : (P Q : TextFault → Type 0) (fault : code.TextFault) → ((f : TextFault) → P f → Q f) → IsFoundAs P fault → FaultIs fault Q
found_is P Q Memory more h = absurd h
found_is P Q (Found kind at word) more h = more (record { kind = kind_of kind; at = place_of at; word = shown word }) h

-- an error that is handed on
pub handed : {T : Type 0} → (P : code.TextFault → Type 0) (result : Result T code.TextFault) (fault : code.TextFault) → IsErrAnd result (λ given. given ≡ fault) → P fault → IfErr result P
handed P (Ok x) fault given h = absurd given
handed P (Err e) fault given h = subst P (sym given) h

pub handed_on : {T : Type 0} → (Q : TextFault → Type 0) (result : Result T code.TextFault) (fault : code.TextFault) → IsErrAnd result (λ given. given ≡ fault) → FaultIs fault Q → IfErr result (λ f. FaultIs f Q)
handed_on Q = handed (λ fault. FaultIs fault Q)

-- a fault of which more is known
pub fault_weaker : (P Q : TextFault → Type 0) (fault : code.TextFault) → ((f : TextFault) → P f → Q f) → FaultIs fault P → FaultIs fault Q
fault_weaker P Q Memory more h = h
fault_weaker P Q (Found kind at word) more h = more (record { kind = kind_of kind; at = place_of at; word = shown word }) h
