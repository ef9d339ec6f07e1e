-- What a policy means is consistent.
use Rattle.cil_resolve.proofs.Common.{◌≡◌, ◌∙◌, ℕ, true, List, [], ◌∷◌, Contains, refl, sym, ap, subst, if◌then◌else◌, Word, Placed, PolicyFault, twice, missing, missing_words, is_outside, IsFaultOf, Optionals, restricted, AreKept, AreApart, judged, Compiles, Meaning, Means, around, contains-first, IsFaultless, both_true, types_of, attributes_of, classes_of, rules_of, permission_sets_of, are_permission_sets_of, are_rules_of, is_consistent}
use Rattle.cil_resolve.proofs.ConsistentLemmas.{rules-declared, sets-declared}
use Rattle.cil_resolve.proofs.JudgedLemmas.{fault-of-within, kept-inside}

-- The statements in kept optionals of a policy that compiles have no fault.
module _ (policy : List Placed) (kept : Optionals) (apart : AreApart policy) (are : AreKept policy kept) (compiles : Compiles kept policy) where
  once : (fault : PolicyFault) → IsFaultOf twice policy fault → ⊥
  once fault f = compiles fault (subst (λ kind. IsFaultOf kind (judged kind kept policy) fault) (sym (ap (λ g. g.kind) f.is_at)) f)

  -- outside optionals a name that is missing would be a fault
  outside-found : (s : Placed) (words : List Word) → Contains (restricted kept policy) s → s.optionals ≡ [] → missing_words (restricted kept policy) s ≡ words → words ≡ []
  outside-found s [] there outside is = refl
  outside-found s (word ∷ words) there outside is =
      let a = around (restricted kept policy) s there in
      absurd
      (compiles (record { kind = missing; module_name = s.module_name; at = word.at; word = word.text })
      (record {
        before = a.before;
        s = s;
        after = a.after;
        word = word;
        split = a.whole;
        is_faulty = subst (λ l. Contains l word) (sym (ap (λ o. if is_outside o then missing_words (restricted kept policy) s else []) outside ∙ is)) (contains-first word words);
        is_at = refl;
      }))

  pub kept-faultless : IsFaultless (restricted kept policy)
  kept-faultless = record {
    none = λ fault f. compiles fault (fault-of-within kept policy once fault f);
    found = λ s there. by s there s.optionals refl;
  }
    where
      by : (s : Placed) → Contains (restricted kept policy) s → (optionals : List ℕ) → s.optionals ≡ optionals → missing_words (restricted kept policy) s ≡ []
      by s there [] e = outside-found s (missing_words (restricted kept policy) s) there e refl
      by s there (at ∷ outer) e = kept-inside policy kept apart are s there (λ none. (let x : at ∷ outer ≡ [] = sym e ∙ none in cc))

pub means-consistent : (policy : List Placed) (kept : Optionals) (meaning : Meaning) → AreApart policy → Means policy kept meaning → is_consistent meaning ≡ true
means-consistent policy kept meaning apart means =
    let left = restricted kept policy in
    let faultless = kept-faultless policy kept apart means.are_kept means.compiles in
    ap is_consistent means.is
    ∙ both_true (are_rules_of (types_of left) (attributes_of left) (classes_of left) (rules_of left)) (are_permission_sets_of (classes_of left) (permission_sets_of left)) (rules-declared left faultless)
    (sets-declared left faultless)
