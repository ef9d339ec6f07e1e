-- Lists of numbers, and the places of each.
use Rattle.cil_symbols.proofs.Common.{◌≡◌, ℕ, zero, suc, ◌+◌, ◌<◌, ◌≤◌, inl, inr, List, [], ◌∷◌, ◌++◌, length, take, drop, set, replicate, get_or, cond, slice_get, Option, None, Some, refl, sym, ap, subst, ◌∙◌, arith, is_none, length-replicate, length-set, length-append, get_or-replicate, take-append-drop, take_all, sum_by-cons, sum_by-set, slice_get_within, slice_get-get_or, get_or_from_slice_get, same_Some, get-append, get-last, get-set_same, get-set_other, take-last, take-length, AreApart, AreInverse}
use Rattle.std.specs.List.{count_by}
use Rattle.std.proofs.lemmas.Bool.{cases_eq}
use Rattle.cil_needs.proofs.DependentLemmas.{got-push}

count-none : (n : ℕ) → count_by is_none (replicate {A = Option ℕ} n None) ≡ n
count-none zero = refl
count-none (suc n) = sum_by-cons (λ l. cond (is_none l) 1 0) None (replicate {A = Option ℕ} n None) ∙ ap (λ m. 1 + m) (count-none n) ∙ omega arith

-- no symbol has a number
pub inverse-none : (n : ℕ) → AreInverse [] (replicate n None)
inverse-none n = record {
  back = λ s k at. absurd (none s k at);
  forth = λ k s at. absurd (cc at);
  others = let long = length-replicate n (the-none) in let count = count-none n in omega (arith, long, count);
}
  where
    the-none : Option ℕ
    the-none = None

    none : (s k : ℕ) → slice_get (replicate n the-none) s ≡ Some (Some k) → ⊥
    none s k at =
        let within = slice_get_within (replicate n the-none) s (Some k) at in
        let long = length-replicate n the-none in
        let low : s < n = omega (arith, within, long) in
        let here = get_or_from_slice_get (replicate n the-none) s (Some k) None at in
        let there = get_or-replicate n s the-none None low in
        cc (here, there)

-- one more symbol, which has the next number
pub inverse-push : (symbols : List ℕ) (locals : List (Option ℕ)) (s : ℕ) → AreInverse symbols locals → s < length locals → ((k : ℕ) → slice_get symbols k ≡ Some s → ⊥) → AreInverse (symbols ++ s ∷ []) (set locals s (Some (length symbols)))
inverse-push symbols locals s inverse within new = record {
  back = λ t k at. elim (cases_eq t s) [
    | inl same ↦
        let last = same_Some (Some (length symbols)) (Some k) (sym here ∙ ap (slice_get more) (sym same) ∙ at) in
        let number = same_Some (length symbols) k last in
        ap (slice_get (symbols ++ s ∷ [])) (sym number) ∙ get-last symbols s ∙ ap Some (sym same)
    | inr other ↦ get-append symbols (s ∷ []) k t (inverse.back t k (sym (get-set_other locals s t (Some (length symbols)) other) ∙ at))
  ];
  forth = λ k t at. elim (got-push symbols s k t at) [
    | inl before ↦
        get-set_other locals s t (Some (length symbols)) (λ same. new k (before ∙ ap Some same)) ∙ inverse.forth k t before
    | inr last ↦ ap (slice_get more) (sym last.1) ∙ here ∙ ap (λ n. Some (Some n)) (sym last.0)
  ];
  others =
      let counted = sum_by-set (λ l. cond (is_none l) 1 0) locals s (Some (length symbols)) None within in
      let long = length-append symbols (s ∷ []) in
      let many = length-set locals s (Some (length symbols)) in
      let was : cond (is_none (get_or locals s None)) 1 0 ≡ 1 = ap (λ l. cond {A = ℕ} (is_none l) 1 0) vacant in
      let before = inverse.others in
      omega (arith, counted, long, many, was, before);
}
  where
    more : List (Option ℕ)
    more = set locals s (Some (length symbols))

    held : slice_get locals s ≡ Some (get_or locals s None)
    held = slice_get-get_or locals s None within

    vacant : get_or locals s None ≡ None
    vacant = by (get_or locals s None) refl
      where
        by : (l : Option ℕ) → get_or locals s None ≡ l → get_or locals s None ≡ None
        by None e = e
        by (Some k) e = absurd (new k (inverse.back s k (held ∙ ap Some e)))

    here : slice_get more s ≡ Some (Some (length symbols))
    here = get-set_same locals s (get_or locals s None) (Some (length symbols)) held

-- the same where the symbols are gone over
pub inverse-next : (symbols : List ℕ) (locals : List (Option ℕ)) (k s : ℕ) → AreApart symbols → slice_get symbols k ≡ Some s → s < length locals → AreInverse (take k symbols) locals → AreInverse (take (k + 1) symbols) (set locals s (Some k))
inverse-next symbols locals k s apart at within inverse =
    subst (λ n. AreInverse (take (k + 1) symbols) (set locals s (Some n))) long
    (subst (λ l. AreInverse l (set locals s (Some (length front)))) (sym (take-last symbols k s at)) (inverse-push front locals s inverse within new))
  where
    front : List ℕ
    front = take k symbols

    long : length front ≡ k
    long = take-length symbols k s at

    new : (j : ℕ) → slice_get front j ≡ Some s → ⊥
    new j here =
        let there : slice_get symbols j ≡ Some s = ap (λ l. slice_get l j) (sym (take-append-drop k symbols)) ∙ get-append front (drop k symbols) j s here in
        let same = apart j k s there at in
        let low = slice_get_within front j s here in
        omega (arith, same, low, long)

-- the same of all
pub inverse-all : (symbols : List ℕ) (locals : List (Option ℕ)) (k : ℕ) → length symbols ≤ k → AreInverse (take k symbols) locals → AreInverse symbols locals
inverse-all symbols locals k all inverse = subst (λ l. AreInverse l locals) (take_all k symbols all) inverse

-- what is not some number is none
pub only-none : (P : Option ℕ → Type 0) → ((x : ℕ) → P (Some x) → ⊥) → (o : Option ℕ) → P o → o ≡ None
only-none P never None is = refl
only-none P never (Some x) is = absurd (never x is)

-- symbols that have places back are apart
pub apart-by : (symbols : List ℕ) (locals : List (Option ℕ)) → AreInverse symbols locals → AreApart symbols
apart-by symbols locals inverse j k s first second =
    same_Some j k (same_Some (Some j) (Some k) (sym (inverse.forth j s first) ∙ inverse.forth k s second))
