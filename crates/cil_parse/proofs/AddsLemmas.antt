-- Names that come to a lexicon.
use Rattle.cil_parse.proofs.Common.{◌≡◌, ℕ, List, [], ◌∷◌, ◌++◌, map, Some, slice_get, refl, sym, ap, subst, ◌∙◌, append_assoc, append-nil, components, texts_in, names_in, AreNumbersOf, AreSplit, AddsNames, SplitsText, IsLexicon, Lexicon}
use Rattle.cil_parse.proofs.LexiconLemmas.{lists-keep, lists-append}

pub adds-none : {A : Type 0} (l : Lexicon A) → AddsNames l l []
adds-none l = record {
  texts = refl;
  keeps = λ n name is. is;
  closed = refl;
  open_list = λ before known. subst (AreNumbersOf (names_in l) l.components.1) (sym (append-nil before)) known;
}

pub adds-then : {A : Type 0} (a b c : Lexicon A) (xs ys : List (List ℕ)) → AddsNames a b xs → AddsNames b c ys → AddsNames a c (xs ++ ys)
adds-then a b c xs ys first second = record {
  texts = second.texts ∙ first.texts;
  keeps = λ n name is. second.keeps n name (first.keeps n name is);
  closed = second.closed ∙ first.closed;
  open_list = λ before known. subst (AreNumbersOf (names_in c) c.components.1) (append_assoc before xs ys) (second.open_list (before ++ xs) (first.open_list before known));
}

-- the list of a text's names, once it is closed
pub splits-text : {A : Type 0} (old mid new : Lexicon A) (text : List ℕ) → AddsNames old mid (components text) → texts_in new ≡ texts_in mid → names_in new ≡ names_in mid
    → new.components ≡ (mid.components.0 ++ mid.components.1 ∷ [], []) → SplitsText old new text
splits-text {A} old mid new text adds texts names closed = record {
  texts = texts ∙ adds.texts;
  split = λ before known none. let kept = lists-keep (slice_get (names_in old)) (slice_get (names_in mid)) adds.keeps components old.components.0 before known in
      let numbers = adds.open_list [] (ap (map (slice_get (names_in old))) none) in
      let all = lists-append (map (slice_get (names_in mid))) (λ t. map Some (components t)) old.components.0 mid.components.1 before text kept numbers in
      let lists : new.components.0 ≡ old.components.0 ++ mid.components.1 ∷ [] = ap (λ c. c.0) closed ∙ ap (λ l. l ++ mid.components.1 ∷ []) adds.closed in
      subst (λ n. AreSplit n new.components.0 (before ++ text ∷ [])) (sym names) (subst (λ l. AreSplit (names_in mid) l (before ++ text ∷ [])) (sym lists) all);
  none_open = ap (λ c. c.1) closed;
}

-- the lexicon with a new text
pub lexicon-new : {A : Type 0} (old mid new : Lexicon A) (text : List ℕ) → texts_in mid ≡ texts_in old ++ text ∷ [] → names_in mid ≡ names_in old → mid.components ≡ old.components → SplitsText mid new text → IsLexicon old → IsLexicon new
lexicon-new old mid new text texts names same splits is = record {
  split = subst (AreSplit (names_in new) new.components.0) (sym (splits.texts ∙ texts))
      (splits.split (texts_in old) (subst (λ l. AreSplit (names_in mid) l (texts_in old)) (ap (λ c. c.0) (sym same)) (subst (λ n. AreSplit n old.components.0 (texts_in old)) (sym names) is.split)) (ap (λ c. c.1) same ∙ is.none_open));
  none_open = splits.none_open;
}

-- and with one that is known
pub lexicon-known : {A : Type 0} (old new : Lexicon A) → texts_in new ≡ texts_in old → names_in new ≡ names_in old → new.components ≡ old.components → IsLexicon old → IsLexicon new
lexicon-known old new texts names same is = record {
  split = subst (AreSplit (names_in new) new.components.0) (sym texts) (subst (λ l. AreSplit (names_in new) l (texts_in old)) (ap (λ c. c.0) (sym same)) (subst (λ n. AreSplit n old.components.0 (texts_in old)) (sym names) is.split));
  none_open = ap (λ c. c.1) same ∙ is.none_open;
}
