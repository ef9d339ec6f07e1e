-- The graph of attributes, as it grows statement by statement and word by word.
use Rattle.cil_check.proofs.Common.{◌≡◌, ◌⊎◌, ◌↔◌, inl, inr, ℕ, zero, suc, ◌+◌, ◌<◌, ◌≤◌, Bool, true, false, List, [], ◌∷◌, ◌++◌, length, take, get_or, Option, Some, None, position, Vec, Contains, if◌then◌else◌, refl, sym, ap, ◌∙◌, subst, arith, option_map, option_and_then, cases_lt, get_or_append_left, take_all, count_by_more_no, count_by_more_yes, none-some, same_Some, slice_get_within, slice_get-get_or, get_or_from_slice_get, slice_get_read, Word, WordExpr, leaves, attribute_set, Placed, types, leads, is_same, is_attribute, words_in, kind_of, IsLead, take-last, IsEdge, attribute_count, IsNumbered, HaveNumbers, number_of, number_led, Mentions, AreMentioned, IsGraphOf}
use Rattle.std.proofs.Common.{slice_get, length-append}
use Rattle.std.proofs.lemmas.List.Elements.{Contains-push, Contains-push_cases, Contains-append_left}
use Rattle.std.proofs.Math.Seq.{get_or-append_seam}
use Rattle.cil_parse.specs.declared.row.StatementKind.TheVariants as kinds
use Rattle.cil_check.proofs.WordLemmas.{led-at}
use Rattle.cil_check.proofs.NumberLemmas.{count-rises}
use Rattle.cil_check.proofs.DeclaredLemmas.{at-contains, contains-at}

abbrev pub places_with : List ℕ → Bool → ℕ → List ℕ
places_with places b i = if b then places ++ i ∷ [] else places

pub numbers-next : (policy : List Placed) (i : ℕ) (s : Placed) (numbers places more new : List ℕ) (b : Bool) → slice_get policy i ≡ Some s → b ≡ is_attribute s.form → more ≡ numbers ++ length places ∷ []
    → new ≡ places_with places b i → HaveNumbers policy i numbers places → HaveNumbers policy (i + 1) more new
numbers-next policy i s numbers places more new b at told is_more is_new have = record {
  long = ap length is_more ∙ length-append numbers (length places ∷ []) ∙ ap (λ n. n + 1) have.long;
  numbers_are = λ j less. ap (λ l. get_or l j 0) is_more ∙ (elim (cases_lt j i) [
    | inl before ↦ (let within : j < length numbers = (let long = have.long in omega (arith, before, long)) in get_or_append_left numbers (length places ∷ []) 0 j within ∙ have.numbers_are j before)
    | inr past ↦
        (let here : j ≡ length numbers = (let long = have.long in omega (arith, less, past, long)) in
        ap (λ k. get_or (numbers ++ length places ∷ []) k 0) here ∙ get_or-append_seam numbers (length places) [] 0 ∙ have.many ∙ ap (λ k. attribute_count (take k policy)) (sym (here ∙ have.long)))
  ]);
  many = ap length is_new ∙ by b (sym told);
  places_are = λ a less. places-at a (subst (λ l. a < length l) is_new less) (ap (λ l. get_or l a 0) is_new);
}
  where
    passes : (c : Bool) → is_attribute s.form ≡ c → is_attribute (get_or policy i s).form ≡ c
    passes c e = ap (λ u. is_attribute u.form) (get_or_from_slice_get policy i s s at) ∙ e

    within : i < length policy
    within = slice_get_within policy i s at

    by : (c : Bool) → is_attribute s.form ≡ c → length (places_with places c i) ≡ attribute_count (take (i + 1) policy)
    by true e = length-append places (i ∷ []) ∙ ap (λ n. n + 1) have.many ∙ sym (count_by_more_yes (λ u. is_attribute u.form) policy i s within (passes true e))
    by false e = have.many ∙ sym (count_by_more_no (λ u. is_attribute u.form) policy i s within (passes false e))

    among : (c : Bool) (a : ℕ) → is_attribute s.form ≡ c → a < length (places_with places c i) → (t : Placed) × IsNumbered policy a (get_or (places_with places c i) a 0) t
    among false a e less = have.places_are a less
    among true a e less = elim (cases_lt a (length places)) [
      | inl before ↦ subst (λ k. (t : Placed) × IsNumbered policy a k t) (sym (get_or_append_left places (i ∷ []) 0 a before)) (have.places_are a before)
      | inr past ↦
          (let size = length-append places (i ∷ []) in
          let here : a ≡ length places = omega (arith, less, past, size) in
          subst (λ k. (t : Placed) × IsNumbered policy a k t) (sym (ap (λ k. get_or (places ++ i ∷ []) k 0) here ∙ get_or-append_seam places i [] 0))
          (s, record { at = at; is = e; number = sym have.many ∙ sym here }))
    ]

    places-at : (a : ℕ) → a < length (places_with places b i) → get_or new a 0 ≡ get_or (places_with places b i) a 0 → (t : Placed) × IsNumbered policy a (get_or new a 0) t
    places-at a less same = subst (λ k. (t : Placed) × IsNumbered policy a k t) (sym same) (among b a (sym told) less)

-- the number of what a reference leads to
pub nowhere-number : (policy : List Placed) (namespace : List (List ℕ)) (word : Word) (found : Option ℕ) → IsLead types policy found (leads policy types namespace word.text) → found ≡ None
    → number_led policy namespace word ≡ None
nowhere-number policy namespace word found led none = ap (option_and_then (number_of policy)) (sym led.is ∙ ap (option_and_then (slice_get policy)) none)

pub there-number : (policy : List Placed) (namespace : List (List ℕ)) (word : Word) (place : ℕ) (b : Bool) → IsLead types policy (Some place) (leads policy types namespace word.text)
    → ((s : Placed) → slice_get policy place ≡ Some s → b ≡ is_attribute s.form) → number_led policy namespace word ≡ (if b then Some (attribute_count (take place policy)) else None)
there-number policy namespace word place b led told =
    let lead = led-at types policy place (leads policy types namespace word.text) led in
    ap (option_and_then (number_of policy)) lead.is
    ∙ ap (λ c. if c then option_map (λ i. attribute_count (take i policy)) (position (is_same types lead.s) policy) else None) (sym (told lead.s lead.at))
    ∙ ap (λ o. if b then option_map (λ i. attribute_count (take i policy)) o else None) (lead.first lead.s lead.at)

pub numbers-at : (policy : List Placed) (numbers places : List ℕ) (place : ℕ) → HaveNumbers policy (length policy) numbers places → place < length policy
    → slice_get numbers place ≡ Some (attribute_count (take place policy))
numbers-at policy numbers places place have within =
    let low : place < length numbers = (let long = have.long in omega (arith, within, long)) in
    slice_get-get_or numbers place 0 low ∙ ap Some (have.numbers_are place within)

-- the number of an attribute is below their count
pub number-within : (policy : List Placed) (n i : ℕ) (s : Placed) → IsNumbered policy n i s → n < attribute_count policy
number-within policy n i s is =
    let low = slice_get_within policy i s is.at in
    let rise = count-rises (λ u. is_attribute u.form) policy i (length policy) s is.at is.is low in
    let whole = ap attribute_count (take_all (length policy) policy (omega arith)) in
    let number = is.number in
    omega (arith, rise, whole, number)

-- The words of a set statement behind the first, and in front of an index, of which one leads to the attribute of a number.
pub record IsNamedBelow (policy : List Placed) (s : Placed) (k b : ℕ) : Type 0 where
  pub j : ℕ
  pub behind : 0 < j
  pub in_front : j < k
  pub word : Word
  pub at : slice_get (words_in s.form) j ≡ Some word
  pub led : number_led policy s.namespace word ≡ Some b

-- a graph has the edges of another, and those from a node to the attributes that words in front of an index lead to
abbrev pub HasWords : {A : Type 0} → List Placed → Placed → ℕ → ℕ → List (Vec ℕ A) → List (Vec ℕ A) → Type 0
HasWords policy s from k old new = (a b : ℕ) → IsEdge new a b ↔ (IsEdge old a b ⊎ ((a ≡ from) × IsNamedBelow policy s k b))

-- what is named below an index, or at it
named-more : (policy : List Placed) (s : Placed) (k b : ℕ) (word : Word) → slice_get (words_in s.form) k ≡ Some word → IsNamedBelow policy s (k + 1) b
    → IsNamedBelow policy s k b ⊎ (number_led policy s.namespace word ≡ Some b)
named-more policy s k b word at below = elim (cases_lt below.j k) [
  | inl less ↦ inl (record { j = below.j; behind = below.behind; in_front = less; word = below.word; at = below.at; led = below.led })
  | inr past ↦
      (let in_front = below.in_front in
      let here : below.j ≡ k = omega (arith, in_front, past) in
      let same : below.word ≡ word = same_Some below.word word (sym below.at ∙ ap (slice_get (words_in s.form)) here ∙ at) in
      inr (ap (λ w. number_led policy s.namespace w) (sym same) ∙ below.led))
]

named-still : (policy : List Placed) (s : Placed) (k b : ℕ) → IsNamedBelow policy s k b → IsNamedBelow policy s (k + 1) b
named-still policy s k b below =
    record { j = below.j; behind = below.behind; in_front = (let in_front = below.in_front in omega (arith, in_front)); word = below.word; at = below.at; led = below.led }

pub words-skip : {A : Type 0} (policy : List Placed) (s : Placed) (from k : ℕ) (old new : List (Vec ℕ A)) (word : Word) → slice_get (words_in s.form) k ≡ Some word → number_led policy s.namespace word ≡ None
    → HasWords policy s from k old new → HasWords policy s from (k + 1) old new
words-skip policy s from k old new word at none have a b = (there, back)
  where
    there : IsEdge new a b → IsEdge old a b ⊎ ((a ≡ from) × IsNamedBelow policy s (k + 1) b)
    there e = elim ((have a b).0 e) [ inl before ↦ inl before | inr (here, below) ↦ inr (here, named-still policy s k b below) ]

    back : IsEdge old a b ⊎ ((a ≡ from) × IsNamedBelow policy s (k + 1) b) → IsEdge new a b
    back (inl e) = (have a b).1 (inl e)
    back (inr (here, below)) = elim (named-more policy s k b word at below) [ inl less ↦ (have a b).1 (inr (here, less)) | inr led ↦ absurd (none-some b (sym none ∙ led)) ]

pub words-next : {A : Type 0} (policy : List Placed) (s : Placed) (from to k : ℕ) (old mid new : List (Vec ℕ A)) (word : Word) → slice_get (words_in s.form) k ≡ Some word → 0 < k
    → number_led policy s.namespace word ≡ Some to → ((a b : ℕ) → IsEdge new a b ↔ (IsEdge mid a b ⊎ ((a ≡ from) × (b ≡ to)))) → HasWords policy s from k old mid → HasWords policy s from (k + 1) old new
words-next policy s from to k old mid new word at behind led more have a b = (there, back)
  where
    there : IsEdge new a b → IsEdge old a b ⊎ ((a ≡ from) × IsNamedBelow policy s (k + 1) b)
    there e = elim ((more a b).0 e) [
      | inl before ↦ (elim ((have a b).0 before) [ inl first ↦ inl first | inr (here, below) ↦ inr (here, named-still policy s k b below) ])
      | inr (here, same) ↦ inr (here, record { j = k; behind = behind; in_front = omega arith; word = word; at = at; led = led ∙ ap Some (sym same) })
    ]

    back : IsEdge old a b ⊎ ((a ≡ from) × IsNamedBelow policy s (k + 1) b) → IsEdge new a b
    back (inl e) = (more a b).1 (inl ((have a b).1 (inl e)))
    back (inr (here, below)) = elim (named-more policy s k b word at below) [
      | inl less ↦ (more a b).1 (inl ((have a b).1 (inr (here, less))))
      | inr told ↦ (more a b).1 (inr (here, same_Some b to (sym told ∙ led)))
    ]

-- what a statement mentions is a word behind its first
mentions-first : (policy : List Placed) (s : Placed) (a b : ℕ) (m : Mentions policy s a b) → slice_get (words_in s.form) 0 ≡ Some m.attribute
mentions-first policy s a b m = ap (λ f. slice_get (words_in f) 0) m.form

-- all words of a set statement
pub words-end : {A : Type 0} (policy : List Placed) (s : Placed) (from k : ℕ) (old new : List (Vec ℕ A)) (attribute : Word) (expr : WordExpr) → s.form ≡ attribute_set attribute expr
    → number_led policy s.namespace attribute ≡ Some from → length (words_in s.form) ≤ k → HasWords policy s from k old new → (a b : ℕ) → IsEdge new a b ↔ (IsEdge old a b ⊎ Mentions policy s a b)
words-end policy s from k old new attribute expr form led past have a b = (there, back)
  where
    named : IsNamedBelow policy s k b → a ≡ from → Mentions policy s a b
    named below here = by below.j below.behind (ap (λ f. slice_get (words_in f) below.j) (sym form) ∙ below.at)
      where
        by : (j : ℕ) → 0 < j → slice_get (attribute ∷ leaves expr) j ≡ Some below.word → Mentions policy s a b
        by zero behind at = absurd (omega (arith, behind))
        by (suc j) behind at = record {
          attribute = attribute;
          expr = expr;
          form = form;
          of_attribute = led ∙ ap Some (sym here);
          word = below.word;
          mentioned = at-contains (leaves expr) j below.word at;
          other = below.led;
        }

    there : IsEdge new a b → IsEdge old a b ⊎ Mentions policy s a b
    there e = elim ((have a b).0 e) [ inl before ↦ inl before | inr (here, below) ↦ inr (named below here) ]

    back : IsEdge old a b ⊎ Mentions policy s a b → IsEdge new a b
    back (inl e) = (have a b).1 (inl e)
    back (inr m) =
        let same : m.attribute ≡ attribute = same_Some m.attribute attribute (sym (mentions-first policy s a b m) ∙ ap (λ f. slice_get (words_in f) 0) form) in
        let here : a ≡ from = same_Some a from (sym m.of_attribute ∙ ap (λ w. number_led policy s.namespace w) same ∙ led) in
        let (j, at) = contains-at (leaves m.expr) m.word m.mentioned in
        let there_too : slice_get (words_in s.form) (suc j) ≡ Some m.word = ap (λ f. slice_get (words_in f) (suc j)) m.form ∙ at in
        let within : suc j < length (words_in s.form) = slice_get_within (words_in s.form) (suc j) m.word there_too in
        (have a b).1 (inr (here, record { j = suc j; behind = omega arith; in_front = omega (arith, within, past); word = m.word; at = there_too; led = m.other }))

pub mentions-set : (policy : List Placed) (s : Placed) (a b : ℕ) → Mentions policy s a b → kind_of s.form ≡ kinds.TypeAttributeSet
mentions-set policy s a b m = ap kind_of m.form

-- a graph has an edge where one of these statements mentions an attribute
abbrev pub HasEdges : {A : Type 0} → List Placed → List Placed → List (Vec ℕ A) → Type 0
HasEdges policy statements graph = (a b : ℕ) → IsEdge graph a b ↔ AreMentioned policy statements a b

pub edges-next : {A : Type 0} (policy : List Placed) (i : ℕ) (s : Placed) (old new : List (Vec ℕ A)) → slice_get policy i ≡ Some s → ((a b : ℕ) → IsEdge new a b ↔ (IsEdge old a b ⊎ Mentions policy s a b))
    → HasEdges policy (take i policy) old → HasEdges policy (take (i + 1) policy) new
edges-next policy i s old new at more have a b = (there, back)
  where
    last : take (i + 1) policy ≡ take i policy ++ s ∷ []
    last = take-last policy i s at

    there : IsEdge new a b → AreMentioned policy (take (i + 1) policy) a b
    there e = elim ((more a b).0 e) [
      | inl before ↦
          (let m = (have a b).0 before in
          record { s = m.s; there = subst (λ l. Contains l m.s) (sym last) (Contains-append_left (take i policy) (s ∷ []) m.s m.there); mentions = m.mentions })
      | inr m ↦ record { s = s; there = subst (λ l. Contains l s) (sym last) (Contains-push (take i policy) s); mentions = m }
    ]

    back : AreMentioned policy (take (i + 1) policy) a b → IsEdge new a b
    back m = elim (Contains-push_cases (take i policy) s m.s (subst (λ l. Contains l m.s) last m.there)) [
      | inl before ↦ (more a b).1 (inl ((have a b).1 (record { s = m.s; there = before; mentions = m.mentions })))
      | inr same ↦ (more a b).1 (inr (subst (λ u. Mentions policy u a b) (sym same) m.mentions))
    ]

-- one that is no set statement mentions nothing
pub edges-skip : {A : Type 0} (policy : List Placed) (i : ℕ) (s : Placed) (graph : List (Vec ℕ A)) → slice_get policy i ≡ Some s → (kind_of s.form ≡ kinds.TypeAttributeSet → ⊥)
    → HasEdges policy (take i policy) graph → HasEdges policy (take (i + 1) policy) graph
edges-skip policy i s graph at other =
    edges-next policy i s graph graph at (λ a b. (λ e. inl e, λ some. elim some [ inl e ↦ e | inr m ↦ absurd (other (mentions-set policy s a b m)) ]))

pub edges-end : {A : Type 0} (policy : List Placed) (n : ℕ) (graph : List (Vec ℕ A)) → length policy ≤ n → length graph ≡ attribute_count policy → HasEdges policy (take n policy) graph → IsGraphOf policy graph
edges-end policy n graph past nodes have = record { nodes = nodes; edges = subst (λ l. HasEdges policy l graph) (take_all n policy past) have }

-- there are as many places as attributes
pub places-many : (policy : List Placed) (numbers places : List ℕ) → HaveNumbers policy (length policy) numbers places → length places ≡ attribute_count policy
places-many policy numbers places have = have.many ∙ ap attribute_count (take_all (length policy) policy (omega arith))

-- the place of the attribute of a number, as it is read
pub place-numbered : (policy : List Placed) (numbers places : List ℕ) (number place : ℕ) → HaveNumbers policy (length policy) numbers places → number < length places → place ≡ get_or places number place
    → (s : Placed) × IsNumbered policy number place s
place-numbered policy numbers places number place have less read =
    subst (λ i. (s : Placed) × IsNumbered policy number i s) (get_or_from_slice_get places number place 0 (slice_get_read places (length places) number place refl less read)) (have.places_are number less)
