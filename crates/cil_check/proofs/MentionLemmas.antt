-- Which attributes set statements mention, by numbers and by full names.
use Rattle.cil_check.proofs.Common.{◌≡◌, ℕ, inl, inr, Bool, true, false, if◌then◌else◌, List, [], take, Contains, Option, Some, None, is_some, position, refl, sym, ap, ◌∙◌, subst, true≢false, arith, option_map, option_and_then, none-some, same_Some, bytes_eq-Decides, Word, WordExpr, leaves, map_leaves, Form, type_alias, type_attribute, attribute_set, Placed, types, leads, declared_in, declared_name, is_same, is_attribute, an_attribute, SetStatement, name_or_none, element_at, element_or_none, element_of, set_statement_of, sets_of, is_the_attribute, mentions, IsNextOf, contains-first, contains-cases, contains-map, contains-mapped, contains-middle, IsOnce, passes-among, any-contained, declared-led, contains-flat, flat-contains, leaves-mapped, attribute-word, HaveOneNames, attribute_count, IsNumbered, number_of, number_led, Mentions, AreMentioned}
use Rattle.std.proofs.Common.{slice_get}
use Rattle.cil_check.proofs.NumberLemmas.{count-once}
use Rattle.cil_check.proofs.DeclaredLemmas.{at-contains, contains-at, same-place, first-place, some-name}

pub attribute-declares : (form : Form) → is_attribute form ≡ true → is_some (declared_in types form) ≡ true
attribute-declares form is = ap (λ f. is_some (declared_in types f)) (attribute-word form is).1

-- the attribute that a word leads to
pub record Led (policy : List Placed) (namespace : List (List ℕ)) (word : Word) (n : ℕ) : Type 0 where
  pub i : ℕ
  pub s : Placed
  pub lead : leads policy types namespace word.text ≡ Some s
  pub numbered : IsNumbered policy n i s

-- an attribute that another's set statement mentions
pub record Next (policy : List Placed) (a : ℕ) (name : List ℕ) : Type 0 where
  pub b : ℕ
  pub k : ℕ
  pub t : Placed
  pub numbered : IsNumbered policy b k t
  pub is_named : declared_name types t ≡ name
  pub mentioned : AreMentioned policy policy a b

module _ (policy : List Placed) (once : IsOnce policy) (named : HaveOneNames policy) where
  -- the number of the attribute of a place
  pub number-at : (n i : ℕ) (s : Placed) → IsNumbered policy n i s → number_of policy s ≡ Some n
  number-at n i s is =
      ap (λ b. if b then option_map (λ j. attribute_count (take j policy)) (position (is_same types s) policy) else None) is.is
      ∙ ap (option_map (λ j. attribute_count (take j policy))) (first-place policy once named i s is.at (attribute-declares s.form is.is)) ∙ ap Some is.number

  -- the place of the attribute of a number
  number-is : (n : ℕ) (s : Placed) → Contains policy s → number_of policy s ≡ Some n → (i : ℕ) × IsNumbered policy n i s
  number-is n s there e = by (is_attribute s.form) refl e
    where
      by : (b : Bool) → is_attribute s.form ≡ b → (if b then option_map (λ j. attribute_count (take j policy)) (position (is_same types s) policy) else None) ≡ Some n → (i : ℕ) × IsNumbered policy n i s
      by false is e = absurd (none-some n e)
      by true is e =
          let (i, at) = contains-at policy s there in
          let first = first-place policy once named i s at (attribute-declares s.form is) in
          (i, record { at = at; is = is; number = same_Some (attribute_count (take i policy)) n (sym (ap (option_map (λ j. attribute_count (take j policy))) first) ∙ e) })

  -- one number, one attribute
  pub one-number : (n i k : ℕ) (s t : Placed) → IsNumbered policy n i s → IsNumbered policy n k t → t ≡ s
  one-number n i k s t is are =
      let same = count-once (λ u. is_attribute u.form) policy k i t s are.at are.is is.at is.is (are.number ∙ sym is.number) in
      same_Some t s (sym are.at ∙ ap (slice_get policy) same ∙ is.at)

  -- one full name, one attribute
  pub one-name : (n m i k : ℕ) (s t : Placed) → IsNumbered policy n i s → IsNumbered policy m k t → declared_name types t ≡ declared_name types s → m ≡ n
  one-name n m i k s t is are same =
      let place = same-place policy once named k i t s are.at is.at (attribute-declares t.form are.is) (attribute-declares s.form is.is) same in
      sym are.number ∙ ap (λ j. attribute_count (take j policy)) place ∙ is.number

  pub led-to : (namespace : List (List ℕ)) (word : Word) (n : ℕ) → number_led policy namespace word ≡ Some n → Led policy namespace word n
  led-to namespace word n e = by (leads policy types namespace word.text) refl e
    where
      by : (o : Option Placed) → leads policy types namespace word.text ≡ o → option_and_then (number_of policy) o ≡ Some n → Led policy namespace word n
      by None led e = absurd (none-some n e)
      by (Some s) led e =
          let (i, numbered) = number-is n s (declared-led policy types namespace word.text s led).there e in
          record { i = i; s = s; lead = led; numbered = numbered }

  -- what a name of an expression stands for
  attribute-element : (s : Placed) → is_attribute s.form ≡ true → element_at policy s s.form ≡ an_attribute (declared_name types s)
  attribute-element s is = ap (element_at policy s) (attribute-word s.form is).1

  element-attribute : (s : Placed) (form : Form) (name : List ℕ) → is_the_attribute name (element_at policy s form) ≡ true → (is_attribute form ≡ true) × (name ≡ declared_name types s)
  element-attribute s (type_attribute id) name e = (refl, (bytes_eq-Decides name (declared_name types s)).0 e)
  element-attribute s (type_alias id) name e = absurd (true≢false (sym e))
  element-attribute s _ name e = absurd (true≢false (sym e))

  -- the set statement of a statement
  abbrev set_of : Placed → Word → WordExpr → SetStatement
  set_of u attribute expr = record {
    module_name = u.module_name;
    at = u.at;
    attribute = name_or_none types (leads policy types u.namespace attribute.text);
    expr = map_leaves (element_of policy u.namespace) expr;
  }

  -- what is mentioned by numbers is so by full names
  pub mentioned-next : (a b i k : ℕ) (s t : Placed) → IsNumbered policy a i s → IsNumbered policy b k t → AreMentioned policy policy a b → IsNextOf (sets_of policy) (declared_name types s) (declared_name types t)
  mentioned-next a b i k s t is are mentioned = record {
    s = set_of u m.attribute m.expr;
    is_in =
        contains-flat (λ v. set_statement_of policy v v.form) policy u (set_of u m.attribute m.expr) mentioned.there
        (subst (λ f. Contains (set_statement_of policy u f) (set_of u m.attribute m.expr)) (sym m.form) (contains-first (set_of u m.attribute m.expr) []));
    of_attribute = ap (name_or_none types) from.lead ∙ ap (declared_name types) (one-number a i from.i s from.s is from.numbered);
    mentioned = any-contained (is_the_attribute (declared_name types t)) (leaves (map_leaves (element_of policy u.namespace) m.expr)) (element_of policy u.namespace m.word) among told;
  }
    where
      u : Placed
      u = mentioned.s

      m : Mentions policy u a b
      m = mentioned.mentions

      from : Led policy u.namespace m.attribute a
      from = led-to u.namespace m.attribute a m.of_attribute

      to : Led policy u.namespace m.word b
      to = led-to u.namespace m.word b m.other

      among : Contains (leaves (map_leaves (element_of policy u.namespace) m.expr)) (element_of policy u.namespace m.word)
      among =
          subst (λ l. Contains l (element_of policy u.namespace m.word)) (sym (leaves-mapped (element_of policy u.namespace) m.expr))
          (contains-map (element_of policy u.namespace) (leaves m.expr) m.word m.mentioned)

      element : element_of policy u.namespace m.word ≡ an_attribute (declared_name types t)
      element = ap (element_or_none policy) to.lead ∙ attribute-element to.s to.numbered.is ∙ ap (λ v. an_attribute (declared_name types v)) (one-number b k to.i t to.s are to.numbered)

      told : is_the_attribute (declared_name types t) (element_of policy u.namespace m.word) ≡ true
      told = ap (is_the_attribute (declared_name types t)) element ∙ (bytes_eq-Decides (declared_name types t) (declared_name types t)).1 refl

  -- the number of what a word leads to, by its full name
  named-number : (a i : ℕ) (s : Placed) (namespace : List (List ℕ)) (word : Word) → IsNumbered policy a i s → name_or_none types (leads policy types namespace word.text) ≡ declared_name types s
      → number_led policy namespace word ≡ Some a
  named-number a i s namespace word is same = by (leads policy types namespace word.text) refl same
    where
      by : (o : Option Placed) → leads policy types namespace word.text ≡ o → name_or_none types o ≡ declared_name types s → option_and_then (number_of policy) (leads policy types namespace word.text) ≡ Some a
      by None led same = absurd (some-name policy once named s (at-contains policy i s is.at) (attribute-declares s.form is.is) (sym same))
      by (Some t) led same =
          let declared = declared-led policy types namespace word.text t led in
          let (k, at) = contains-at policy t declared.there in
          let place = same-place policy once named k i t s at is.at declared.declares_one (attribute-declares s.form is.is) same in
          ap (option_and_then (number_of policy)) led ∙ ap (number_of policy) (same_Some t s (sym at ∙ ap (slice_get policy) place ∙ is.at)) ∙ number-at a i s is

  -- what is mentioned by full names is so by numbers
  pub next-mentioned : (a i : ℕ) (s : Placed) (name : List ℕ) → IsNumbered policy a i s → IsNextOf (sets_of policy) (declared_name types s) name → Next policy a name
  next-mentioned a i s name is next =
      let (u, there, c) = flat-contains (λ v. set_statement_of policy v v.form) policy next.s next.is_in in
      by u there u.form refl c
    where
      word-next : (u : Placed) (attribute : Word) (expr : WordExpr) (word : Word) → Contains policy u → u.form ≡ attribute_set attribute expr → number_led policy u.namespace attribute ≡ Some a
          → Contains (leaves expr) word → (o : Option Placed) → leads policy types u.namespace word.text ≡ o → is_the_attribute name (element_or_none policy o) ≡ true → Next policy a name
      word-next u attribute expr word there form of_attribute among None led e = absurd (true≢false (sym e))
      word-next u attribute expr word there form of_attribute among (Some t) led e =
          let (is_one, same) = element-attribute t t.form name e in
          let (k, at) = contains-at policy t (declared-led policy types u.namespace word.text t led).there in
          let numbered : IsNumbered policy (attribute_count (take k policy)) k t = record { at = at; is = is_one; number = refl } in
          record {
            b = attribute_count (take k policy);
            k = k;
            t = t;
            numbered = numbered;
            is_named = sym same;
            mentioned = record {
              s = u;
              there = there;
              mentions = record {
                attribute = attribute;
                expr = expr;
                form = form;
                of_attribute = of_attribute;
                word = word;
                mentioned = among;
                other = ap (option_and_then (number_of policy)) led ∙ number-at (attribute_count (take k policy)) k t numbered;
              };
            };
          }

      set-next : (u : Placed) (attribute : Word) (expr : WordExpr) → Contains policy u → u.form ≡ attribute_set attribute expr → set_of u attribute expr ≡ next.s → Next policy a name
      set-next u attribute expr there form same =
          let f = element_of policy u.namespace in
          let mentioned : mentions name (map_leaves f expr) ≡ true = ap (λ x. mentions name x.expr) same ∙ next.mentioned in
          let found = passes-among (is_the_attribute name) (leaves (map_leaves f expr)) mentioned in
          let element = subst (λ l. Contains l found.x) (sym found.split ∙ leaves-mapped f expr) (contains-middle found.before found.x found.after) in
          let (word, among, is_it) = contains-mapped f (leaves expr) found.x element in
          word-next u attribute expr word there form (named-number a i s u.namespace attribute is (ap (λ x. x.attribute) same ∙ next.of_attribute)) among
          (leads policy types u.namespace word.text) refl (ap (is_the_attribute name) is_it ∙ found.passes)

      by : (u : Placed) → Contains policy u → (form : Form) → u.form ≡ form → Contains (set_statement_of policy u form) next.s → Next policy a name
      by u there (attribute_set attribute expr) form c = elim (contains-cases (set_of u attribute expr) [] next.s c) [
        | inl same ↦ set-next u attribute expr there form same
        | inr none ↦ absurd (omega (arith, none.1))
      ]
      by u there _ form c = absurd (omega (arith, c.1))
