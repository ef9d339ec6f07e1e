-- Whether an attribute depends on another is decided: by way of the attributes of set statements, each taken or not.
use Rattle.cil_specs.proofs.Common.{◌≡◌, ◌↔◌, ℕ, inl, inr, Bool, true, false, ◌&&◌, ◌||◌, List, [], ◌∷◌, ◌++◌, map, bytes_eq, refl, sym, ap, ◌∙◌, subst, list_any, or_cases, bytes_eq-Decides, or-true, has_name, SetStatement, mentions, IsNextOf, DependsThrough, DependsOn}
use Rattle.std.proofs.Common.{Contains, true≢false}
use Rattle.cil_specs.proofs.Runs.{first_true, second_true, both_true}
use Rattle.cil_specs.proofs.NamesLemmas.{around, contains-map, contains-middle}
use Rattle.cil_specs.proofs.OnceLemmas.{passes-among, any-middle}

-- an element that passes a test
pub any-contained : {X : Type 0} (p : X → Bool) (xs : List X) (x : X) → Contains xs x → p x ≡ true → list_any p xs ≡ true
any-contained p xs x c e = let a = around xs x c in ap (list_any p) a.whole ∙ any-middle p a.before x a.after e

or-first : (b c : Bool) → b ≡ true → (b || c) ≡ true
or-first b c e = ap (λ x. x || c) e

or-second : (b c : Bool) → c ≡ true → (b || c) ≡ true
or-second b c e = ap (λ x. b || x) e ∙ or-true b

module _ (sets : List SetStatement) where
  -- whether a set statement of an attribute mentions another
  abbrev is_next : List ℕ → List ℕ → Bool
  is_next a b = list_any (λ s. bytes_eq a s.attribute && mentions b s.expr) sets

  -- whether an attribute depends on another by way of these attributes alone
  abbrev pub depends_by : List (List ℕ) → List ℕ → List ℕ → Bool
  depends_by [] a b = is_next a b
  depends_by (c ∷ names) a b = depends_by names a b || (depends_by names a c && depends_by names c b)

  next-of : (a b : List ℕ) → is_next a b ≡ true → IsNextOf sets a b
  next-of a b e =
      let found = passes-among (λ s. bytes_eq a s.attribute && mentions b s.expr) sets e in
      record {
        s = found.x;
        is_in = subst (λ l. Contains l found.x) (sym found.split) (contains-middle found.before found.x found.after);
        of_attribute = sym ((bytes_eq-Decides a found.x.attribute).0 (first_true (bytes_eq a found.x.attribute) (mentions b found.x.expr) found.passes));
        mentioned = second_true (bytes_eq a found.x.attribute) (mentions b found.x.expr) found.passes;
      }

  is-next : (a b : List ℕ) → IsNextOf sets a b → is_next a b ≡ true
  is-next a b next =
      any-contained (λ s. bytes_eq a s.attribute && mentions b s.expr) sets next.s next.is_in
      (both_true (bytes_eq a next.s.attribute) (mentions b next.s.expr) ((bytes_eq-Decides a next.s.attribute).1 (sym next.of_attribute)) next.mentioned)

  through-append : (first second : List (List ℕ)) (a b c : List ℕ) → DependsThrough sets a first b → DependsThrough sets b second c → DependsThrough sets a (first ++ b ∷ second) c
  through-append [] second a b c step more = (step, more)
  through-append (x ∷ first) second a b c (step, rest) more = (step, through-append first second x b c rest more)

  pub depends-join : (a b c : List ℕ) → DependsOn sets a b → DependsOn sets b c → DependsOn sets a c
  depends-join a b c (first, there) (second, more) = (first ++ b ∷ second, through-append first second a b c there more)

  depends-by : (names : List (List ℕ)) (a b : List ℕ) → depends_by names a b ≡ true → DependsOn sets a b
  depends-by [] a b e = ([], next-of a b e)
  depends-by (c ∷ names) a b e = elim (or_cases (depends_by names a b) (depends_by names a c && depends_by names c b) e) [
    | inl without ↦ depends-by names a b without
    | inr by_way ↦ depends-join a c b (depends-by names a c (first_true (depends_by names a c) (depends_by names c b) by_way)) (depends-by names c b (second_true (depends_by names a c) (depends_by names c b) by_way))
  ]

  -- a step is taken by way of none
  step-alone : (names : List (List ℕ)) (a b : List ℕ) → is_next a b ≡ true → depends_by names a b ≡ true
  step-alone [] a b e = e
  step-alone (c ∷ names) a b e = or-first (depends_by names a b) (depends_by names a c && depends_by names c b) (step-alone names a b e)

  -- a step to one of the attributes, and from there by way of them
  step-then : (names : List (List ℕ)) (a x b : List ℕ) → has_name names x ≡ true → is_next a x ≡ true → depends_by names x b ≡ true → depends_by names a b ≡ true
  step-then [] a x b has next more = absurd (true≢false (sym has))
  step-then (c ∷ names) a x b has next more = by (bytes_eq x c) refl has (step-then names a x)
    where
      by : (q : Bool) → bytes_eq x c ≡ q → (q || has_name names x) ≡ true
          → ((z : List ℕ) → has_name names x ≡ true → is_next a x ≡ true → depends_by names x z ≡ true → depends_by names a z ≡ true) → depends_by (c ∷ names) a b ≡ true
      by true same has later =
          let here : x ≡ c = (bytes_eq-Decides x c).0 same in
          let rest : depends_by names c b ≡ true = elim (or_cases (depends_by names x b) (depends_by names x c && depends_by names c b) more) [
            | inl without ↦ subst (λ y. depends_by names y b ≡ true) here without
            | inr by_way ↦ second_true (depends_by names x c) (depends_by names c b) by_way
          ] in
          or-second (depends_by names a b) (depends_by names a c && depends_by names c b)
          (both_true (depends_by names a c) (depends_by names c b) (step-alone names a c (subst (λ y. is_next a y ≡ true) here next)) rest)
      by false other has later = elim (or_cases (depends_by names x b) (depends_by names x c && depends_by names c b) more) [
        | inl without ↦ or-first (depends_by names a b) (depends_by names a c && depends_by names c b) (later b has next without)
        | inr by_way ↦ or-second (depends_by names a b) (depends_by names a c && depends_by names c b)
            (both_true (depends_by names a c) (depends_by names c b) (later c has next (first_true (depends_by names x c) (depends_by names c b) by_way)) (second_true (depends_by names x c) (depends_by names c b) by_way))
      ]

  -- the attributes of the set statements
  abbrev with_sets : List (List ℕ)
  with_sets = map (λ s. s.attribute) sets

  -- what an attribute depends on by a step of its own
  pub first-step : (a b : List ℕ) (between : List (List ℕ)) → DependsThrough sets a between b → (x : List ℕ) × IsNextOf sets a x
  first-step a b [] step = (b, step)
  first-step a b (x ∷ between) (step, rest) = (x, step)

  has-sets : (a b : List ℕ) (between : List (List ℕ)) → DependsThrough sets a between b → has_name with_sets a ≡ true
  has-sets a b between there =
      let next = (first-step a b between there).1 in
      any-contained (bytes_eq a) with_sets next.s.attribute (contains-map (λ s. s.attribute) sets next.s next.is_in) ((bytes_eq-Decides a next.s.attribute).1 (sym next.of_attribute))

  through : (between : List (List ℕ)) (a b : List ℕ) → DependsThrough sets a between b → depends_by with_sets a b ≡ true
  through [] a b step = step-alone with_sets a b (is-next a b step)
  through (x ∷ between) a b (step, rest) = step-then with_sets a x b (has-sets x b between rest) (is-next a x step) (through between x b rest)

  -- whether an attribute depends on another
  abbrev pub depends_on : List ℕ → List ℕ → Bool
  depends_on a b = depends_by with_sets a b

  pub depends-decided : (a b : List ℕ) → (depends_on a b ≡ true) ↔ DependsOn sets a b
  depends-decided a b = (depends-by with_sets a b, λ (between, there). through between a b there)
