-- Lines that the places of a group have for themselves.
use Rattle.cil_keyed_lines.proofs.Common.{All, AreLines, AreLogged, AreNamed, AreOf, List, Named, Naming, State, [], ap, arith, cases_eq, count_before, count_now, eq-eqb, get_or, has_place, if◌then◌else◌, inl, inr, length, lines_in, name_before, name_now, named_at, ne_eqb, one_if, set, suc, sym, take, times, true, uses, ℕ, ◌+◌, ◌<◌, ◌==◌, ◌∙◌, ◌∷◌, ◌≡◌, ◌≢◌, ◌≤◌}
use Rattle.cil_keyed_lines.proofs.NameLemmas.{named_within, one_other, one_same, uses_set, uses_some}
use Rattle.std.proofs.lemmas.List.{get_or-set_other, length-set}
use Rattle.std.proofs.lemmas.List.Sums.{get_or-le-sum_by, sum_by-cons, sum_by_more}

-- ---- places of a group

times_cons : (x : Named) (xs : List Named) (p : ℕ) → times (x ∷ xs) p ≡ one_if (x.place == p) + times xs p
times_cons x xs p = sum_by-cons (λ (n : Named). one_if (n.place == p)) x xs

pub times_more : (group : List Named) (i p : ℕ) → i < length group → times (take (i + 1) group) p ≡ times (take i group) p + one_if ((named_at group i).place == p)
times_more group i p within = sum_by_more (λ (n : Named). one_if (n.place == p)) group i (record { line = 0; place = 0 }) within

-- a place of a group stands there
pub member : (P : Named → Type 0) (group : List Named) (p : ℕ) → All P group → 0 < times group p → (x : Named) × (P x × (x.place ≡ p))
member P [] p all some = absurd (omega (arith, some))
member P (x ∷ xs) p all some = elim (cases_eq x.place p) [
  | inl here ↦ (x, (all 0 x (omega arith), here))
  | inr other ↦ member P xs p (λ k d less. all (suc k) d (omega (arith, less))) (omega (arith, some, times_cons x xs p, one_other x.place p other))
]

-- Where a line is named by as many places as a group has, and each of these names it, no other does.
pub only_users : (group : List Named) (named : List ℕ) (line : ℕ) → All (λ x. (x.place < length named) × (get_or named x.place 0 ≡ line)) group → ((p : ℕ) → times group p ≤ 1)
    → uses named line ≡ length group → (p : ℕ) → p < length named → times group p ≡ 0 → get_or named p 0 ≢ line
only_users [] named line all once many p within none is = omega (arith, uses_some named p line within is, many)
only_users (x ∷ xs) named line all once many p within none is =
    only_users xs named' line rest (λ q. omega (arith, once q, times_cons x xs q)) fewer p (omega (arith, within, length-set named x.place (line + 1)))
    (omega (arith, none, times_cons x xs p)) (get_or-set_other named x.place p (line + 1) 0 apart ∙ is)
  where
    named' : List ℕ
    named' = set named x.place (line + 1)

    first : (x.place < length named) × (get_or named x.place 0 ≡ line)
    first = all 0 x (omega arith)

    apart : p ≢ x.place
    apart e = omega (arith, none, times_cons x xs p, one_same x.place p (sym e))

    fewer : uses named' line ≡ length xs
    fewer =
        omega (
          arith,
          many,
          uses_set named x.place (line + 1) line first.0,
          one_same (get_or named x.place 0) line first.1,
          one_other (line + 1) line (λ e. omega (arith, e)),
        )

    rest : All (λ y. (y.place < length named') × (get_or named' y.place 0 ≡ line)) xs
    rest k d less =
        let y = get_or xs k d in
        let is = all (suc k) d (omega (arith, less)) in
        let other : y.place ≢ x.place =
        λ e.
        omega (
          arith,
          once y.place,
          times_cons x xs y.place,
          one_same x.place y.place (sym e),
          one_same y.place y.place (λ _. y.place),
          get_or-le-sum_by (λ (n : Named). one_if (n.place == y.place)) xs k d less,
        )
        in
        (omega (arith, is.0, length-set named x.place (line + 1)), get_or-set_other named x.place y.place (line + 1) 0 other ∙ is.1)

module _ (group : List Named) (n : Naming) (named : AreNamed group n) (same : AreOf (named_at group 0).line group) where
  abbrev line : ℕ
  line = (named_at group 0).line

  both : All (λ x. (x.place < length n.named) × (name_now n x.place ≡ line)) group
  both k d less = let (within, name) = named.named k d less in (within, name ∙ same k d less)

  -- each place of the group names the line
  pub name_member : (p : ℕ) → 0 < times group p → name_now n p ≡ line
  name_member p some = let (x, (is, place)) = member (λ x. (x.place < length n.named) × (name_now n x.place ≡ line)) group p both some in ap (name_now n) (sym place) ∙ is.1

  pub own_users : line ≢ 0 → uses n.named line ≡ length group → (p : ℕ) → times group p ≡ 0 → name_now n p ≢ line
  own_users some many p none is =
      only_users group n.named line both named.once many p (named_within n.named p (λ e. some (sym is ∙ e))) none is

  -- the first place of the group names it
  pub name_first : 0 < length group → name_now n (named_at group 0).place ≡ line
  name_first some = (both 0 (record { line = 0; place = 0 }) some).1

  -- a place is one of the group where it names the line, if no other place does
  pub own_named : ((p : ℕ) → times group p ≡ 0 → name_now n p ≢ line) → (p : ℕ) → times group p ≡ one_if (name_now n p == line)
  own_named own p = elim (cases_eq (times group p) 0) [
    | inl none ↦ none ∙ sym (one_other (name_now n p) line (own p none))
    | inr some ↦ omega (arith, named.once p, some, one_same (name_now n p) line (name_member p (omega (arith, some))))
  ]

-- ---- places that are renamed

-- the places of a group name a line, and others name theirs
abbrev pub AreRenamed : (ℕ → ℕ) → (ℕ → ℕ) → (ℕ → ℕ) → ℕ → Type 0
AreRenamed count old new line = (p : ℕ) → new p ≡ (if count p == 0 then old p else line)

pub renamed_not : (count old new : ℕ → ℕ) (line p : ℕ) → AreRenamed count old new line → count p ≡ 0 → new p ≡ old p
renamed_not count old new line p are none = are p ∙ ap (λ b. if b then old p else line) (eq-eqb (count p) 0 none)

pub renamed_to : (count old new : ℕ → ℕ) (line p : ℕ) → AreRenamed count old new line → count p ≢ 0 → new p ≡ line
renamed_to count old new line p are some = are p ∙ ap (λ b. if b then old p else line) (ne_eqb (count p) 0 some)

pub renamed_more : (group : List Named) (i line : ℕ) (old now new : ℕ → ℕ) → i < length group → AreRenamed (times (take i group)) old now line
    → ((p : ℕ) → new p ≡ (if p == (named_at group i).place then line else now p)) → AreRenamed (times (take (i + 1) group)) old new line
renamed_more group i line old now new within are step p = elim (cases_eq p (named_at group i).place) [
  | inl here ↦
      let some : times (take (i + 1) group) p ≢ 0 = λ e. omega (arith, e, times_more group i p within, one_same (named_at group i).place p (sym here)) in
      step p ∙ ap (λ b. if b then line else now p) (eq-eqb p (named_at group i).place here) ∙ sym (ap (λ b. if b then old p else line) (ne_eqb (times (take (i + 1) group) p) 0 some))
  | inr other ↦
      let same : times (take (i + 1) group) p ≡ times (take i group) p = omega (arith, times_more group i p within, one_other (named_at group i).place p (λ e. other (sym e))) in
      step p ∙ ap (λ b. if b then line else now p) (ne_eqb p (named_at group i).place other) ∙ are p ∙ ap (λ m. if m == 0 then old p else line) (sym same)
]

pub logged_renamed : (old new : Naming) (place line : ℕ) → length new.named ≡ length old.named → ((p : ℕ) → name_now new p ≡ (if p == place then line else name_now old p))
    → has_place new.log place ≡ true → ((p : ℕ) → has_place old.log p ≡ true → has_place new.log p ≡ true) → AreLogged old → AreLogged new
logged_renamed old new place line len step here more are p within none = elim (cases_eq p place) [
  | inl same ↦ ap (has_place new.log) same ∙ here
  | inr other ↦ more p (are p (omega (arith, within, len)) (sym (step p ∙ ap (λ b. if b then line else name_now old p) (ne_eqb p place other)) ∙ none))
]

-- ---- lines

-- more lines, and the same names
pub lines_kept : (n n' : Naming) (s s' : State) → AreLines n s → lines_in s' ≤ n'.lines → lines_in s ≤ lines_in s' → ((p : ℕ) → name_now n' p ≡ name_now n p)
    → ((p : ℕ) → name_before n' p ≡ name_before n p) → ((t : ℕ) → count_now s' 0 t ≡ count_now s 0 t) → ((t : ℕ) → count_before s' 0 t ≡ count_before s 0 t) → AreLines n' s'
lines_kept n n' s s' are lines more now before none none_before =
    record {
      lines = lines;
      within = λ p some. omega (arith, now p, are.within p (λ e. some (now p ∙ e)), more);
      past = λ p some. omega (arith, before p, are.past p (λ e. some (before p ∙ e)), more);
      nothing = λ t. none t ∙ are.nothing t;
      nothing_before = λ t. none_before t ∙ are.nothing_before t;
    }

-- the places of a group name a line of its own
pub lines_given : (n n' : Naming) (s : State) (count : ℕ → ℕ) (line : ℕ) → AreLines n s → n'.lines ≡ n.lines → line < lines_in s
    → ((p : ℕ) → count p ≡ one_if (name_now n' p == line)) → ((p : ℕ) → count p ≡ 0 → name_now n' p ≡ name_now n p) → ((p : ℕ) → name_before n' p ≡ name_before n p) → AreLines n' s
lines_given n n' s count line are lines there own others before =
    record {
      lines = omega (arith, are.lines, lines);
      within = λ p some. elim (cases_eq (name_now n' p) line) [
        | inl here ↦ omega (arith, here, there)
        | inr other ↦
            let same = others p (own p ∙ one_other (name_now n' p) line other) in
            omega (arith, same, are.within p (λ e. some (same ∙ e)))
      ];
      past = λ p some. omega (arith, before p, are.past p (λ e. some (before p ∙ e)));
      nothing = are.nothing;
      nothing_before = are.nothing_before;
    }
