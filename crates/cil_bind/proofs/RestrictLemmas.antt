-- The statements of a policy that stand in kept optionals alone.
use Rattle.cil_bind.proofs.Common.{◌≡◌, ◌⊎◌, inl, inr, ℕ, suc, ◌<◌, ◌≤◌, ◌^◌, length, Bool, true, false, cond, List, [], ◌∷◌, filter, get_or, Contains, refl, sym, ap, ◌∙◌, subst, arith, stands_apart, Placed, list_all, Optionals, is_within, restricted, AreApart, first_true, second_true, contains-cases, contains-first, contains-other, AreRows, IsOpenedIn, Stands, AreFrom, AreMarked, NamedModule, Row}

abbrev pub mark : List Bool → Row → Bool
mark kept row = get_or kept row.optional false

rows-kept : (names spaces : List (List ℕ)) (set : Optionals) (kept : List Bool) (rows : List Row) (policy : List Placed) → AreMarked set kept rows policy → AreRows names spaces rows policy → AreRows names spaces (filter (mark kept) rows) (restricted set policy)
rows-kept names spaces set kept [] [] marked are = tt
rows-kept names spaces set kept [] (s ∷ policy) marked are = absurd marked
rows-kept names spaces set kept (row ∷ rows) [] marked are = absurd marked
rows-kept names spaces set kept (row ∷ rows) (s ∷ policy) marked are = by (mark kept row) (is_within set s) marked.0 (rows-kept names spaces set kept rows policy marked.1 are.1)
  where
    by : (b d : Bool) → b ≡ d → AreRows names spaces (filter (mark kept) rows) (restricted set policy)
        → AreRows names spaces (cond b (row ∷ filter (mark kept) rows) (filter (mark kept) rows)) (cond d (s ∷ restricted set policy) (restricted set policy))
    by true true e rest = (are.0, rest)
    by false false e rest = rest
    by true false e rest = cc
    by false true e rest = cc

pub from-kept : {A : Type 0} (parsed : List (NamedModule A)) (set : Optionals) (kept : List Bool) (rows : List Row) (policy : List Placed) → AreMarked set kept rows policy → AreFrom parsed rows policy → AreFrom parsed (filter (mark kept) rows) (restricted set policy)
from-kept parsed set kept [] [] marked are = tt
from-kept parsed set kept [] (s ∷ policy) marked are = absurd marked
from-kept parsed set kept (row ∷ rows) [] marked are = absurd marked
from-kept parsed set kept (row ∷ rows) (s ∷ policy) marked are = by (mark kept row) (is_within set s) marked.0 (from-kept parsed set kept rows policy marked.1 are.1)
  where
    by : (b d : Bool) → b ≡ d → AreFrom parsed (filter (mark kept) rows) (restricted set policy)
        → AreFrom parsed (cond b (row ∷ filter (mark kept) rows) (filter (mark kept) rows)) (cond d (s ∷ restricted set policy) (restricted set policy))
    by true true e rest = (are.0, rest)
    by false false e rest = rest
    by true false e rest = cc
    by false true e rest = cc

contains-kept : (set : Optionals) (policy : List Placed) (s : Placed) → is_within set s ≡ true → Contains policy s → Contains (restricted set policy) s
contains-kept set [] s e there = absurd (omega (arith, there.1))
contains-kept set (t ∷ policy) s e there = by (contains-kept set policy s e) (is_within set t) refl (contains-cases t policy s there)
  where
    by : (Contains policy s → Contains (restricted set policy) s) → (b : Bool) → is_within set t ≡ b → (t ≡ s) ⊎ Contains policy s → Contains (cond b (t ∷ restricted set policy) (restricted set policy)) s
    by more true is (inl same) = subst (Contains (t ∷ restricted set policy)) same (contains-first t (restricted set policy))
    by more true is (inr others) = contains-other t (restricted set policy) s (more others)
    by more false is (inl same) = absurd (let f : false ≡ true = sym is ∙ ap (is_within set) same ∙ e in cc)
    by more false is (inr others) = more others

-- blocks stand in no optional, so that all namespaces stay
pub stands-kept : (names spaces : List (List ℕ)) (set : Optionals) (kept : List Bool) (rows new : List Row) (policy : List Placed) → AreApart policy → AreMarked set kept rows policy → Stands names spaces rows policy → new ≡ filter (mark kept) rows
    → Stands names spaces new (restricted set policy)
stands-kept names spaces set kept rows new policy apart marked stands e = record {
  numbered = stands.numbered;
  global = stands.global;
  rows_are = subst (λ r. AreRows names spaces r (restricted set policy)) (sym e) (rows-kept names spaces set kept rows policy marked stands.rows_are);
  opened_by = λ space there. by space (stands.opened_by space there);
}
  where
    by : (space : List ℕ) → IsOpenedIn names policy space → IsOpenedIn names (restricted set policy) space
    by space (inl none) = inl none
    by space (inr (s, id, there, form, is)) =
        let none = apart s there (ap stands_apart form) in
        inr (s, id, contains-kept set policy s (ap (list_all (set s.module_name)) none) there, form, is)

-- no more rows are kept than there are
pub few-kept : (kept : List Bool) (rows : List Row) → length rows < 2 ^ 32 → length (filter (mark kept) rows) < 2 ^ 32
few-kept kept rows few = let less = fewer rows in omega arith
  where
    fewer : (rows : List Row) → length (filter (mark kept) rows) ≤ length rows
    fewer [] = omega arith
    fewer (row ∷ rows) = by (fewer rows) (mark kept row)
      where
        by : length (filter (mark kept) rows) ≤ length rows → (b : Bool) → length (cond b (row ∷ filter (mark kept) rows) (filter (mark kept) rows)) ≤ suc (length rows)
        by less true = omega arith
        by less false = omega arith

-- where all rows are kept, so are all statements
pub all-restricted : (set : Optionals) (kept : List Bool) (rows seen : List Row) (policy : List Placed) → seen ≡ rows → list_all (mark kept) seen ≡ true → AreMarked set kept rows policy → restricted set policy ≡ policy
all-restricted set kept rows seen policy same all marked = whole rows policy (ap (list_all (mark kept)) (sym same) ∙ all) marked
  where
    whole : (rows : List Row) (policy : List Placed) → list_all (mark kept) rows ≡ true → AreMarked set kept rows policy → restricted set policy ≡ policy
    whole [] [] all marked = refl
    whole [] (s ∷ policy) all marked = absurd marked
    whole (row ∷ rows) [] all marked = absurd marked
    whole (row ∷ rows) (s ∷ policy) all marked =
        ap (λ b. cond b (s ∷ restricted set policy) (restricted set policy)) (sym marked.0 ∙ first_true (mark kept row) (list_all (mark kept) rows) all)
        ∙ ap (λ l. s ∷ l) (whole rows policy (second_true (mark kept row) (list_all (mark kept) rows) all) marked.1)
