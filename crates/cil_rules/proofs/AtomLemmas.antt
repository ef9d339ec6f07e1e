-- Accesses by numbers have the order of those by names.
use Rattle.cil_rules.proofs.Common.{◌≡◌, ◌⊎◌, inl, inr, ℕ, ◌<◌, List, [], length, map, refl, sym, ap, ◌∙◌, arith, IsTrue, IsStrictlySortedBy, nat_cmp, ordering_then, ordering_reverse, Ordering, Less, Equal, Greater, cases_order, tied_itself, recursion_from_All, name_cmp, atom_cmp, names_rise, name_total, sorted_from_names_rise, sorted_map, rule_kind_of, AccessNumbers, IsWithin, atom_at, name_at, AreNumbered}
use Rattle.std.proofs.lemmas.Bool.Decides.{nat_tests}
use Rattle.std.proofs.lemmas.Map.Keys.{Less-from_sorted}
use Rattle.cil_specs.specs.Rule as spec
use Rattle.cil_accesses.specs.Chunks.{numbers_cmp}

less : (i j : ℕ) → i < j → nat_cmp i j ≡ Less
less i j h = grind (arith, nat_tests)

equal : (i : ℕ) → nat_cmp i i ≡ Equal
equal i = grind (arith, nat_tests)

greater : (i j : ℕ) → j < i → nat_cmp i j ≡ Greater
greater i j h = grind (arith, nat_tests)

-- where names rise, their order is that of their numbers
pub name_cmp-name_at : (names : List (List ℕ)) (i j : ℕ) → IsTrue (names_rise names) → i < length names → j < length names → name_cmp (name_at names i) (name_at names j) ≡ nat_cmp i j
name_cmp-name_at names i j rise i_within j_within = by (cases_order i j)
  where
    ascending : IsStrictlySortedBy name_cmp names
    ascending = sorted_from_names_rise names rise

    by : (i ≡ j) ⊎ ((i < j) ⊎ (j < i)) → name_cmp (name_at names i) (name_at names j) ≡ nat_cmp i j
    by (inl same) = ap (λ k. name_cmp (name_at names i) (name_at names k)) (sym same) ∙ tied_itself name_total (name_at names i) ∙ sym (equal i) ∙ ap (nat_cmp i) same
    by (inr (inl below)) = Less-from_sorted name_cmp names i j [] ascending below j_within ∙ sym (less i j below)
    by (inr (inr above)) =
        name_total.antisymm (name_at names i) (name_at names j)
        ∙ ap ordering_reverse (Less-from_sorted name_cmp names j i [] ascending above i_within) ∙ sym (greater i j above)

-- and the order of accesses is that of their numbers
pub atom_cmp-atom_at : (names : List (List ℕ)) (a b : AccessNumbers) → IsTrue (names_rise names) → IsWithin (length names) a → IsWithin (length names) b
    → atom_cmp (atom_at names a) (atom_at names b) ≡ numbers_cmp a b
atom_cmp-atom_at names a b rise a_within b_within =
    let source = name_cmp-name_at names a.source b.source rise a_within.source b_within.source in
    let target = name_cmp-name_at names a.target b.target rise a_within.target b_within.target in
    let the_class = name_cmp-name_at names a.class b.class rise a_within.the_class b_within.the_class in
    let permission = name_cmp-name_at names a.permission b.permission rise a_within.permission b_within.permission in
    let kinds : Ordering = nat_cmp (spec.kind_index (rule_kind_of a.kind)) (spec.kind_index (rule_kind_of b.kind)) in
    λ i. ordering_then kinds (ordering_then (source i) (ordering_then (target i) (ordering_then (the_class i) (permission i))))

-- the accesses of numbered ones ascend
pub atoms-ordered : (names : List (List ℕ)) (atoms : List AccessNumbers) → AreNumbered names atoms → IsStrictlySortedBy atom_cmp (map (atom_at names) atoms)
atoms-ordered names atoms are =
    sorted_map (atom_at names) numbers_cmp atom_cmp (IsWithin (length names)) (λ x y p q. atom_cmp-atom_at names x y are.names_ordered p q) atoms
    (recursion_from_All (IsWithin (length names)) atoms are.within) are.ordered

pub none-numbered : AreNumbered [] []
unfolding IsStrictlySortedBy
none-numbered = record { names_ordered = refl; ordered = tt; within = λ k d h. absurd (omega arith) }
