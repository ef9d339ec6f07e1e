-- How many accesses came to a table, told by the counters.
use Rattle.cil_counters.proofs.Common.{◌≡◌, ◌≢◌, ◌⊎◌, ℕ, ◌<◌, true, not, List, [], ◌∷◌, length, map, nat_lt, Some, Less, Equal, Greater, true≢false, refl, sym, ap, subst, ◌∙◌, inl, inr, arith, IsTrue, AllByRecursion, AllPairs, IsStrictlySortedBy, ltb-true, length-map, slice_get-get_or, is_in_table, atom_cmp, AreAtoms, AreChanges, Atom, AnyByRecursion, all_weaker, contains_from, contains_to, SymbolKey, meaning_in, Resolved, atom_of, is_named, name_at, AreApart, IsCounted}
use Rattle.std.proofs.Common.{Contains}
use Rattle.std.specs.Ordering.{ordering_reverse}
use Rattle.std.specs.declared.cmp.Ordering.{Ordering}
use Rattle.cil_sums.proofs.PairLemmas.{at-most-all, from-mapped, mapped, pairs-map}
use Rattle.cil_specs.specs.Rule.{kind_index}
use Rattle.cil_specs.proofs.ReportLemmas.{atom_exact, atom_total}
use Rattle.cil_accesses.proofs.Order.{same-rule_kind}
use Rattle.cil_symbol_changes.specs.Counts.{has_come, AreSoMany}
use Rattle.cil_symbol_changes.specs.declared.counted_changes.ChangeCounts.{ChangeCounts}
use Rattle.cil_symbol_changes.proofs.CountLemmas.{both-hold}
use Rattle.cil_counters.specs.ChangeCounts.{CountsSome}
use Rattle.cil_table_updates.proofs.FewLemmas.{atoms-apart}
use Rattle.cil_counters.proofs.ChangedLemmas.{are-low, come-risen, comes, counted-listed, table-key, AreLow}

-- ---- accesses put in order

-- a list in order that has one access beside those of another list
record HasBeside (a : Atom) (others : List Atom) : Type 0 where
  atoms : List Atom
  ascends : IsStrictlySortedBy atom_cmp atoms
  all : (b : Atom) → ((b ≡ a) ⊎ AnyByRecursion (λ y. y ≡ b) others) → AnyByRecursion (λ y. y ≡ b) atoms
  only : (b : Atom) → AnyByRecursion (λ y. y ≡ b) atoms → (b ≡ a) ⊎ AnyByRecursion (λ y. y ≡ b) others

of-each : (P : Atom → Type 0) (atoms : List Atom) → ((b : Atom) → AnyByRecursion (λ y. y ≡ b) atoms → P b) → AllByRecursion P atoms
of-each P [] each = tt
of-each P (a ∷ atoms) each = (each a (inl refl), of-each P atoms (λ b at. each b (inr at)))

at-each : (P : Atom → Type 0) (atoms : List Atom) → AllByRecursion P atoms → (b : Atom) → AnyByRecursion (λ y. y ≡ b) atoms → P b
at-each P [] all b at = absurd at
at-each P (a ∷ atoms) all b (inl same) = subst P same all.0
at-each P (a ∷ atoms) all b (inr at) = at-each P atoms all.1 b at

put-in : (a : Atom) (others : List Atom) → IsStrictlySortedBy atom_cmp others → HasBeside a others
unfolding IsStrictlySortedBy
put-in a [] sorted = record {
  atoms = a ∷ [];
  ascends = (tt, tt);
  all = λ b some. elim some [ inl same ↦ inl (sym same) | inr at ↦ absurd at ];
  only = λ b at. elim at [ inl same ↦ inl (sym same) | inr none ↦ absurd none ];
}
put-in a (b ∷ others) sorted = by (put-in a others sorted.1) (atom_cmp a b) refl
  where
    by : HasBeside a others → (o : Ordering) → atom_cmp a b ≡ o → HasBeside a (b ∷ others)
    by rest Less less = record {
      atoms = a ∷ b ∷ others;
      ascends = ((less, all_weaker (λ y. atom_cmp b y ≡ Less) (λ y. atom_cmp a y ≡ Less) (λ y more. atom_total.trans a b y less more) others sorted.0), sorted);
      all = λ c some. elim some [ inl same ↦ inl (sym same) | inr at ↦ inr at ];
      only = λ c at. elim at [ inl same ↦ inl (sym same) | inr rest ↦ inr rest ];
    }
    by rest Equal equal = record {
      atoms = b ∷ others;
      ascends = sorted;
      all = λ c some. elim some [ inl same ↦ inl (sym (atom_exact a b equal) ∙ sym same) | inr at ↦ at ];
      only = λ c at. inr at;
    }
    by rest Greater greater =
        let below : atom_cmp b a ≡ Less = atom_total.antisymm b a ∙ ap ordering_reverse greater in
        record {
          atoms = b ∷ rest.atoms;
          ascends = (
            of-each (λ y. atom_cmp b y ≡ Less) rest.atoms (λ c at. elim (rest.only c at) [
              | inl same ↦ subst (λ y. atom_cmp b y ≡ Less) (sym same) below
              | inr there ↦ at-each (λ y. atom_cmp b y ≡ Less) others sorted.0 c there
            ]),
            rest.ascends,
          );
          all = λ c some. elim some [
            | inl same ↦ inr (rest.all c (inl same))
            | inr at ↦ elim at [ inl first ↦ inl first | inr there ↦ inr (rest.all c (inr there)) ]
          ];
          only = λ c at. elim at [
            | inl first ↦ inr (inl first)
            | inr there ↦ elim (rest.only c there) [ inl same ↦ inl same | inr further ↦ inr (inr further) ]
          ];
        }

-- the accesses of a list, in order
record AreInOrder (atoms : List Atom) : Type 0 where
  ordered : List Atom
  ascends : IsStrictlySortedBy atom_cmp ordered
  all : (b : Atom) → AnyByRecursion (λ y. y ≡ b) atoms → AnyByRecursion (λ y. y ≡ b) ordered
  only : (b : Atom) → AnyByRecursion (λ y. y ≡ b) ordered → AnyByRecursion (λ y. y ≡ b) atoms

in-order : (atoms : List Atom) → AreInOrder atoms
unfolding IsStrictlySortedBy
in-order [] = record { ordered = []; ascends = tt; all = λ b at. at; only = λ b at. at }
in-order (a ∷ atoms) =
    let rest = in-order atoms in
    let put = put-in a rest.ordered rest.ascends in
    record {
      ordered = put.atoms;
      ascends = put.ascends;
      all = λ b at. elim at [ inl same ↦ put.all b (inl (sym same)) | inr there ↦ put.all b (inr (rest.all b there)) ];
      only = λ b at. elim (put.only b at) [ inl same ↦ inl (sym same) | inr there ↦ inr (rest.only b there) ];
    }

-- ---- accesses by symbols

module _ (symbols : List (List ℕ)) (apart : AreApart symbols) where
  abbrev pub by_names : SymbolKey × ℕ → Atom
  by_names a = atom_of symbols a.0 a.1

  same-symbol : (i j : ℕ) → i < length symbols → j < length symbols → name_at symbols i ≡ name_at symbols j → i ≡ j
  same-symbol i j first second same = apart i j (name_at symbols j) (slice_get-get_or symbols i [] first ∙ ap Some same) (slice_get-get_or symbols j [] second)

  -- one access has one kind and one symbol for each of its names
  one-access : (a b : SymbolKey × ℕ) → AreLow symbols a.0 a.1 → AreLow symbols b.0 b.1 → by_names a ≡ by_names b → a ≡ b
  one-access a b low other same =
      let kinds = same-rule_kind a.0.kind b.0.kind (ap (λ (x : Atom). kind_index x.kind) same) in
      let sources = same-symbol a.0.source b.0.source low.source other.source (ap (λ (x : Atom). x.source) same) in
      let targets = same-symbol a.1 b.1 low.target other.target (ap (λ (x : Atom). x.target) same) in
      let classes = same-symbol a.0.class b.0.class low.the_class other.the_class (ap (λ (x : Atom). x.the_class) same) in
      let permissions = same-symbol a.0.permission b.0.permission low.permission other.permission (ap (λ (x : Atom). x.permission) same) in
      λ i. (record { kind = kinds i; source = sources i; class = classes i; permission = permissions i }, targets i)

-- ---- from an old policy to a new one

module _ {A : Type 0} (symbols : List (List ℕ)) (apart : AreApart symbols) (old new : Resolved A) (old_members new_members : ℕ → ℕ → ℕ) (was now : SymbolKey → ℕ → ℕ) (old_counted : IsCounted symbols old old_members was)
    (new_counted : IsCounted symbols new new_members now) (count : ℕ) (many : AreSoMany (has_come was now) count) where
  risen : (key : SymbolKey) (t : ℕ) → is_named symbols key t ≡ true → has_come was now (key, t) ≡ comes old new (atom_of symbols key t)
  risen = come-risen symbols old new old_members new_members was now old_counted new_counted

  come-named : (a : SymbolKey × ℕ) → has_come was now a ≡ true → is_named symbols a.0 a.1 ≡ true
  come-named a come =
      let present = (both-hold (nat_lt 0 (now a.0 a.1)) (not (nat_lt 0 (was a.0 a.1))) come).0 in
      counted-listed symbols new new_members now new_counted a.0 a.1 (ltb-true 0 (now a.0 a.1) present)

  abbrev atoms : List Atom
  atoms = map (by_names symbols apart) many.those

  once : AllPairs (λ a b. a ≢ b) atoms
  once = pairs-map (by_names symbols apart) (λ a b. a ≢ b) many.those many.once (λ a b one other different same.
      different (one-access symbols apart a b (are-low symbols a.0 a.1 (come-named a ((many.exact a).0 one))) (are-low symbols b.0 b.1 (come-named b ((many.exact b).0 other))) same))

  to-come : (a : Atom) → Contains atoms a → IsTrue (comes old new a)
  to-come a at =
      let (x, there, same) = from-mapped (by_names symbols apart) many.those a at in
      let come = (many.exact x).0 there in
      subst (λ b. comes old new b ≡ true) same (sym (risen x.0 x.1 (come-named x come)) ∙ come)

  from-come : (a : Atom) → IsTrue (comes old new a) → Contains atoms a
  from-come a come =
      let by = table-key symbols new new_members now new_counted a (both-hold (is_in_table (meaning_in new) a) (not (is_in_table (meaning_in old) a)) come).0 in
      let x : SymbolKey × ℕ = (by.key, by.target) in
      let there = (many.exact x).1 (risen x.0 x.1 by.listed ∙ ap (comes old new) by.same ∙ come) in
      subst (Contains atoms) by.same (mapped (by_names symbols apart) many.those x there)

  -- The accesses that came, in order, are so many.
  pub come-listed : (list : List Atom) × AreAtoms (comes old new) list × (count ≡ length list)
  come-listed =
      let put = in-order atoms in
      let to : (a : Atom) → Contains put.ordered a → Contains atoms a = λ a at. contains_from atoms a (put.only a (contains_to put.ordered a at)) in
      let from : (a : Atom) → Contains atoms a → Contains put.ordered a = λ a at. contains_from put.ordered a (put.all a (contains_to atoms a at)) in
      let less = at-most-all atoms put.ordered once from in
      let more = at-most-all put.ordered atoms (atoms-apart put.ordered put.ascends) to in
      (put.ordered, record { ordered = put.ascends; exact = λ a. ((λ at. to-come a (to a at)), λ come. from a (from-come a come)) }, omega (arith, many.all, length-map many.those (by_names symbols apart), less, more))

-- none goes to where there was none
pub none-went : (was : SymbolKey → ℕ → ℕ) → AreSoMany (has_come was (λ key t. 0)) 0
none-went was = record {
  those = [];
  exact = λ a. ((λ at. absurd (omega (arith, at.1))), λ come. absurd (true≢false (sym come)));
  once = λ i j d less within. absurd (omega (arith, within));
  all = refl;
}

-- the changes between two policies, by what came and what went
pub changes-counted : {A : Type 0} (symbols : List (List ℕ)) (apart : AreApart symbols) (old new : Resolved A) (old_members new_members : ℕ → ℕ → ℕ) (was now : SymbolKey → ℕ → ℕ) → IsCounted symbols old old_members was
    → IsCounted symbols new new_members now → (counts : ChangeCounts) → AreSoMany (has_come was now) counts.added → AreSoMany (has_come now was) counts.removed → CountsSome (AreChanges (is_in_table (meaning_in old)) (is_in_table (meaning_in new))) counts
changes-counted symbols apart old new old_members new_members was now old_counted new_counted counts came went =
    let (added, are_added, so_many) = come-listed symbols apart old new old_members new_members was now old_counted new_counted counts.added came in
    let (removed, are_removed, so_many_went) = come-listed symbols apart new old new_members old_members now was new_counted old_counted counts.removed went in
    record {
      changes = record { added = added; removed = removed };
      those = record { added = are_added; removed = are_removed };
      are_counts = record { added = so_many; removed = so_many_went };
    }
