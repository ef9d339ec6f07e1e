-- What is judged of the statements in kept optionals holds of the policy by these.
use Rattle.cil_resolve.proofs.Common.{◌≡◌, ℕ, suc, ◌+◌, slice_index_or, Some, IsTrue, inl, inr, Bool, true, false, cond, map, List, [], ◌∷◌, filter, Contains, refl, sym, ap, ◌∙◌, subst, arith, list_all, Placed, PolicyFaultKind, PolicyFault, twice, missing, wrong_kind, alias_twice, alias_unset, second_common, too_many_permissions, circular, IsFaultOf, Optionals, dropped_of, has_innermost, is_within, restricted, AreKept, AreApart, judged, IsPolicyFault, Compiles, IsFirstFault, Meaning, meaning_of, Means, contains-first, contains-other, contains-cases, kept-good, first_true, once-filtered, Module, joined, names_rise, is_optional, AreOrdered, IsLeast, NamedModule, Makes, fault_of, TellsAround, HaveMarks, dropped_with, IsFaultIn, IsFaultless, AreFoundInside}
use Rattle.std.proofs.Common.{slice_get}
use Rattle.cil_specs.proofs.FaultWords.{contains-filtered}
use Rattle.cil_bind.proofs.OrderedLemmas.{spelt-names, joined-ordered, ordered-filtered}
use Rattle.cil_bind.specs.declared.policy.Joining.{Joining}
use Rattle.cil_bind.specs.declared.policy.Joining.TheVariants.{Once, Twice}
use Rattle.cil_bind.specs.declared.policy.Policy.{Policy}
use Rattle.cil_bind.specs.declared.redeclaration.Redeclaration.{Redeclaration}
use Rattle.cil_bind.proofs.NestedLemmas.{nested-rows}
use Rattle.cil_bind.proofs.TwiceLemmas.{first-fault-again}
use Rattle.cil_bind.proofs.WrittenLemmas.{written-apart, written-names}
use Rattle.cil_resolve.specs.Judged.{IsJudged, IsWhole, IsInOrder}
use Rattle.cil_resolve.specs.Modules.{AreParsedFrom, names_of}
use Rattle.cil_resolve.specs.declared.judged.Judged.{Judged}

-- what passes a test is there and passes it
filter-contained : {X : Type 0} (w : X → Bool) (xs : List X) (x : X) → Contains (filter w xs) x → Contains xs x × (w x ≡ true)
filter-contained w [] x c = absurd (omega (arith, c.1))
filter-contained w (y ∷ ys) x c = by (w y) refl c (filter-contained w ys x)
  where
    more : Contains ys x × (w x ≡ true) → Contains (y ∷ ys) x × (w x ≡ true)
    more there = (contains-other y ys x there.0, there.1)

    by : (b : Bool) → w y ≡ b → Contains (cond b (y ∷ filter w ys) (filter w ys)) x → (Contains (filter w ys) x → Contains ys x × (w x ≡ true)) → Contains (y ∷ ys) x × (w x ≡ true)
    by false e d behind = more (behind d)
    by true e d behind = elim (contains-cases y (filter w ys) x d) [
      | inl same ↦ (subst (Contains (y ∷ ys)) same (contains-first y ys), ap w (sym same) ∙ e)
      | inr others ↦ more (behind others)
    ]

-- a statement within a set stands directly in it, if in any optional
within-directly : (set : Optionals) (name ats : List ℕ) → (ats ≡ [] → ⊥) → list_all (set name) ats ≡ true → has_innermost set name ats ≡ true
within-directly set name [] some all = absurd (some refl)
within-directly set name (at ∷ ats) some all = first_true (set name at) (list_all (set name) ats) all

-- the statements in kept optionals have their names found
pub kept-inside : (policy : List Placed) (kept : Optionals) → AreApart policy → AreKept policy kept → AreFoundInside (restricted kept policy)
kept-inside policy kept apart are s there inside =
    let from = filter-contained (is_within kept) policy s there in
    (kept-good policy kept apart are).found s from.0 (within-directly kept s.module_name s.optionals inside from.1)

-- Where no name is declared twice, the faults of a policy are those of its statements in kept optionals.
module _ (kept : Optionals) (policy : List Placed) (once : (fault : PolicyFault) → IsFaultOf twice policy fault → ⊥) where
  fault-within : (fault : PolicyFault) → IsPolicyFault kept policy fault → IsFaultIn (restricted kept policy) fault
  fault-within fault f = by fault.kind refl f
    where
      by : (kind : PolicyFaultKind) → fault.kind ≡ kind → IsFaultOf kind (judged kind kept policy) fault → IsFaultOf kind (restricted kept policy) fault
      by twice e f = absurd (once fault f)
      by _ e f = f

  pub fault-of-within : (fault : PolicyFault) → IsFaultIn (restricted kept policy) fault → IsPolicyFault kept policy fault
  fault-of-within fault f = by fault.kind f
    where
      by : (kind : PolicyFaultKind) → IsFaultOf kind (restricted kept policy) fault → IsFaultOf kind (judged kind kept policy) fault
      by twice f = absurd (once-filtered (is_within kept) policy once fault f)
      by _ f = f

-- A policy keeps these optionals and declares no name twice.
module _ (policy : List Placed) (kept : Optionals) (are : AreKept policy kept) (once : (fault : PolicyFault) → IsFaultOf twice policy fault → ⊥) where
  pub compiles : IsFaultless (restricted kept policy) → Compiles kept policy
  compiles faultless fault f = faultless.none fault (fault-within kept policy once fault f)

  pub judged-means : (meaning : Meaning) → IsFaultless (restricted kept policy) → meaning ≡ meaning_of (restricted kept policy) (dropped_of kept policy) → Means policy kept meaning
  judged-means meaning faultless same = record { are_kept = are; compiles = compiles faultless; is = same }

  pub judged-first : (fault : PolicyFault) → IsLeast (IsFaultIn (restricted kept policy)) fault → IsFirstFault policy fault
  judged-first fault least = (
    kept,
    are,
    record {
      is = fault-of-within kept policy once fault least.is;
      first = λ other f. least.first other (fault-within kept policy once other f);
    },
  )

-- The modules of texts have these names, in order, and this joined policy.
module _ {A : Type 0} (parsed : List (NamedModule A)) (modules : List Module) (are : AreParsedFrom parsed modules) (rise : names_rise (names_of parsed) ≡ true) where
  abbrev policy : List Placed
  policy = joined modules

  ordered : AreOrdered policy
  ordered = joined-ordered modules (subst (λ names. names_rise names ≡ true) (spelt-names parsed modules are.spelt) rise) are.written

  apart : AreApart policy
  apart = written-apart modules are.written

  -- the whole policy, where each name is declared once
  pub once-whole : (joining : Joining A) (p : Policy A) → Makes parsed policy joining → TellsAround policy joining → joining ≡ Once p → IsWhole p parsed policy
  once-whole joining p makes around is = record {
    bound = subst (Makes parsed policy) is makes;
    nested = nested-rows p.rows.items policy ordered (subst (TellsAround policy) is around);
    apart = apart;
  }

  -- the first fault, where a name is declared again
  pub twice-first : (joining : Joining A) (again : Redeclaration) → Makes parsed policy joining → joining ≡ Twice again → IsFirstFault policy (fault_of again)
  twice-first joining again makes is = first-fault-again policy again apart ordered (subst (Makes parsed policy) is makes)

  -- what is kept of the policy is in order
  pub judged-in-order : (judged : Judged A) → (is : IsJudged policy parsed judged) → IsInOrder judged.policy parsed (restricted is.kept policy)
  judged-in-order judged is = record {
    bound = is.bound;
    ordered = ordered-filtered (is_within is.kept) policy ordered;
    inside = kept-inside policy is.kept is.apart is.are_kept;
    spelt = λ s there. written-names modules are.written s (contains-filtered (is_within is.kept) policy s there);
  }

-- What it means is what its statements in kept optionals mean, and the optionals that drop.
pub kept-means : {A : Type 0} (policy : List Placed) (parsed others : List (NamedModule A)) (judged : Judged A) (is : IsJudged policy parsed judged) (meaning : Meaning) → others ≡ parsed → IsFaultless (restricted is.kept policy)
    → meaning ≡ meaning_of (restricted is.kept policy) (map (dropped_with (names_of others)) judged.dropped.items) → Means policy is.kept meaning
kept-means policy parsed others judged is meaning same faultless means =
    judged-means policy is.kept is.are_kept is.once meaning faultless
    (means ∙ ap (λ parsed. meaning_of (restricted is.kept policy) (map (dropped_with (names_of parsed)) judged.dropped.items)) same ∙ ap (meaning_of (restricted is.kept policy)) is.dropped_are)

-- each optional's mark, at its place and 1 more
pub marks-of : (set : Optionals) (marks : List Bool) (policy : List Placed)
    → ((k : ℕ) (s : Placed) → slice_get policy k ≡ Some s → IsTrue (is_optional s.form) → slice_index_or marks (suc k) false ≡ set s.module_name s.at.offset) → HaveMarks set marks policy
marks-of set marks policy own i s at is = ap (λ n. slice_index_or marks n false) (one-more i) ∙ own i s at is
  where
    one-more : (i : ℕ) → i + 1 ≡ suc i
    one-more i = omega arith
