-- The orders of names, accesses and rows.
use Rattle.cil_specs.proofs.Common.{◌≡◌, ℕ, zero, suc, List, [], ◌∷◌, true, refl, sym, ap, ◌∙◌, IsStrictlySortedBy, is_lt, is_eq, ordering_then, IsTotalOrder, Ordering, Less, Equal, Greater, and_parts, and_from, false≢true, nat_cmp_total, on_total, then_total, nat_list_cmp_total, RuleKind, allow, auditallow, dontaudit, neverallow, kind_index}
use Rattle.std.specs.Bool.{IsTrue}
use Rattle.std.proofs.lemmas.Map.Lookups.{CmpEqualImpliesEq, exact_unsigned, exact_bytes}
use Rattle.cil_specs.specs.Report.{name_cmp, atom_cmp, row_cmp, names_rise}
use Rattle.cil_specs.proofs.ReportLemmasMembers.{all_weaker}
use Rattle.cil_specs.proofs.SearchLemmas.{less-is}

pub name_total : IsTotalOrder name_cmp
name_total = nat_list_cmp_total

pub atom_total : IsTotalOrder atom_cmp
atom_total =
    then_total (on_total (λ a. kind_index a.kind) nat_cmp_total)
    (then_total (on_total (λ a. a.source) name_total) (then_total (on_total (λ a. a.target) name_total)
    (then_total (on_total (λ a. a.the_class) name_total) (on_total (λ a. a.permission) name_total))))

pub row_total : IsTotalOrder row_cmp
row_total =
    then_total (on_total (λ r. kind_index r.kind) nat_cmp_total)
    (then_total (on_total (λ r. r.source) name_total) (then_total (on_total (λ r. r.target) name_total) (on_total (λ r. r.the_class) name_total)))

-- a kind by its place in the order
kind_at : ℕ → RuleKind
kind_at zero = allow
kind_at (suc zero) = auditallow
kind_at (suc (suc zero)) = dontaudit
kind_at (suc (suc (suc n))) = neverallow

kind_at-kind_index : (k : RuleKind) → kind_at (kind_index k) ≡ k
unfolding kind_at
kind_at-kind_index allow = refl
kind_at-kind_index auditallow = refl
kind_at-kind_index dontaudit = refl
kind_at-kind_index neverallow = refl

-- kinds of one place are one
pub same-kind : (k l : RuleKind) → kind_index k ≡ kind_index l → k ≡ l
same-kind k l e = sym (kind_at-kind_index k) ∙ ap kind_at e ∙ kind_at-kind_index l

-- two comparisons in turn that find no difference
pub then_equal : (o p : Ordering) → ordering_then o p ≡ Equal → (o ≡ Equal) × (p ≡ Equal)
then_equal Less p e = (e, cc)
then_equal Equal p e = (refl, e)
then_equal Greater p e = (e, cc)

-- accesses that compare alike are one
pub atom_exact : CmpEqualImpliesEq atom_cmp
atom_exact a b e =
    let kinds = then_equal _ _ e in
    let sources = then_equal _ _ kinds.1 in
    let targets = then_equal _ _ sources.1 in
    let classes = then_equal _ _ targets.1 in
    let kind = same-kind a.kind b.kind (exact_unsigned _ _ kinds.0) in
    let source = exact_bytes _ _ sources.0 in
    let target = exact_bytes _ _ targets.0 in
    let the_class = exact_bytes _ _ classes.0 in
    let permission = exact_bytes _ _ classes.1 in
    λ i. record { kind = kind i; source = source i; target = target i; the_class = the_class i; permission = permission i }

-- what a test of an answer says
pub equal-is : (o : Ordering) → is_eq o ≡ true → o ≡ Equal
equal-is Less e = absurd (false≢true e)
equal-is Equal e = refl
equal-is Greater e = absurd (false≢true e)

-- names that rise ascend strictly
pub sorted_from_names_rise : (names : List (List ℕ)) → IsTrue (names_rise names) → IsStrictlySortedBy name_cmp names
unfolding IsStrictlySortedBy
sorted_from_names_rise [] rise = tt
sorted_from_names_rise (a ∷ []) rise = (tt, tt)
sorted_from_names_rise (a ∷ b ∷ names) rise =
    let parts = and_parts (is_lt (name_cmp a b)) (names_rise (b ∷ names)) rise in
    let less = less-is (name_cmp a b) parts.0 in
    let rest = sorted_from_names_rise (b ∷ names) parts.1 in
    ((less, all_weaker (λ y. name_cmp b y ≡ Less) (λ y. name_cmp a y ≡ Less) (λ y h. name_total.trans a b y less h) names rest.0), rest)

-- and the other way round
pub names_rise-from_sorted : (names : List (List ℕ)) → IsStrictlySortedBy name_cmp names → IsTrue (names_rise names)
unfolding IsStrictlySortedBy
names_rise-from_sorted [] sorted = refl
names_rise-from_sorted (a ∷ []) sorted = refl
names_rise-from_sorted (a ∷ b ∷ names) sorted = and_from (is_lt (name_cmp a b)) (names_rise (b ∷ names)) (ap is_lt sorted.0.0) (names_rise-from_sorted (b ∷ names) sorted.1)
