-- Policies with set statements and without.
use Rattle.cil_check.proofs.Common.{◌≡◌, ℕ, ◌+◌, List, [], ◌∷◌, ◌++◌, take, Contains, Some, refl, sym, ap, ◌∙◌, subst, arith, flat_map, flat_map-append, Placed, types, declared_name, PolicyFault, circular, IsFaultOf, SetStatement, set_statement_of, sets_of, DependsThrough, Form, attribute_set, contains-flat, contains-first, kind_of, take-last}
use Rattle.std.proofs.Common.{slice_get}
use Rattle.cil_parse.specs.declared.row.StatementKind.TheVariants as kinds
use Rattle.cil_check.proofs.AskedLemmas.{form-set}
use Rattle.cil_check.proofs.DeclaredLemmas.{at-contains}

-- the set statements among so many first statements
abbrev pub sets_before : List Placed → ℕ → List SetStatement
sets_before policy n = flat_map (λ s. set_statement_of policy s s.form) (take n policy)

no-set : (policy : List Placed) (s : Placed) (form : Form) → (kind_of form ≡ kinds.TypeAttributeSet → ⊥) → set_statement_of policy s form ≡ []
no-set policy s (attribute_set attribute expr) other = absurd (other refl)
no-set policy s _ other = refl

pub sets-next : (policy : List Placed) (i : ℕ) (s : Placed) → slice_get policy i ≡ Some s → (kind_of s.form ≡ kinds.TypeAttributeSet → ⊥) → sets_before policy i ≡ [] → sets_before policy (i + 1) ≡ []
sets-next policy i s at other none =
    ap (flat_map (λ t. set_statement_of policy t t.form)) (take-last policy i s at)
    ∙ flat_map-append (λ t. set_statement_of policy t t.form) (take i policy) (s ∷ [])
    ∙ ap (λ l. l ++ (set_statement_of policy s s.form ++ [])) none
    ∙ ap (λ l. l ++ []) (no-set policy s s.form other)

not-contained : (set : SetStatement) → Contains [] set → ⊥
not-contained set c = omega (arith, c.1)

-- a set statement is one of the policy's
pub sets-some : (policy : List Placed) (i : ℕ) (s : Placed) → slice_get policy i ≡ Some s → kind_of s.form ≡ kinds.TypeAttributeSet → sets_of policy ≡ [] → ⊥
sets-some policy i s at is none =
    let (attribute, expr, form) = form-set s.form is in
    let here = subst (λ f. (set : SetStatement) × Contains (set_statement_of policy s f) set) (sym form) (_, contains-first _ []) in
    not-contained here.0 (subst (λ l. Contains l here.0) none (contains-flat (λ t. set_statement_of policy t t.form) policy s here.0 (at-contains policy i s at) here.1))

-- Without set statements no attribute depends on one.
depends-nowhere : (sets : List SetStatement) (attribute other : List ℕ) (between : List (List ℕ)) → sets ≡ [] → DependsThrough sets attribute between other → ⊥
depends-nowhere sets attribute other [] none next = not-contained next.s (subst (λ l. Contains l next.s) none next.is_in)
depends-nowhere sets attribute other (one ∷ between) none through =
    let next = through.0 in
    not-contained next.s (subst (λ l. Contains l next.s) none next.is_in)

pub setless-faultless : (policy : List Placed) → sets_of policy ≡ [] → (fault : PolicyFault) → IsFaultOf circular policy fault → ⊥
setless-faultless policy none fault f =
    let name = declared_name types f.s in
    depends-nowhere (sets_of policy) name name f.is_faulty.depends.0 none f.is_faulty.depends.1
