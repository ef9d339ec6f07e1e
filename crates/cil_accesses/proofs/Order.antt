-- What the derived comparison of chunks computes, and the orders.
use Rattle.cil_accesses.proofs.Common.{◌≡◌, refl, sym, ap, ◌∙◌, nat_cmp, ordering_then, IsTotalOrder, Ordering, Less, Equal, Greater, nat_cmp_total, on_total, then_total, kind_index, then_equal, same-kind, rule_kind_of, Chunk, run_cmp, chunk_cmp}
use Rattle.std.proofs.lemmas.Map.Lookups.{exact_unsigned}
use Rattle.cil_specs.specs.Statements as spec
use Rattle.cil_specs.specs.Statements.{allow, auditallow, dontaudit, neverallow}
use Rattle.cil_text.specs.declared.statement.RuleKind.{RuleKind}
use Rattle.cil_text.specs.declared.statement.RuleKind.TheVariants.{Allow, AuditAllow, DontAudit, NeverAllow}
use Rattle.cil_text.specs.contracts.statement.RuleKindOrd.TheImpl as kind_ord
use Rattle.cil_accesses.specs.contracts.chunk.ChunkOrd.TheImpl as chunk_ord

-- kinds stand in the order of their variants
kind-cmp : (k l : RuleKind) → (kind_ord.cmp-value).it k l ≡ nat_cmp (kind_index (rule_kind_of k)) (kind_index (rule_kind_of l))
kind-cmp Allow Allow = refl
kind-cmp Allow AuditAllow = refl
kind-cmp Allow DontAudit = refl
kind-cmp Allow NeverAllow = refl
kind-cmp AuditAllow Allow = refl
kind-cmp AuditAllow AuditAllow = refl
kind-cmp AuditAllow DontAudit = refl
kind-cmp AuditAllow NeverAllow = refl
kind-cmp DontAudit Allow = refl
kind-cmp DontAudit AuditAllow = refl
kind-cmp DontAudit DontAudit = refl
kind-cmp DontAudit NeverAllow = refl
kind-cmp NeverAllow Allow = refl
kind-cmp NeverAllow AuditAllow = refl
kind-cmp NeverAllow DontAudit = refl
kind-cmp NeverAllow NeverAllow = refl

-- comparisons in turn, whichever are taken together
then_assoc : (o p q : Ordering) → ordering_then o (ordering_then p q) ≡ ordering_then (ordering_then o p) q
then_assoc Less p q = refl
then_assoc Equal p q = refl
then_assoc Greater p q = refl

-- the derived order is that of chunks, and then by their bits
pub derived-chunk : (x y : Chunk) → (chunk_ord.cmp-value).it x y ≡ ordering_then (chunk_cmp x y) (nat_cmp x.bits y.bits)
derived-chunk x y =
    let k : Ordering = nat_cmp (kind_index (rule_kind_of x.kind)) (kind_index (rule_kind_of y.kind)) in
    let s : Ordering = nat_cmp x.source y.source in
    let w : Ordering = nat_cmp x.word y.word in
    let c : Ordering = nat_cmp x.class y.class in
    let p : Ordering = nat_cmp x.permission y.permission in
    let b : Ordering = nat_cmp x.bits y.bits in
    ap (λ o. ordering_then o (ordering_then s (ordering_then w (ordering_then c (ordering_then p b))))) (kind-cmp x.kind y.kind)
    ∙ ap (ordering_then k) (then_assoc s w (ordering_then c (ordering_then p b)))
    ∙ then_assoc k (ordering_then s w) (ordering_then c (ordering_then p b))
    ∙ ap (ordering_then (ordering_then k (ordering_then s w))) (then_assoc c p b)
    ∙ then_assoc (ordering_then k (ordering_then s w)) (ordering_then c p) b

pub run_total : IsTotalOrder run_cmp
run_total =
    then_total (on_total (λ c. kind_index (rule_kind_of c.kind)) nat_cmp_total)
    (then_total (on_total (λ c. c.source) nat_cmp_total) (on_total (λ c. c.word) nat_cmp_total))

pub chunk_total : IsTotalOrder chunk_cmp
chunk_total = then_total run_total (then_total (on_total (λ c. c.class) nat_cmp_total) (on_total (λ c. c.permission) nat_cmp_total))

-- a kind from that of the definitions
kind_from : spec.RuleKind → RuleKind
kind_from allow = Allow
kind_from auditallow = AuditAllow
kind_from dontaudit = DontAudit
kind_from neverallow = NeverAllow

kind_from-rule_kind_of : (k : RuleKind) → kind_from (rule_kind_of k) ≡ k
unfolding kind_from
kind_from-rule_kind_of Allow = refl
kind_from-rule_kind_of AuditAllow = refl
kind_from-rule_kind_of DontAudit = refl
kind_from-rule_kind_of NeverAllow = refl

pub same-rule_kind : (k l : RuleKind) → kind_index (rule_kind_of k) ≡ kind_index (rule_kind_of l) → k ≡ l
same-rule_kind k l e = sym (kind_from-rule_kind_of k) ∙ ap kind_from (same-kind _ _ e) ∙ kind_from-rule_kind_of l

-- chunks of one run have one kind, source and word
pub record InOneRun (c d : Chunk) : Type 0 where
  pub kind : c.kind ≡ d.kind
  pub source : c.source ≡ d.source
  pub word : c.word ≡ d.word

pub run_exact : (c d : Chunk) → run_cmp c d ≡ Equal → InOneRun c d
run_exact c d e =
    let kinds = then_equal _ _ e in
    let sources = then_equal _ _ kinds.1 in
    record { kind = same-rule_kind c.kind d.kind (exact_unsigned _ _ kinds.0); source = exact_unsigned _ _ sources.0; word = exact_unsigned _ _ sources.1 }

-- chunks that compare alike have one kind, source, word, class and permission
pub record HaveOneKey (c d : Chunk) : Type 0 where
  pub run : InOneRun c d
  pub the_class : c.class ≡ d.class
  pub permission : c.permission ≡ d.permission

pub chunk_exact : (c d : Chunk) → chunk_cmp c d ≡ Equal → HaveOneKey c d
chunk_exact c d e =
    let parts = then_equal _ _ e in
    let classes = then_equal _ _ parts.1 in
    record { run = run_exact c d parts.0; the_class = exact_unsigned _ _ classes.0; permission = exact_unsigned _ _ classes.1 }

pub same-chunk_cmp : (c d : Chunk) → HaveOneKey c d → (e : Chunk) → chunk_cmp c e ≡ chunk_cmp d e
same-chunk_cmp c d same e =
    λ i. ordering_then
    (ordering_then (nat_cmp (kind_index (rule_kind_of (same.run.kind i))) (kind_index (rule_kind_of e.kind))) (ordering_then (nat_cmp (same.run.source i) e.source) (nat_cmp (same.run.word i) e.word)))
    (ordering_then (nat_cmp (same.the_class i) e.class) (nat_cmp (same.permission i) e.permission))

-- what comparing keys computes
pub key-cmp : (k : Ordering) (x y : Chunk) → k ≡ (kind_ord.cmp-value).it x.kind y.kind
    → ordering_then (ordering_then k (ordering_then (nat_cmp x.source y.source) (nat_cmp x.word y.word))) (ordering_then (nat_cmp x.class y.class) (nat_cmp x.permission y.permission)) ≡ chunk_cmp x y
key-cmp k x y is =
    ap (λ o. ordering_then (ordering_then o (ordering_then (nat_cmp x.source y.source) (nat_cmp x.word y.word))) (ordering_then (nat_cmp x.class y.class) (nat_cmp x.permission y.permission))) (is ∙ kind-cmp x.kind y.kind)
