-- The counters of keys, by the places of their lines.
use Rattle.cil_keyed_lines.proofs.Common.{zero, suc, ◌≡◌, ℕ, ◌+◌, ◌<◌, ◌≤◌, ◌==◌, ◌&&◌, Bool, true, false, cond, if◌then◌else◌, nat_lt, List, [], ◌∷◌, ◌++◌, length, get_or, position, slice_get, None, Some, refl, sym, ap, ◌∙◌, true≢false, arith, rules, list_any, IsDistinct, same_counts, SymbolKey, count_by, is_key, index_of, is_kind, with_key}
use Rattle.std.specs.Option.{option_map_or}
use Rattle.std.proofs.lemmas.Bool.{eqb-true, eq-eqb, ltb-false, lt-ltb}
use Rattle.std.proofs.lemmas.List.{length-append}
use Rattle.std.proofs.lemmas.List.Folds.{list_any_at, position_or_len_push}
use Rattle.std.proofs.lemmas.List.Quantifiers.{position-Some}
use Rattle.std.proofs.lemmas.List.Sums.{position_or_len_is}
use Rattle.std.proofs.lemmas.Map.Keys.{apart_from_distinct}
use Rattle.std.proofs.lemmas.Option.{none-some, slice_get_within, get_or_from_slice_get, slice_get-get_or}
use denote.Enum.Bare.{same_true}
use Rattle.cil_text.specs.declared.statement.RuleKind.{RuleKind}
use Rattle.cil_text.specs.declared.statement.RuleKind.TheVariants.{Allow, AuditAllow, DontAudit, NeverAllow}
use Rattle.cil_text.specs.contracts.statement.RuleKind.{the_type}
use Rattle.cil_text.specs.contracts.statement.RuleKindPartialEq.TheImpl.{eq-value as kind_eq}
use Rattle.cil_keyed_lines.specs.contracts.symbol_key.SymbolKeyPartialEq.TheImpl.{eq-value as key_eq}

-- ---- keys

both_true : (b c : Bool) → (b && c) ≡ true → (b ≡ true) × (c ≡ true)
both_true true c is = (refl, is)
both_true false c is = absurd (true≢false (sym is))

pub kind_itself : (kind : RuleKind) → is_kind kind kind ≡ true
kind_itself Allow = refl
kind_itself AuditAllow = refl
kind_itself DontAudit = refl
kind_itself NeverAllow = refl

-- the comparison that is derived is the same
same_kinds : (kind other : RuleKind) → kind_eq.it kind other ≡ is_kind kind other
same_kinds Allow Allow = refl
same_kinds Allow AuditAllow = refl
same_kinds Allow DontAudit = refl
same_kinds Allow NeverAllow = refl
same_kinds AuditAllow Allow = refl
same_kinds AuditAllow AuditAllow = refl
same_kinds AuditAllow DontAudit = refl
same_kinds AuditAllow NeverAllow = refl
same_kinds DontAudit Allow = refl
same_kinds DontAudit AuditAllow = refl
same_kinds DontAudit DontAudit = refl
same_kinds DontAudit NeverAllow = refl
same_kinds NeverAllow Allow = refl
same_kinds NeverAllow AuditAllow = refl
same_kinds NeverAllow DontAudit = refl
same_kinds NeverAllow NeverAllow = refl

-- kinds that are the same are one
pub one_kind : (kind other : RuleKind) → is_kind kind other ≡ true → kind ≡ other
one_kind kind other is = same_true the_type (search rules) kind other (same_kinds kind other ∙ is)

pub same_eq : key_eq.it ≡ is_key
same_eq i key other = same_kinds key.kind other.kind i && (key.source == other.source && (key.class == other.class && key.permission == other.permission))

-- keys that are the same are one
pub one_key : (key other : SymbolKey) → is_key key other ≡ true → key ≡ other
one_key key other is =
    let (kind, names) = both_true (is_kind key.kind other.kind) _ is in
    let (source, rest) = both_true (key.source == other.source) _ names in
    let (class, permission) = both_true (key.class == other.class) _ rest in
    let kind = one_kind key.kind other.kind kind in
    let source = eqb-true key.source other.source source in
    let class = eqb-true key.class other.class class in
    let permission = eqb-true key.permission other.permission permission in
    λ i. record { kind = kind i; source = source i; class = class i; permission = permission i }

pub key_itself : (key : SymbolKey) → is_key key key ≡ true
key_itself key =
    ap (λ b. b && (key.source == key.source && (key.class == key.class && key.permission == key.permission))) (kind_itself key.kind)
    ∙ ap (λ b. b && (key.class == key.class && key.permission == key.permission)) (eq-eqb key.source key.source refl)
    ∙ ap (λ b. b && (key.permission == key.permission)) (eq-eqb key.class key.class refl) ∙ eq-eqb key.permission key.permission refl

-- a key to fall back on
pub no_key : SymbolKey
no_key = record { kind = Allow; source = 0; class = 0; permission = 0 }

other_key : (key other : SymbolKey) → is_key key other ≡ false → is_key other key ≡ false
other_key key other is = by (is_key other key) refl
  where
    by : (b : Bool) → is_key other key ≡ b → b ≡ false
    by false same = refl
    by true same = absurd (true≢false (sym (key_itself key) ∙ ap (is_key key) (sym (one_key other key same)) ∙ is))

-- ---- places

-- a key without a place counts as one whose place is behind the others
pub by_place : (f : ℕ → ℕ → ℕ) (keys : List SymbolKey) → ((l t : ℕ) → length keys ≤ l → f l t ≡ 0) → (k : SymbolKey) (t : ℕ) → count_by f keys k t ≡ f (index_of keys k) t
unfolding count_by
by_place f keys past k t = by (nat_lt (index_of keys k) (length keys)) refl
  where
    by : (b : Bool) → nat_lt (index_of keys k) (length keys) ≡ b → option_map_or (λ i. f i t) (cond b (Some (index_of keys k)) None) 0 ≡ f (index_of keys k) t
    by true less = refl
    by false less = sym (past (index_of keys k) t (ltb-false (index_of keys k) (length keys) less))

-- the place of a key is its index
pub place_is : (keys : List SymbolKey) (key : SymbolKey) (place : ℕ) → position (is_key key) keys ≡ Some place → index_of keys key ≡ place
place_is keys key place at =
    let (within, equal, first) = position-Some (is_key key) keys place key at in
    position_or_len_is (is_key key) keys place key (omega (arith, within)) first (λ _. equal)

pub placed_within : (keys : List SymbolKey) (key : SymbolKey) (place : ℕ) → position (is_key key) keys ≡ Some place → place < length keys
placed_within keys key place at = (position-Some (is_key key) keys place key at).0

-- the counters of a key whose place is known
pub count_placed : (f : ℕ → ℕ → ℕ) (keys : List SymbolKey) (key : SymbolKey) (place t : ℕ) → position (is_key key) keys ≡ Some place → count_by f keys key t ≡ f place t
unfolding count_by
count_placed f keys key place t at = ap (λ o. option_map_or (λ i. f i t) o 0) at

pub count_absent : (f : ℕ → ℕ → ℕ) (keys : List SymbolKey) (key : SymbolKey) (t : ℕ) → position (is_key key) keys ≡ None → count_by f keys key t ≡ 0
unfolding count_by
count_absent f keys key t none = ap (λ o. option_map_or (λ i. f i t) o 0) none

-- distinct keys stand where they are found
pub placed_at : (keys : List SymbolKey) (i : ℕ) (key : SymbolKey) → IsDistinct is_key keys → slice_get keys i ≡ Some key → position (is_key key) keys ≡ Some i
placed_at keys i key distinct at =
    ap (λ n. cond (nat_lt n (length keys)) (Some n) None) index_is ∙ ap (λ b. cond b (Some i) None) (lt-ltb i (length keys) within)
  where
    within : i < length keys
    within = slice_get_within keys i key at

    here : (d : SymbolKey) → get_or keys i d ≡ key
    here d = get_or_from_slice_get keys i key d at

    index_is : index_of keys key ≡ i
    index_is =
        position_or_len_is (is_key key) keys i key (omega (arith, within))
        (λ k less. other_key (get_or keys k key) key (ap (is_key (get_or keys k key)) (sym (here key)) ∙ apart_from_distinct is_key keys k i key distinct less within))
        (λ _. ap (is_key key) (here key) ∙ key_itself key)

-- a key that stands somewhere is one of the keys
pub listed_at : (keys : List SymbolKey) (i : ℕ) (key : SymbolKey) → slice_get keys i ≡ Some key → list_any (is_key key) keys ≡ true
listed_at keys i key at =
    list_any_at (is_key key) keys i key (slice_get_within keys i key at) (ap (is_key key) (get_or_from_slice_get keys i key key at) ∙ key_itself key)

-- a key stands at its place
pub key_placed : (keys : List SymbolKey) (key : SymbolKey) (place : ℕ) → position (is_key key) keys ≡ Some place → slice_get keys place ≡ Some key
key_placed keys key place at =
    let (within, equal, _) = position-Some (is_key key) keys place key at in
    slice_get-get_or keys place key within ∙ ap (λ k. Some k) (sym (one_key key (get_or keys place key) equal))

-- ---- counters

pub count_same : (f g : ℕ → ℕ → ℕ) (keys : List SymbolKey) → ((l t : ℕ) → g l t ≡ f l t) → (k : SymbolKey) (t : ℕ) → count_by g keys k t ≡ count_by f keys k t
count_same f g keys same k t = ap (λ h. count_by h keys k t) (same_counts g f same)

pub count_none : (f : ℕ → ℕ → ℕ) (keys : List SymbolKey) → ((l t : ℕ) → f l t ≡ 0) → (k : SymbolKey) (t : ℕ) → count_by f keys k t ≡ 0
count_none f keys none k t = by_place f keys (λ l t _. none l t) k t ∙ none (index_of keys k) t

-- a new key takes no counter from another
pub count_grown : (f : ℕ → ℕ → ℕ) (keys : List SymbolKey) (key : SymbolKey) → ((l t : ℕ) → length keys ≤ l → f l t ≡ 0) → (k : SymbolKey) (t : ℕ)
    → count_by f (with_key keys key) k t ≡ count_by f keys k t
count_grown f keys key past k t = by (list_any (is_key key) keys)
  where
    by : (b : Bool) → count_by f (if b then keys else keys ++ key ∷ []) k t ≡ count_by f keys k t
    by true = refl
    by false = by_place f grown past_grown k t ∙ moved (index_of keys k == length keys) refl ∙ sym (by_place f keys past k t)
      where
        grown : List SymbolKey
        grown = keys ++ key ∷ []

        past_grown : (l t : ℕ) → length grown ≤ l → f l t ≡ 0
        past_grown l t behind = past l t (omega (arith, behind, length-append keys (key ∷ [])))

        pushed : index_of grown k ≡ cond (index_of keys k == length keys) (length keys + cond (is_key k key) 0 1) (index_of keys k)
        pushed = position_or_len_push (is_key k) keys key

        moved : (b : Bool) → (index_of keys k == length keys) ≡ b → f (index_of grown k) t ≡ f (index_of keys k) t
        moved false other = ap (λ n. f n t) (pushed ∙ ap (λ b. cond b (length keys + cond (is_key k key) 0 1) (index_of keys k)) other)
        moved true last =
            let old : index_of keys k ≡ length keys = eqb-true (index_of keys k) (length keys) last in
            let new : index_of grown k ≡ length keys + cond (is_key k key) 0 1 = pushed ∙ ap (λ b. cond b (length keys + cond (is_key k key) 0 1) (index_of keys k)) last in
            past (index_of grown k) t (omega (arith, new)) ∙ sym (past (index_of keys k) t (omega (arith, old)))

-- nor does a new line whose counters are all 0
pub count_reached : (f g : ℕ → ℕ → ℕ) (keys news : List SymbolKey) (key : SymbolKey) → news ≡ with_key keys key → ((l t : ℕ) → g l t ≡ f l t) → ((l t : ℕ) → length keys ≤ l → f l t ≡ 0)
    → (k : SymbolKey) (t : ℕ) → count_by g news k t ≡ count_by f keys k t
count_reached f g keys news key is same past k t = ap (λ list. count_by g list k t) is ∙ count_same f g (with_key keys key) same k t ∙ count_grown f keys key past k t

-- ---- listing

-- keys keep their places
pub places_grown : (keys : List SymbolKey) (key : SymbolKey) (i : ℕ) (k : SymbolKey) → slice_get keys i ≡ Some k → slice_get (with_key keys key) i ≡ Some k
places_grown keys key i k at = by (list_any (is_key key) keys)
  where
    push : (ks : List SymbolKey) (j : ℕ) → slice_get ks j ≡ Some k → slice_get (ks ++ key ∷ []) j ≡ Some k
    push [] j is = absurd (none-some k is)
    push (x ∷ ks) zero is = is
    push (x ∷ ks) (suc j) is = push ks j is

    by : (b : Bool) → slice_get (if b then keys else keys ++ key ∷ []) i ≡ Some k
    by true = at
    by false = push keys i at
