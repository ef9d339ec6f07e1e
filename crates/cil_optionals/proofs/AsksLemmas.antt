-- Needs of statements.
use Rattle.cil_optionals.proofs.Common.{◌≡◌, inl, inr, ℕ, zero, suc, ◌+◌, ◌<◌, ◌≤◌, ◌==◌, Bool, true, false, not, ◌&&◌, ◌||◌, nat_lt, List, [], ◌∷◌, ◌++◌, map, length, get_or, slice_get, take, Option, Some, None, is_some, IfSome, refl, sym, ap, ◌∙◌, subst, arith, add-one, append_assoc, append-nil, if◌then◌else◌, list_all, list_any, option_to_list, eq-eqb, lt-ltb, length-map, take_all, list_all-append, none-some, same_Some, slice_get_within, slice_get_cases, slice_get_read, Word, Form, alias_actual, attribute_set, class_common, class_order, class_permission_set, anonymous, by_name, rule, itself, the_named, Placed, Table, types, classes, scopes, holds_of, leads, outward, references, PolicyFault, twice, is_unfound, IsFaultOf, Optionals, is_within, restricted, AreApart, Statements, read, Spells, texts_of, NumberedWord, read-text, read-within, both_true, IsLead, table_of, Row, Policy, NamedModule, rows-length, take-next, is_met, meeting, has_node, IsInnermost, declared_table, declared_text, is_naming, is_provided, is_plain, AreNodesOf, further_out, IsReady, is_need_of, are_found, optional_at, row_optional, AddsNeed, Asks, IsOf, LeadsOutside, Need}
use Rattle.cil_parse.specs.Forms.{kind_of}
use Rattle.cil_specs.specs.Expr.{leaves}
use Rattle.cil_parse.specs.Flat.{FlatStatement, flat}
use Rattle.cil_parse.specs.View.{IsShown}
use Rattle.cil_parse.specs.declared.parsed.ParsedModule.{ParsedModule}
use Rattle.cil_parse.specs.declared.table.Table as code
use Rattle.cil_parse.specs.declared.view.StatementView.{StatementView}
use Rattle.cil_bind.specs.Binding.{AreLeads, AreBound}
use Rattle.cil_optionals.proofs.FoundLemmas.{leads-found}
use Rattle.cil_optionals.proofs.ProviderLemmas.{row-within, place-provided, provided-by, naming-declaration, HasRow, row-of}
use Rattle.cil_bind.specs.Policy.{bound_of}

-- what is led to has a row
pub lead-low : {A : Type 0} (p : Policy A) (parsed : List (NamedModule A)) (all : List Placed) (table : Table) (found : Option ℕ) (q : ℕ) (lead : Option Placed) → IsReady p parsed all → found ≡ Some q → IsLead table all found lead
    → q < length p.rows.items
lead-low p parsed all table found q lead ready e is =
    let long = rows-length p.names p.lookup.namespaces p.rows.items all ready.bound.stands.rows_are in
    let low = (subst (λ f. IsLead table all f lead) e is).within in
    omega (arith, long, low)

-- a plain name is met by its node
pub meets-plain : {A : Type 0} (p : Policy A) (parsed : List (NamedModule A)) (all : List Placed) (table : Table) (found : Option ℕ) (q count : ℕ) (plain : Bool) (lead : Option Placed) → IsReady p parsed all → found ≡ Some q
    → IsLead table all found lead → plain ≡ true → count ≡ length p.rows.items → (set : Optionals) (has : ℕ → Bool) → AreNodesOf all set has
    → holds_of (λ s. if plain then is_provided (restricted set all) s else is_within set s) lead ≡ has (count + 1 + q)
meets-plain p parsed all table found q count plain lead ready e is it size set has nodes =
    let long = rows-length p.names p.lookup.namespaces p.rows.items all ready.bound.stands.rows_are in
    ap (λ b. holds_of (λ s. if b then is_provided (restricted set all) s else is_within set s) lead) it
    ∙ place-provided all set has nodes table q lead (subst (λ f. IsLead table all f lead) e is)
    ∙ ap (λ n. has (n + 1 + q)) (sym (size ∙ long))

-- another reference by the optional around what it leads to
pub meets-other : {A : Type 0} (p : Policy A) (parsed : List (NamedModule A)) (all : List Placed) (table : Table) (found : Option ℕ) (q : ℕ) (plain : Bool) (lead : Option Placed) (row : Row) → IsReady p parsed all → found ≡ Some q
    → IsLead table all found lead → plain ≡ false → row ≡ get_or p.rows.items q row → (set : Optionals) (has : ℕ → Bool) → AreNodesOf all set has
    → holds_of (λ s. if plain then is_provided (restricted set all) s else is_within set s) lead ≡ has row.optional
meets-other p parsed all table found q plain lead row ready e is it at set has nodes =
    let here = row-of p parsed all q row ready (lead-low p parsed all table found q lead ready e is) at in
    let found_it = subst (λ f. IsLead table all f lead) e is in
    ap (λ b. holds_of (λ s. if b then is_provided (restricted set all) s else is_within set s) lead) it
    ∙ ap (holds_of (is_within set)) (sym found_it.is ∙ here.at)
    ∙ sym (row-within p.rows.items all set has ready.nested nodes.optionals_are q row here.s here.row_at here.at)

-- the number of the optional around a statement
pub around-low : {A : Type 0} (p : Policy A) (parsed : List (NamedModule A)) (all : List Placed) (q : ℕ) (row : Row) → IsReady p parsed all → q < length p.rows.items → row ≡ get_or p.rows.items q row → row.optional < length p.rows.items + 1
around-low p parsed all q row ready low at = by row.optional (ready.nested.around q row here.s here.row_at here.at)
  where
    here : HasRow p all q row
    here = row-of p parsed all q row ready low at

    by : (n : ℕ) → IsInnermost all q n here.s → n < length p.rows.items + 1
    by zero outside = omega arith
    by (suc k) inside = (let before = inside.1 in omega (arith, low, before))

-- what is led to stands in no optional where its row has none
pub leads-outside : {A : Type 0} (p : Policy A) (parsed : List (NamedModule A)) (all : List Placed) (table : Table) (found : Option ℕ) (q : ℕ) (lead : Option Placed) (row : Row) → IsReady p parsed all → found ≡ Some q
    → IsLead table all found lead → row ≡ get_or p.rows.items q row → row.optional ≡ 0 → LeadsOutside all lead
leads-outside p parsed all table found q lead row ready e is at none =
    let here = row-of p parsed all q row ready (lead-low p parsed all table found q lead ready e is) at in
    let led = subst (λ f. IsLead table all f lead) e is in
    record {
      place = q;
      found = here.s;
      at = here.at;
      is = sym led.is ∙ here.at;
      outside = by here.s row.optional none (ready.nested.around q row here.s here.row_at here.at);
    }
  where
    by : (s : Placed) (n : ℕ) → n ≡ 0 → IsInnermost all q n s → s.optionals ≡ []
    by s zero e is = is
    by s (suc k) e is = absurd (omega (arith, e))

pub asks-none : (policy : List Placed) (o : ℕ) (needs : List Need) → Asks policy o (λ set. true) needs needs
asks-none policy o needs = record { more = []; is = sym (append-nil needs); below = refl; met = λ set has nodes. by (has o) }
  where
    by : (b : Bool) → true ≡ (not b || true)
    by true = refl
    by false = refl

pub asks-same : (policy : List Placed) (o : ℕ) (found others : Optionals → Bool) (old new : List Need) → ((set : Optionals) → found set ≡ others set) → Asks policy o found old new → Asks policy o others old new
asks-same policy o found others old new same asks =
    record { more = asks.more; is = asks.is; below = asks.below; met = λ set has nodes. asks.met set has nodes ∙ ap (λ b. not (has o) || b) (same set) }

-- one need more
pub asks-need : (policy : List Placed) (o : ℕ) (found one : Optionals → Bool) (node : Option ℕ) (old mid new : List Need) → IfSome node (λ n. n < length policy + length policy + 1)
    → ((set : Optionals) (has : ℕ → Bool) → AreNodesOf policy set has → has_node has node ≡ one set) → AddsNeed mid new o node → Asks policy o found old mid → Asks policy o (λ set. found set && one set) old new
asks-need policy o found one node old mid new low meets adds asks = record {
  more = asks.more ++ adds.need ∷ [];
  is = adds.is ∙ ap (λ l. l ++ adds.need ∷ []) asks.is ∙ append_assoc old asks.more (adds.need ∷ []);
  below = list_all-append (is_need_of count o) asks.more (adds.need ∷ []) ∙ both_true (list_all (is_need_of count o) asks.more) (is_need_of count o adds.need && true) asks.below
      (both_true (is_need_of count o adds.need) true
      (both_true (adds.need.optional == o) (list_all (λ n. nat_lt n (count + count + 1)) (meeting adds.need)) (eq-eqb adds.need.optional o adds.optional_is)
      (ap (list_all (λ n. nat_lt n (count + count + 1))) adds.from_is ∙ one-low node low)) refl);
  met = λ set has nodes.
      list_all-append (is_met has) asks.more (adds.need ∷ [])
      ∙ (λ k. asks.met set has nodes k && ((not (has (adds.optional_is k)) || list_any has (adds.from_is k)) && true))
      ∙ ap (λ b. (not (has o) || found set) && ((not (has o) || b) && true)) (one-met has node ∙ meets set has nodes)
      ∙ spread (has o) (found set) (one set);
}
  where
    count : ℕ
    count = length policy

    one-low : (n : Option ℕ) → IfSome n (λ m. m < length policy + length policy + 1) → list_all (λ m. nat_lt m (length policy + length policy + 1)) (option_to_list n) ≡ true
    one-low None l = refl
    one-low (Some m) l = both_true (nat_lt m (length policy + length policy + 1)) true (lt-ltb m (length policy + length policy + 1) l) refl

    or-none : (b : Bool) → (b || false) ≡ b
    or-none true = refl
    or-none false = refl

    one-met : (has : ℕ → Bool) (n : Option ℕ) → list_any has (option_to_list n) ≡ has_node has n
    one-met has None = refl
    one-met has (Some m) = or-none (has m)

    spread : (b c d : Bool) → ((not b || c) && ((not b || d) && true)) ≡ (not b || (c && d))
    spread true true true = refl
    spread true true false = refl
    spread true false d = refl
    spread false c d = refl

-- the references of the statement at a place are bound
pub bound-at : (policy statements : List Placed) (bound : List (List (Option ℕ))) (i : ℕ) (s : Placed) → AreBound policy statements bound → slice_get statements i ≡ Some s
    → (i < length bound) × AreLeads policy s.namespace (references s.form) (get_or bound i [])
bound-at policy [] bound i s are at = absurd (none-some s at)
bound-at policy (t ∷ statements) [] i s are at = absurd are
bound-at policy (t ∷ statements) (b ∷ bound) zero s are at = (omega arith, subst (λ u. AreLeads policy u.namespace (references u.form) b) (same_Some t s at) are.0)
bound-at policy (t ∷ statements) (b ∷ bound) (suc i) s are at = let rest = bound-at policy statements bound i s are.1 at in (let low = rest.0 in omega (arith, low), rest.1)

pub leads-long : (policy : List Placed) (namespace : List (List ℕ)) (refs : List (Table × Word)) (bound : List (Option ℕ)) → AreLeads policy namespace refs bound → length refs ≡ length bound
leads-long policy namespace [] [] are = refl
leads-long policy namespace [] (b ∷ bound) are = absurd are
leads-long policy namespace (r ∷ refs) [] are = absurd are
leads-long policy namespace (r ∷ refs) (b ∷ bound) are = ap suc (leads-long policy namespace refs bound are.1)

pub lead-at : (policy : List Placed) (namespace : List (List ℕ)) (refs : List (Table × Word)) (bound : List (Option ℕ)) (k : ℕ) (r : Table × Word) (found d : Option ℕ) → AreLeads policy namespace refs bound
    → slice_get refs k ≡ Some r → found ≡ get_or bound k d → IsLead r.0 policy found (leads policy r.0 namespace r.1.text)
lead-at policy namespace [] bound k r found d are at is = absurd (none-some r at)
lead-at policy namespace (q ∷ refs) [] k r found d are at is = absurd are
lead-at policy namespace (q ∷ refs) (b ∷ bound) zero r found d are at is =
    subst (λ t. IsLead t.0 policy found (leads policy t.0 namespace t.1.text)) (same_Some q r at) (subst (λ f. IsLead q.0 policy f (leads policy q.0 namespace q.1.text)) (sym is) are.0)
lead-at policy namespace (q ∷ refs) (b ∷ bound) (suc k) r found d are at is = lead-at policy namespace refs bound k r found d are.1 at is

-- no reference is to a block or an optional
abbrev pub AreOther : List (Table × Word) → Type 0
AreOther [] = Unit {0}
AreOther (r ∷ refs) = (r.0 ≡ scopes → ⊥) × AreOther refs

all-other : (table : Table) → (table ≡ scopes → ⊥) → (words : List Word) → AreOther (map (λ w. (table, w)) words)
all-other table other [] = tt
all-other table other (w ∷ words) = (other, all-other table other words)

references-other : (form : Form) → AreOther (references form)
references-other (alias_actual alias actual) = (λ e. cc, (λ e. cc, tt))
references-other (attribute_set attribute expr) = all-other types (λ e. cc) (attribute ∷ leaves expr)
references-other (class_common the_class the_common) = (λ e. cc, (λ e. cc, tt))
references-other (class_order the_classes) = all-other classes (λ e. cc) the_classes
references-other (class_permission_set set the_class permissions) = (λ e. cc, (λ e. cc, tt))
references-other (rule kind source itself (anonymous the_class permissions)) = (λ e. cc, (λ e. cc, tt))
references-other (rule kind source itself (by_name set)) = (λ e. cc, (λ e. cc, tt))
references-other (rule kind source (the_named target) (anonymous the_class permissions)) = (λ e. cc, (λ e. cc, (λ e. cc, tt)))
references-other (rule kind source (the_named target) (by_name set)) = (λ e. cc, (λ e. cc, (λ e. cc, tt)))
references-other _ = tt

other-at : (refs : List (Table × Word)) (k : ℕ) (r : Table × Word) → AreOther refs → slice_get refs k ≡ Some r → r.0 ≡ scopes → ⊥
other-at [] k r are at = absurd (none-some r at)
other-at (q ∷ refs) zero r are at = λ e. are.0 (ap (λ t. t.0) (same_Some q r at) ∙ e)
other-at (q ∷ refs) (suc k) r are at = other-at refs k r are.1 at

-- a reference of a statement is found if its node is there
pub reference-met : {A : Type 0} (p : Policy A) (parsed : List (NamedModule A)) (all : List Placed) (s : Placed) (k : ℕ) (table : Table) (word : Word) (text : List ℕ) (found : Option ℕ) (plain : Bool) (met_by : Option ℕ) → IsReady p parsed all
    → slice_get (references s.form) k ≡ Some (table, word) → word.text ≡ text → plain ≡ is_plain text
    → ((set : Optionals) (has : ℕ → Bool) → AreNodesOf all set has → holds_of (λ t. if plain then is_provided (restricted set all) t else is_within set t) (leads all table s.namespace word.text) ≡ has_node has met_by)
    → (set : Optionals) (has : ℕ → Bool) → AreNodesOf all set has → has_node has met_by ≡ not (is_unfound (restricted set all) s.namespace (table, word))
reference-met p parsed all s k table word text found plain met_by ready at named shape meets set has nodes =
    sym (meets set has nodes)
    ∙ ap (λ b. holds_of (λ t. if b then is_provided (restricted set all) t else is_within set t) (leads all table s.namespace word.text)) (shape ∙ ap is_plain (sym named))
    ∙ sym (leads-found all set ready.apart ready.bound.once table (other-at (references s.form) k (table, word) (references-other s.form) at) s.namespace word.text)
    ∙ twice-not (is_some (leads (restricted set all) table s.namespace word.text))
  where
    twice-not : (b : Bool) → b ≡ not (not b)
    twice-not true = refl
    twice-not false = refl

-- a statement in no optional is provided in every restriction
provided-outside : (all : List Placed) (set : Optionals) → AreApart all → ((fault : PolicyFault) → IsFaultOf twice all fault → ⊥) → (i : ℕ) (s : Placed) → slice_get all i ≡ Some s → s.optionals ≡ []
    → is_provided (restricted set all) s ≡ true
provided-outside all set apart once i s at outside = by (is_naming s.form) refl
  where
    by : (b : Bool) → is_naming s.form ≡ b → is_provided (restricted set all) s ≡ true
    by true e =
        provided-by all set apart once i s at (naming-declaration s e)
        ∙ ap (λ o. list_all (set s.module_name) o || holds_of (is_provided (restricted set all)) (further_out all (declared_table s.form) s.namespace (declared_text s.form))) outside
    by false e = ap (λ b. if b then is_some (outward (restricted set all) (declared_table s.form) s.namespace (declared_text s.form)) else true) e

-- a reference that leads outside optionals is found in every restriction
pub reference-outside : {A : Type 0} (p : Policy A) (parsed : List (NamedModule A)) (all : List Placed) (s : Placed) (k : ℕ) (r : Table × Word) → IsReady p parsed all → slice_get (references s.form) k ≡ Some r
    → LeadsOutside all (leads all r.0 s.namespace r.1.text) → (set : Optionals) → not (is_unfound (restricted set all) s.namespace r) ≡ true
reference-outside p parsed all s k (table, word) ready at out set =
    sym (twice-not (is_some (leads (restricted set all) table s.namespace word.text)))
    ∙ leads-found all set ready.apart ready.bound.once table (other-at (references s.form) k (table, word) (references-other s.form) at) s.namespace word.text
    ∙ ap (holds_of (λ t. if is_plain word.text then is_provided (restricted set all) t else is_within set t)) out.is
    ∙ by (is_plain word.text)
  where
    twice-not : (b : Bool) → b ≡ not (not b)
    twice-not true = refl
    twice-not false = refl

    by : (b : Bool) → (if b then is_provided (restricted set all) out.found else is_within set out.found) ≡ true
    by true = provided-outside all set ready.apart ready.bound.once out.place out.found out.at out.outside
    by false = ap (list_all (set out.found.module_name)) out.outside

-- one reference more
pub found-next : (policy : List Placed) (namespace : List (List ℕ)) (refs : List (Table × Word)) (k : ℕ) (r : Table × Word) → slice_get refs k ≡ Some r
    → (are_found policy namespace (take k refs) && not (is_unfound policy namespace r)) ≡ are_found policy namespace (take (k + 1) refs)
found-next policy namespace refs k r at =
    let next : take (k + 1) refs ≡ take k refs ++ r ∷ [] = rw add-one (take-next refs k r at) in
    ap (λ b. are_found policy namespace (take k refs) && b) (and-yes (not (is_unfound policy namespace r)))
    ∙ sym (ap (are_found policy namespace) next ∙ list_all-append (λ q. not (is_unfound policy namespace q)) (take k refs) (r ∷ []))
  where
    and-yes : (b : Bool) → b ≡ (b && true)
    and-yes true = refl
    and-yes false = refl

-- the statement of a row as it is seen, with its references
pub record IsSeen {A : Type 0} (p : Policy A) (module_at : ParsedModule A) (all : List Placed) (i : ℕ) (s : Placed) (v : StatementView) (bound : List (Option ℕ)) : Type 0 where
  pub f : FlatStatement
  pub shown : IsShown (texts_of module_at) v f
  pub form : f.form ≡ s.form
  pub leads_are : AreLeads all s.namespace (references s.form) bound

pub row-one : {A : Type 0} (p : Policy A) (module_at : ParsedModule A) (i : ℕ) (s : Placed) (row : Row) (of : IsOf p module_at i s) → row ≡ get_or p.rows.items i row → (of.row ≡ row) × (optional_at p i ≡ row.optional)
row-one p module_at i s row of is =
    let low = slice_get_within p.rows.items i of.row of.at in
    let there : slice_get p.rows.items i ≡ Some row = slice_get_read p.rows.items (length p.rows.items) i row refl low is in
    (same_Some of.row row (sym of.at ∙ there), ap row_optional there)

-- there is a kind for each statement
pub kinds-long : {A : Type 0} (p : Policy A) (parsed : List (NamedModule A)) (all : List Placed) → IsReady p parsed all → length p.kinds.items ≡ length all
kinds-long p parsed all ready = ap length ready.bound.kinds ∙ length-map all (λ s. kind_of s.form)

-- the references of the statement at a place are bound to what they lead to
pub leads-of : {A : Type 0} (p : Policy A) (parsed : List (NamedModule A)) (all : List Placed) (i : ℕ) (s : Placed) (bound : List (Option ℕ)) → IsReady p parsed all → slice_get all i ≡ Some s → bound ≡ get_or (bound_of p parsed) i []
    → AreLeads all s.namespace (references s.form) bound
leads-of p parsed all i s bound ready at here = subst (AreLeads all s.namespace (references s.form)) (sym here) (bound-at all all (bound_of p parsed) i s ready.bound.bound at).1

pub seen-of : {A : Type 0} (p : Policy A) (parsed : List (NamedModule A)) (module_at : ParsedModule A) (all : List Placed) (i : ℕ) (s : Placed) (row : Row) (v : StatementView) (bound : List (Option ℕ)) → IsReady p parsed all
    → slice_get all i ≡ Some s → (of : IsOf p module_at i s) → row ≡ get_or p.rows.items i row
    → ((statements : Statements) (f : FlatStatement) → Spells module_at statements → slice_get (flat 0 0 0 statements) row.index ≡ Some f → IsShown (texts_of module_at) v f)
    → bound ≡ get_or (bound_of p parsed) i [] → IsSeen p module_at all i s v bound
seen-of p parsed module_at all i s row v bound ready at of is shows here = record {
  f = of.f;
  shown = shows of.statements of.f of.spells (ap (λ r. slice_get (flat 0 0 0 of.statements) r.index) (sym (row-one p module_at i s row of is).0) ∙ of.is);
  form = of.form;
  leads_are = leads-of p parsed all i s bound ready at here;
}

-- a reference of a statement that is seen
pub record IsReference {A : Type 0} (p : Policy A) (module_at : ParsedModule A) (all : List Placed) (i : ℕ) (s : Placed) (k : ℕ) (table : code.Table) (at : NumberedWord) (found : Option ℕ) : Type 0 where
  pub word : Word
  pub there : slice_get (references s.form) k ≡ Some (table_of table, word)
  pub low : at.text < length (texts_of module_at)
  pub text : word.text ≡ get_or (texts_of module_at) at.text []
  pub lead : IsLead (table_of table) all found (leads all (table_of table) s.namespace word.text)

pub reference-of : {A : Type 0} (p : Policy A) (module_at : ParsedModule A) (all : List Placed) (i : ℕ) (s : Placed) (v : StatementView) (bound : List (Option ℕ)) (k : ℕ) (table : code.Table) (at : NumberedWord) (found : Option ℕ)
    → (seen : IsSeen p module_at all i s v bound) → (word : Word) × (slice_get (references seen.f.form) k ≡ Some (table_of table, word)) × (read (texts_of module_at) at ≡ Some word)
    → found ≡ get_or bound k None → IsReference p module_at all i s k table at found
reference-of p module_at all i s v bound k table at found seen (word, there, is) here =
    let there_it : slice_get (references s.form) k ≡ Some (table_of table, word) = ap (λ form. slice_get (references form) k) (sym seen.form) ∙ there in
    record {
      word = word;
      there = there_it;
      low = read-within (texts_of module_at) at word is;
      text = read-text (texts_of module_at) at word is;
      lead = lead-at all s.namespace (references s.form) bound k (table_of table, word) found None seen.leads_are there_it here;
    }

-- each place in the list has a reference
pub reference-there : {A : Type 0} (p : Policy A) (module_at : ParsedModule A) (all : List Placed) (i : ℕ) (s : Placed) (v : StatementView) (bound : List (Option ℕ)) (k : ℕ) (seen : IsSeen p module_at all i s v bound)
    → slice_get (references seen.f.form) k ≡ None → k < length bound → ⊥
reference-there p module_at all i s v bound k seen none low =
    let long = leads-long all s.namespace (references s.form) bound seen.leads_are in
    past (references s.form) k (ap (λ form. slice_get (references form) k) (sym seen.form) ∙ none) (omega (arith, long, low))
  where
    past : (xs : List (Table × Word)) (j : ℕ) → slice_get xs j ≡ None → j < length xs → ⊥
    past [] j e less = omega (arith, less)
    past (x ∷ xs) zero e less = none-some x (sym e)
    past (x ∷ xs) (suc j) e less = past xs j e (omega (arith, less))

-- each reference of a statement is bound to what it leads to
pub reference-lead : (all : List Placed) (s : Placed) (bound : List (Option ℕ)) (k : ℕ) (found : Option ℕ) → AreLeads all s.namespace (references s.form) bound → k < length bound → found ≡ get_or bound k None
    → (r : Table × Word) × (slice_get (references s.form) k ≡ Some r) × IsLead r.0 all found (leads all r.0 s.namespace r.1.text)
reference-lead all s bound k found are low here = elim (slice_get_cases (references s.form) k).1 [
  | inl (r, less, at, same) ↦ (r, at, lead-at all s.namespace (references s.form) bound k r found None are at here)
  | inr (past, none) ↦ absurd (let long = leads-long all s.namespace (references s.form) bound are in omega (arith, long, low, past))
]

-- one reference more that leads outside optionals
pub found-outside : {A : Type 0} (p : Policy A) (parsed : List (NamedModule A)) (all : List Placed) (s : Placed) (k : ℕ) (r : Table × Word) → IsReady p parsed all → slice_get (references s.form) k ≡ Some r
    → LeadsOutside all (leads all r.0 s.namespace r.1.text) → (set : Optionals)
    → are_found (restricted set all) s.namespace (take k (references s.form)) ≡ are_found (restricted set all) s.namespace (take (k + 1) (references s.form))
found-outside p parsed all s k r ready at out set =
    and-yes (are_found (restricted set all) s.namespace (take k (references s.form)))
    ∙ ap (λ b. are_found (restricted set all) s.namespace (take k (references s.form)) && b) (sym (reference-outside p parsed all s k r ready at out set))
    ∙ found-next (restricted set all) s.namespace (references s.form) k r at
  where
    and-yes : (b : Bool) → b ≡ (b && true)
    and-yes true = refl
    and-yes false = refl

-- all references
pub found-all : (all : List Placed) (s : Placed) (bound : List (Option ℕ)) (k : ℕ) → AreLeads all s.namespace (references s.form) bound → length bound ≤ k → take k (references s.form) ≡ references s.form
found-all all s bound k are past =
    let long = leads-long all s.namespace (references s.form) bound are in
    take_all k (references s.form) (omega (arith, long, past))
