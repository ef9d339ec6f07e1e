-- What statements of a policy without faults mean, by numbers.
use Rattle.cil_resolve.proofs.Common.{◌≡◌, ◌<◌, length, seen-lead, ℕ, Bool, true, false, not, ◌&&◌, List, [], get_or, map, Contains, Option, Some, None, is_some, refl, sym, ap, ◌∙◌, subst, true≢false, unwrap_or, none-some, same_Some, Word, Placed, Table, types, classes, permission_sets, leads, references, declared_in, actual_statement, is_alias, is_attribute, WordExpr, leaves, element_words, kinds_asked, contains-first, element_or_none, class_name, name_or_none, Form, attribute_set, class, class_permission, IsFaultless, none-there, IsLead, IsFirstOf, numbered_id, IsElement, HaveElements, is_set, number_in, HavePlaces, Element}
use Rattle.std.proofs.Common.{slice_get}
use Rattle.cil_check.specs.Checker.{IsNoted}
use Rattle.cil_specs.specs.Rule.{element_of}
use Rattle.cil_specs.proofs.CircularLemmas.{attribute-word}
use Rattle.cil_expression.specs.declared.expression.Element.TheVariants as elements
use Rattle.cil_check.specs.declared.bound.Seen.{Seen}
use Rattle.cil_resolve.specs.Lowering.{IsLowering, Refers}
use Rattle.cil_resolve.specs.Numbering.{HavePermissions}
use Rattle.cil_resolve.specs.declared.lowering.Lowering.{Lowering}
use Rattle.cil_resolve.proofs.ElementLemmas.{first-declares, full-name-in}
use Rattle.cil_resolve.proofs.StatementLemmas.{contained}
use Rattle.cil_resolve.proofs.FaultlessLemmas.{word-found, kind-found, alias-set}

-- where a look-up that leads somewhere was found
pub record IsFound (table : Table) (policy : List Placed) (found : Option ℕ) (lead : Option Placed) : Type 0 where
  pub t : Placed
  pub lead_is : lead ≡ Some t
  pub at : slice_get policy (unwrap_or found 0) ≡ Some t
  pub first : IsFirstOf table policy (unwrap_or found 0)

pub found-at : (table : Table) (policy : List Placed) (found : Option ℕ) (lead : Option Placed) → IsLead table policy found lead → is_some lead ≡ true → IsFound table policy found lead
found-at table policy None lead leads some = absurd (true≢false (sym some ∙ ap is_some (sym leads.is)))
found-at table policy (Some i) None leads some = absurd (true≢false (sym some))
found-at table policy (Some i) (Some t) leads some = record { t = t; lead_is = refl; at = leads.is; first = leads.first }

-- what leads somewhere leads to a place
pub led-within : (table : Table) (policy : List Placed) (found : Option ℕ) (lead : Option Placed) → IsLead table policy found lead → is_some lead ≡ true
    → (n : ℕ) × (found ≡ Some n) × (n < length policy)
led-within table policy None lead leads some = absurd (true≢false (sym some ∙ ap is_some (sym leads.is)))
led-within table policy (Some n) lead leads some = (n, refl, leads.within)

-- what is found is the same whatever would stand for nothing
pub found-any : (table : Table) (policy : List Placed) (found : Option ℕ) (lead : Option Placed) → IsLead table policy found lead → is_some lead ≡ true → (other : ℕ)
    → unwrap_or found 0 ≡ unwrap_or found other
found-any table policy None lead leads some other = absurd (true≢false (sym some ∙ ap is_some (sym leads.is)))
found-any table policy (Some i) lead leads some other = refl

-- what declares a class has its full name's number
class-declares : (form : Form) → is_some (declared_in classes form) ≡ true → (id : Word) × (declared_in classes form ≡ Some id) × (numbered_id form ≡ Some id)
class-declares (class id permissions) e = (id, refl, refl)
class-declares _ e = absurd (true≢false (sym e))

-- so is what declares a permission set
set-declares : (form : Form) → is_some (declared_in permission_sets form) ≡ true → (id : Word) × (declared_in permission_sets form ≡ Some id) × (numbered_id form ≡ Some id)
set-declares (class_permission id) e = (id, refl, refl)
set-declares _ e = absurd (true≢false (sym e))

module _ (policy : List Placed) (faultless : IsFaultless policy) (s : Placed) (there : Contains policy s) where
  -- a word of a rule stands for what was noted where it leads
  pub element-led : (names : List (List ℕ)) (made : List Element) (word : Word) (found : Option ℕ) (other : ℕ) → HaveElements names policy made → Contains (references s.form) (types, word) → Contains (element_words s.form) word
      → IsLead types policy found (leads policy types s.namespace word.text) → IsElement names (get_or made (unwrap_or found other) (elements.«Type» 0)) (element_of policy s.namespace word)
  element-led names made word found other have refers names_it lead =
      let some = word-found policy faultless s there types word refers in
      let a = found-at types policy found (leads policy types s.namespace word.text) lead some in
      let set : is_set policy a.t ≡ true = by a.t (is_alias a.t.form) refl (alias-set policy faultless s there word names_it a.t a.lead_is) in
      subst (λ n. IsElement names (get_or made n (elements.«Type» 0)) (element_of policy s.namespace word)) (found-any types policy found (leads policy types s.namespace word.text) lead some other)
      (subst (λ o. IsElement names (get_or made (unwrap_or found 0) (elements.«Type» 0)) (element_or_none policy o)) (sym a.lead_is) (have (unwrap_or found 0) a.t a.at a.first set))
    where
      by : (t : Placed) (b : Bool) → is_alias t.form ≡ b → (is_alias t.form ≡ true → is_some (actual_statement policy t) ≡ true) → is_set policy t ≡ true
      by t true e some = ap (λ b. not (is_alias t.form && not b)) (some e) ∙ never (is_alias t.form)
        where
          never : (b : Bool) → not (b && false) ≡ true
          never true = refl
          never false = refl
      by t false e some = ap (λ b. not (b && not (is_some (actual_statement policy t)))) e

  -- a name of a table whose names have numbers has the number that stands where it leads
  number-led : (table : Table) → ((form : Form) → is_some (declared_in table form) ≡ true → (id : Word) × (declared_in table form ≡ Some id) × (numbered_id form ≡ Some id))
      → (names : List (List ℕ)) (places : List ℕ) (word : Word) (found : Option ℕ) (other : ℕ) → HavePlaces names policy places → Contains (references s.form) (table, word)
      → IsLead table policy found (leads policy table s.namespace word.text)
      → number_in names (name_or_none table (leads policy table s.namespace word.text)) ≡ Some (get_or places (unwrap_or found other) 0)
  number-led table declares names places word found other have refers lead =
      let some = word-found policy faultless s there table word refers in
      let a = found-at table policy found (leads policy table s.namespace word.text) lead some in
      let (id, declared, numbered) = declares a.t.form (first-declares table policy (unwrap_or found 0) a.t a.at a.first) in
      ap (λ o. number_in names (name_or_none table o)) a.lead_is ∙ ap (number_in names) (sym (full-name-in table a.t id numbered declared)) ∙ have (unwrap_or found 0) a.t a.at (ap is_some numbered)
      ∙ ap (λ n. Some (get_or places n 0)) (found-any table policy found (leads policy table s.namespace word.text) lead some other)

  -- so has a class
  pub class-led : (names : List (List ℕ)) (places : List ℕ) (word : Word) (found : Option ℕ) (other : ℕ) → HavePlaces names policy places → Contains (references s.form) (classes, word)
      → IsLead classes policy found (leads policy classes s.namespace word.text) → number_in names (class_name policy s.namespace word) ≡ Some (get_or places (unwrap_or found other) 0)
  class-led = number-led classes class-declares

  -- and a permission set
  pub set-led : (names : List (List ℕ)) (places : List ℕ) (word : Word) (found : Option ℕ) (other : ℕ) → HavePlaces names policy places → Contains (references s.form) (permission_sets, word)
      → IsLead permission_sets policy found (leads policy permission_sets s.namespace word.text)
      → number_in names (name_or_none permission_sets (leads policy permission_sets s.namespace word.text)) ≡ Some (get_or places (unwrap_or found other) 0)
  set-led = number-led permission_sets set-declares

  -- and the attribute of a set statement
  pub attribute-led : (names : List (List ℕ)) (places : List ℕ) (attribute : Word) (expr : WordExpr) (found : Option ℕ) (other : ℕ) → s.form ≡ attribute_set attribute expr → HavePlaces names policy places
      → IsLead types policy found (leads policy types s.namespace attribute.text)
      → number_in names (name_or_none types (leads policy types s.namespace attribute.text)) ≡ Some (get_or places (unwrap_or found other) 0)
  attribute-led names places attribute expr found other form have lead =
      let refers : Contains (references s.form) (types, attribute) = subst (λ f. Contains (references f) (types, attribute)) (sym form) (contains-first (types, attribute) (map (λ w. (types, w)) (leaves expr))) in
      let asked : Contains (kinds_asked s.form) (is_attribute, attribute) = subst (λ f. Contains (kinds_asked f) (is_attribute, attribute)) (sym form) (contains-first (is_attribute, attribute) []) in
      let some = word-found policy faultless s there types attribute refers in
      let a = found-at types policy found (leads policy types s.namespace attribute.text) lead some in
      let (id, is) = attribute-word a.t.form (kind-found policy faultless s there is_attribute attribute asked a.t a.lead_is) in
      ap (λ o. number_in names (name_or_none types o)) a.lead_is ∙ ap (number_in names) (sym (full-name-in types a.t id (ap numbered_id is) (ap (declared_in types) is)))
      ∙ have (unwrap_or found 0) a.t a.at (ap (λ f. is_some (numbered_id f)) is)
      ∙ ap (λ n. Some (get_or places n 0)) (found-any types policy found (leads policy types s.namespace attribute.text) lead some other)

-- each reference of a statement that is seen leads to a place
pub refers-within : {A : Type 0} (l : Lowering A) (seen : Seen A) (k : ℕ) (r : Refers l seen k) → (n : ℕ) × (get_or seen.bound k None ≡ Some n) × (n < length r.policy)
refers-within l seen k r =
    led-within r.table r.policy (get_or seen.bound k None) (leads r.policy r.table r.s.namespace r.word.text) (seen-lead seen r.policy r.s k r.table r.word r.is.seen_is r.at)
    (word-found r.policy r.is.lowering.faultless r.s r.is.there r.table r.word (contained (references r.s.form) k (r.table, r.word) r.at))

-- the same of a place that was found
pub record IsFoundAt (table : Table) (policy : List Placed) (i : ℕ) (lead : Option Placed) : Type 0 where
  pub t : Placed
  pub lead_is : lead ≡ Some t
  pub at : slice_get policy i ≡ Some t
  pub first : IsFirstOf table policy i

pub found-some : (table : Table) (policy : List Placed) (found : Option ℕ) (lead : Option Placed) → IsLead table policy found lead → (i : ℕ) → found ≡ Some i → IsFoundAt table policy i lead
found-some table policy None lead leads i is = absurd (none-some i is)
found-some table policy (Some n) lead leads i is = by (slice_get policy n) refl
  where
    same : n ≡ i
    same = same_Some n i is

    by : (o : Option Placed) → slice_get policy n ≡ o → IsFoundAt table policy i lead
    by None e = absurd (none-there policy n e leads.within)
    by (Some t) e = record { t = t; lead_is = sym leads.is ∙ e; at = ap (slice_get policy) (sym same) ∙ e; first = subst (IsFirstOf table policy) same leads.first }

-- nothing is found where a look-up leads nowhere
pub no-found : (table : Table) (policy : List Placed) (found : Option ℕ) (lead : Option Placed) → IsLead table policy found lead → found ≡ None → None ≡ lead
no-found table policy None lead leads is = leads.is
no-found table policy (Some n) lead leads is = absurd (none-some n (sym is))

-- what the lowering rests on, by the lists that it is made of
pub lowering-of : {A : Type 0} (l : Lowering A) (policy : List Placed) (places : List ℕ) (elements : List Element) → IsNoted l.checker.now policy → IsFaultless policy → HavePlaces l.numbering.now.names.items policy l.numbering.now.places.items
    → length l.numbering.now.places.items ≡ length policy → length elements ≡ length policy
    → HavePermissions l.checker.now.bound.policy.now.names l.numbering.now.names.items policy l.numbering.now.permissions.items → places ≡ l.numbering.now.places.items
    → (HavePlaces l.numbering.now.names.items policy places → HaveElements l.numbering.now.names.items policy elements) → l.elements.now ≡ elements → IsLowering l policy
lowering-of l policy places elements noted faultless have places_long elements_long permissions read made same = record {
  noted = noted;
  faultless = faultless;
  places = have;
  permissions = permissions;
  elements = subst (HaveElements l.numbering.now.names.items policy) (sym same) (made (subst (HavePlaces l.numbering.now.names.items policy) (sym read) have));
  places_long = places_long;
  elements_long = ap length same ∙ elements_long;
}
