-- Statements whose references are bound, and not to aliases without an actual type.
use Rattle.cil_check.proofs.Common.{◌≡◌, ℕ, ◌+◌, ◌<◌, inl, inr, cases_lt, is_kind, arith, get_or, take, length, length-map, not, ◌&&◌, ◌||◌, Bool, true, false, List, [], ◌∷◌, ◌++◌, map, filter, cond, Option, Some, None, is_some, refl, sym, ap, ◌∙◌, subst, true≢false, append-nil, option_and_then, option_map, none-some, slice_get-map, slice_get_within, first_true, second_true, AllByRecursion, Word, Form, attribute_set, class_permission_set, rule, anonymous, by_name, itself, the_named, leaves, Placed, Table, types, classes, leads, references, permission_reference, is_alias, is_unfound, is_unset, element_words, kind_of, IsLead, HasFirsts, Actual, names_permissions, named_class, class_lead, first_at}
use Rattle.std.proofs.Common.{◌-◌, ◌^◌, slice_get, unwrap_or}
use Rattle.std.proofs.lemmas.List.Folds.{list_all_more}
use Rattle.std.specs.List.{list_all}
use Rattle.cil_specs.specs.Statements.{target_words}
use Rattle.cil_parse.specs.declared.row.StatementKind.{StatementKind}
use Rattle.cil_parse.specs.declared.row.StatementKind.TheVariants as kinds
use Rattle.cil_bind.specs.AboutNames.{is_about_names}
use Rattle.cil_bind.specs.Binding.{AreLeads, kinds_of}
use Rattle.cil_bind.proofs.AboutNamesLemmas.{StaysAt}
use Rattle.cil_check.specs.Clean.{HaveActuals, IsSound, are_sound, is_other, is_sound, is_sound_at}
use Rattle.cil_check.specs.declared.kinds.Kind.TheVariants.{Alias}
use Rattle.cil_check.proofs.SeenLemmas.{kind-form}
use Rattle.cil_check.proofs.AskedLemmas.{nowhere-unset}
use Rattle.cil_check.proofs.WordLemmas.{Led, led-at, unset-noted}

either-not : (a b : Bool) → (not a || b) ≡ true → (a && not b) ≡ false
either-not true true is = refl
either-not true false is = absurd (true≢false (sym is))
either-not false b is = refl

-- a reference that is bound to a sound place
sound-lead : (policy : List Placed) (actuals : List (ℕ × ℕ)) (namespace : List (List ℕ)) (r : Table × Word) (found : Option ℕ) → HasFirsts Actual policy actuals
    → IsLead r.0 policy found (leads policy r.0 namespace r.1.text) → is_sound (kinds_of policy) actuals found ≡ true → IsSound policy namespace r
sound-lead policy actuals namespace r None has led is = absurd (true≢false (sym is))
sound-lead policy actuals namespace r (Some place) has led is = record {
  found = ap (λ l. not (is_some l)) (led-at r.0 policy place (leads policy r.0 namespace r.1.text) led).is;
  actual = λ same. set-lead (led-at types policy place (leads policy types namespace r.1.text) (subst (λ t. IsLead t policy (Some place) (leads policy t namespace r.1.text)) same led));
}
  where
    set-lead : Led types policy place (leads policy types namespace r.1.text) → is_unset policy namespace r.1 ≡ false
    set-lead lead =
        unset-noted policy namespace r.1 actuals place lead has
        ∙ either-not (is_alias lead.s.form) (is_some (first_at actuals place))
        (ap (λ a. not a || is_some (first_at actuals place)) (sym (kind-form Alias lead.s.form))
        ∙ ap (is_sound_at actuals place) (sym (slice_get-map (λ s. kind_of s.form) policy place ∙ ap (option_map (λ s. kind_of s.form)) lead.at)) ∙ is)

-- one that is bound to no alias is sound: no statement has the place that stands for nowhere in code
pub plainly-sound : (policy : List Placed) (kinds : List StatementKind) (actuals : List (ℕ × ℕ)) (found : Option ℕ) → kinds ≡ kinds_of policy → length policy < 2 ^ 32
    → is_other (slice_get kinds (unwrap_or found 4294967295)) ≡ true → is_sound kinds actuals found ≡ true
plainly-sound policy kinds actuals None same few is = absurd (past (slice_get kinds 4294967295) refl is)
  where
    past : (o : Option StatementKind) → slice_get kinds 4294967295 ≡ o → is_other o ≡ true → ⊥
    past None at other = true≢false (sym other)
    past (Some kind) at other =
        let within = slice_get_within kinds 4294967295 kind at in
        let long : length kinds ≡ length policy = ap length same ∙ length-map policy (λ s. kind_of s.form) in
        omega (arith, within, long, few)
plainly-sound policy kinds actuals (Some place) same few is = there (slice_get kinds place) is
  where
    there : (o : Option StatementKind) → is_other o ≡ true → is_sound_at actuals place o ≡ true
    there None other = other
    there (Some kind) other = ap (λ b. b || is_some (first_at actuals place)) other

-- so are all references of a statement
sound-each : (policy : List Placed) (actuals : List (ℕ × ℕ)) (namespace : List (List ℕ)) (refs : List (Table × Word)) (bound : List (Option ℕ)) → HasFirsts Actual policy actuals
    → AreLeads policy namespace refs bound → are_sound (kinds_of policy) actuals bound ≡ true → AllByRecursion (IsSound policy namespace) refs
sound-each policy actuals namespace [] [] has are all = tt
sound-each policy actuals namespace [] (b ∷ bound) has are all = absurd are
sound-each policy actuals namespace (r ∷ refs) [] has are all = absurd are
sound-each policy actuals namespace (r ∷ refs) (b ∷ bound) has are all = (
  sound-lead policy actuals namespace r b has are.0 (first_true (is_sound (kinds_of policy) actuals b) (are_sound (kinds_of policy) actuals bound) all),
  sound-each policy actuals namespace refs bound has are.1 (second_true (is_sound (kinds_of policy) actuals b) (are_sound (kinds_of policy) actuals bound) all),
)

pub sound-all : (policy : List Placed) (kinds : List StatementKind) (actuals : List (ℕ × ℕ)) (namespace : List (List ℕ)) (refs : List (Table × Word)) (bound : List (Option ℕ)) → kinds ≡ kinds_of policy → HasFirsts Actual policy actuals
    → AreLeads policy namespace refs bound → are_sound kinds actuals bound ≡ true → AllByRecursion (IsSound policy namespace) refs
sound-all policy kinds actuals namespace refs bound same has are all =
    sound-each policy actuals namespace refs bound has are (ap (λ l. are_sound l actuals bound) (sym same) ∙ all)

-- what is bound is sound where no alias lacks an actual type
pub bound-sound : (policy : List Placed) (kinds : List StatementKind) (actuals : List (ℕ × ℕ)) (namespace : List (List ℕ)) (refs : List (Table × Word)) (bound : List (Option ℕ)) → kinds ≡ kinds_of policy
    → HaveActuals kinds actuals → AreLeads policy namespace refs bound → list_all is_some bound ≡ true → are_sound kinds actuals bound ≡ true
bound-sound policy kinds actuals namespace refs [] same have are all = refl
bound-sound policy kinds actuals namespace [] (b ∷ bound) same have are all = absurd are
bound-sound policy kinds actuals namespace (r ∷ refs) (None ∷ bound) same have are all = absurd (true≢false (sym all))
bound-sound policy kinds actuals namespace (r ∷ refs) (Some place ∷ bound) same have are all =
    let lead = led-at r.0 policy place (leads policy r.0 namespace r.1.text) are.0 in
    let within = slice_get_within policy place lead.s lead.at in
    let long : length kinds ≡ length policy = ap length same ∙ length-map policy (λ s. kind_of s.form) in
    ap (λ b. b && are_sound kinds actuals bound) (have place (omega (arith, within, long)))
    ∙ bound-sound policy kinds actuals namespace refs bound same have are.1 all

-- so are all references that lead somewhere, where no alias lacks an actual type
pub found-all : (policy : List Placed) (kinds : List StatementKind) (actuals : List (ℕ × ℕ)) (namespace : List (List ℕ)) (refs : List (Table × Word)) (bound : List (Option ℕ)) → kinds ≡ kinds_of policy → HasFirsts Actual policy actuals
    → HaveActuals kinds actuals → AreLeads policy namespace refs bound → map (λ r. r.1) (filter (is_unfound policy namespace) refs) ≡ [] → AllByRecursion (IsSound policy namespace) refs
found-all policy kinds actuals namespace [] bound same has have are none = tt
found-all policy kinds actuals namespace (r ∷ refs) [] same has have are none = absurd are
found-all policy kinds actuals namespace (r ∷ refs) (b ∷ bound) same has have are none = by (is_unfound policy namespace r) refl (found-all policy kinds actuals namespace refs bound same has have are.1)
  where
    some : List (Table × Word)
    some = filter (is_unfound policy namespace) refs

    words : Bool → List Word
    words is = map (λ (q : Table × Word). q.1) (cond is (r ∷ some) some)

    sound : is_unfound policy namespace r ≡ false → (found : Option ℕ) → IsLead r.0 policy found (leads policy r.0 namespace r.1.text) → IsSound policy namespace r
    sound other None led = record {
      found = other;
      actual = λ types_asked. nowhere-unset policy namespace r.1 None (subst (λ t. IsLead t policy None (leads policy t namespace r.1.text)) types_asked led) refl;
    }
    sound other (Some place) led =
        let lead = led-at r.0 policy place (leads policy r.0 namespace r.1.text) led in
        let within = slice_get_within policy place lead.s lead.at in
        let long : length kinds ≡ length policy = ap length same ∙ length-map policy (λ s. kind_of s.form) in
        sound-lead policy actuals namespace r (Some place) has led (ap (λ l. is_sound l actuals (Some place)) (sym same) ∙ have place (omega (arith, within, long)))

    by : (is : Bool) → is_unfound policy namespace r ≡ is → (map (λ (q : Table × Word). q.1) some ≡ [] → AllByRecursion (IsSound policy namespace) refs) → AllByRecursion (IsSound policy namespace) (r ∷ refs)
    by true is rest = absurd (none-some r.1 (sym (ap (λ l. slice_get l 0) (sym (ap words is) ∙ none))))
    by false is rest = (sound is b are.0, rest (sym (ap words is) ∙ none))

-- the statements in front of a place are no aliases without an actual type
abbrev pub AreSoundTo : List StatementKind → List (ℕ × ℕ) → ℕ → Type 0
AreSoundTo kinds actuals n = (place : ℕ) → place < n → is_sound kinds actuals (Some place) ≡ true

-- one statement more
pub sound-behind : (kinds : List StatementKind) (actuals : List (ℕ × ℕ)) (n : ℕ) → is_sound kinds actuals (Some n) ≡ true → AreSoundTo kinds actuals n → AreSoundTo kinds actuals (n + 1)
sound-behind kinds actuals n is before place less = elim (cases_lt place n) [
  | inl low ↦ before place low
  | inr past ↦ (let same : n ≡ place = omega (arith, less, past) in subst (λ m. is_sound kinds actuals (Some m) ≡ true) same is)
]

-- a statement that isn't about names is no alias
no-alias : (kind : StatementKind) → is_about_names kind ≡ false → is_kind Alias kind ≡ false
no-alias kinds.TypeAlias other = absurd (true≢false other)
no-alias _ other = refl

pub sound-stays : (kinds : List StatementKind) (actuals : List (ℕ × ℕ)) → StaysAt (AreSoundTo kinds actuals) kinds
sound-stays kinds actuals i kind at other before =
    sound-behind kinds actuals i (ap (is_sound_at actuals i) at ∙ ap (λ b. not b || is_some (first_at actuals i)) (no-alias kind other)) before

-- one reference more
pub sound-more : (kinds : List StatementKind) (actuals : List (ℕ × ℕ)) (bound : List (Option ℕ)) (i : ℕ) (d : Option ℕ) → i < length bound → are_sound kinds actuals (take i bound) ≡ true → is_sound kinds actuals (get_or bound i d) ≡ true
    → are_sound kinds actuals (take (i + 1) bound) ≡ true
sound-more kinds actuals bound i d less before is = list_all_more (is_sound kinds actuals) bound i d less ∙ ap (λ b. b && is_sound kinds actuals (get_or bound i d)) before ∙ is

-- none of them is unfound
pub none-unfound : (policy : List Placed) (namespace : List (List ℕ)) (refs : List (Table × Word)) → AllByRecursion (IsSound policy namespace) refs → map (λ r. r.1) (filter (is_unfound policy namespace) refs) ≡ []
none-unfound policy namespace [] all = refl
none-unfound policy namespace (r ∷ refs) all =
    ap (λ b. map (λ (r : Table × Word). r.1) (cond b (r ∷ filter (is_unfound policy namespace) refs) (filter (is_unfound policy namespace) refs))) all.0.found ∙ none-unfound policy namespace refs all.1

-- and no element is an alias without an actual type
none-unset : (policy : List Placed) (namespace : List (List ℕ)) (words : List Word) (more : List (Table × Word)) → AllByRecursion (IsSound policy namespace) (map (λ w. (types, w)) words ++ more) → filter (is_unset policy namespace) words ≡ []
none-unset policy namespace [] more all = refl
none-unset policy namespace (w ∷ words) more all =
    ap (λ b. cond b (w ∷ filter (is_unset policy namespace) words) (filter (is_unset policy namespace) words)) (all.0.actual refl) ∙ none-unset policy namespace words more all.1

pub none-unset-of : (policy : List Placed) (namespace : List (List ℕ)) (form : Form) → AllByRecursion (IsSound policy namespace) (references form) → filter (is_unset policy namespace) (element_words form) ≡ []
none-unset-of policy namespace (rule kind source target permissions) all = none-unset policy namespace (source ∷ target_words target) (permission_reference permissions ∷ []) all
none-unset-of policy namespace (attribute_set attribute expr) all =
    none-unset policy namespace (leaves expr) [] (subst (AllByRecursion (IsSound policy namespace)) (sym (append-nil (map (λ w. (types, w)) (leaves expr)))) all.1)
none-unset-of policy namespace _ all = refl

-- the last reference of a statement that names permissions of a class is that class
pub class-last : (policy : List Placed) (s : Placed) (bound : List (Option ℕ)) (place : ℕ) → names_permissions (kind_of s.form) ≡ true → AreLeads policy s.namespace (references s.form) bound → get_or bound (length bound - 1) None ≡ Some place
    → IsLead classes policy (Some place) (class_lead policy s)
class-last policy s bound place is are at = by s.form is bound are at
  where
    lead : Form → Option Placed
    lead form = option_and_then (λ w. leads policy classes s.namespace w.text) (named_class form)

    at-last : (form : Form) (found : Option ℕ) → found ≡ Some place → IsLead classes policy found (lead form) → IsLead classes policy (Some place) (lead form)
    at-last form found same = subst (λ o. IsLead classes policy o (lead form)) same

    by : (form : Form) → names_permissions (kind_of form) ≡ true → (bound : List (Option ℕ)) → AreLeads policy s.namespace (references form) bound → get_or bound (length bound - 1) None ≡ Some place → IsLead classes policy (Some place) (lead form)
    by (class_permission_set set the_class permissions) is (a ∷ b ∷ []) are at = at-last (class_permission_set set the_class permissions) b at are.1.0
    by (class_permission_set set the_class permissions) is [] are at = absurd are
    by (class_permission_set set the_class permissions) is (a ∷ []) are at = absurd are.1
    by (class_permission_set set the_class permissions) is (a ∷ b ∷ c ∷ more) are at = absurd are.1.1
    by (rule kind source itself (anonymous the_class permissions)) is (a ∷ b ∷ []) are at = at-last (rule kind source itself (anonymous the_class permissions)) b at are.1.0
    by (rule kind source itself (anonymous the_class permissions)) is [] are at = absurd are
    by (rule kind source itself (anonymous the_class permissions)) is (a ∷ []) are at = absurd are.1
    by (rule kind source itself (anonymous the_class permissions)) is (a ∷ b ∷ c ∷ more) are at = absurd are.1.1
    by (rule kind source (the_named word) (anonymous the_class permissions)) is (a ∷ b ∷ c ∷ []) are at =
        at-last (rule kind source (the_named word) (anonymous the_class permissions)) c at are.1.1.0
    by (rule kind source (the_named word) (anonymous the_class permissions)) is [] are at = absurd are
    by (rule kind source (the_named word) (anonymous the_class permissions)) is (a ∷ []) are at = absurd are.1
    by (rule kind source (the_named word) (anonymous the_class permissions)) is (a ∷ b ∷ []) are at = absurd are.1.1
    by (rule kind source (the_named word) (anonymous the_class permissions)) is (a ∷ b ∷ c ∷ d ∷ more) are at = absurd are.1.1.1
    by (rule kind source itself (by_name set)) is bound are at = absurd (true≢false (sym is))
    by (rule kind source (the_named word) (by_name set)) is bound are at = absurd (true≢false (sym is))
    by _ is bound are at = absurd (true≢false (sym is))
