-- Statements that are clean by their kinds, and permissions of lists that are known.
use Rattle.cil_check.proofs.Common.{◌≡◌, ℕ, ◌≤◌, ◌<◌, ◌++◌, not, ◌&&◌, Bool, true, false, List, [], ◌∷◌, map, filter, cond, Some, None, take, get_or, refl, sym, ap, ◌∙◌, subst, true≢false, arith, list_all, option_to_list, none-some, same_Some, slice_get_within, Word, Form, block, optional, type_name, type_alias, type_attribute, attribute_set, common, class_permission, class_permission_set, rule, anonymous, by_name, itself, the_named, Placed, classes, declared_in, holds_of, has_name, texts, permissions_of, references, named_permissions, PolicyFaultKind, twice, missing, wrong_kind, alias_twice, alias_unset, second_common, too_many_permissions, circular, code_of, is_unfound, is_lacking, missing_words, kinds_asked, is_of_another_kind, alias_words, has_earlier_actual, element_words, is_unset, alias_unset_words, wrong_kind_words, is_attribute, WordExpr, common_words, has_earlier_common, has_too_many, faulty_words, kind_of, permissions_in, IsLead, AreFoundInside, IsOf, is_plain, is_rule_of_set, names_permissions, class_lead, lacking_words, has_list, IsCleanAt}
use Rattle.std.proofs.Common.{slice_get}
use Rattle.cil_bind.specs.KnownLists.{texts_listed}
use Rattle.cil_bind.specs.declared.joined.NamedModule.{NamedModule}
use Rattle.cil_bind.specs.Scope.{IsFrom}
use Rattle.cil_bind.specs.declared.rows.Row.{Row}
use Rattle.cil_check.proofs.CheckLemmas.{missing-at}
use Rattle.cil_check.proofs.MissingLemmas.{lacks, lacks-one, named-of, second-of, class-named}
use Rattle.cil_check.proofs.SeenLemmas.{row-there}
use Rattle.cil_check.proofs.WordLemmas.{Led, led-at}
use Rattle.cil_check.specs.declared.bound.BoundPolicy.{BoundPolicy}

-- what a statement has that can be at fault, but for its references, its permissions and its elements
record IsQuiet (form : Form) : Type 0 where
  kinds : kinds_asked form ≡ []
  aliases : alias_words form ≡ []
  commons : common_words form ≡ []
  class_names : declared_in classes form ≡ None

naming-quiet : (form : Form) → names_permissions (kind_of form) ≡ true → IsQuiet form
naming-quiet (class_permission_set set the_class permissions) is = record { kinds = refl; aliases = refl; commons = refl; class_names = refl }
naming-quiet (rule kind source itself (anonymous the_class permissions)) is = record { kinds = refl; aliases = refl; commons = refl; class_names = refl }
naming-quiet (rule kind source (the_named word) (anonymous the_class permissions)) is = record { kinds = refl; aliases = refl; commons = refl; class_names = refl }
naming-quiet (rule kind source itself (by_name set)) is = absurd (true≢false (sym is))
naming-quiet (rule kind source (the_named word) (by_name set)) is = absurd (true≢false (sym is))
naming-quiet _ is = absurd (true≢false (sym is))

-- a rule of a permission set names no permissions either
record IsOfSet (form : Form) : Type 0 where
  quiet : IsQuiet form
  permissions : named_permissions form ≡ []

rule-of-set : (form : Form) → is_rule_of_set (kind_of form) ≡ true → IsOfSet form
rule-of-set (rule kind source itself (by_name set)) is = record { quiet = record { kinds = refl; aliases = refl; commons = refl; class_names = refl }; permissions = refl }
rule-of-set (rule kind source (the_named word) (by_name set)) is = record { quiet = record { kinds = refl; aliases = refl; commons = refl; class_names = refl }; permissions = refl }
rule-of-set (rule kind source itself (anonymous the_class permissions)) is = absurd (true≢false (sym is))
rule-of-set (rule kind source (the_named word) (anonymous the_class permissions)) is = absurd (true≢false (sym is))
rule-of-set _ is = absurd (true≢false (sym is))

-- a plain statement has none of them either
record IsSilent (form : Form) : Type 0 where
  quiet : IsQuiet form
  refs : references form ≡ []
  permissions : named_permissions form ≡ []
  elements : element_words form ≡ []

plain-silent : (form : Form) → is_plain (kind_of form) ≡ true → IsSilent form
plain-silent (block id) is = record { quiet = record { kinds = refl; aliases = refl; commons = refl; class_names = refl }; refs = refl; permissions = refl; elements = refl }
plain-silent (optional id) is = record { quiet = record { kinds = refl; aliases = refl; commons = refl; class_names = refl }; refs = refl; permissions = refl; elements = refl }
plain-silent (type_name id) is = record { quiet = record { kinds = refl; aliases = refl; commons = refl; class_names = refl }; refs = refl; permissions = refl; elements = refl }
plain-silent (type_alias id) is = record { quiet = record { kinds = refl; aliases = refl; commons = refl; class_names = refl }; refs = refl; permissions = refl; elements = refl }
plain-silent (type_attribute id) is = record { quiet = record { kinds = refl; aliases = refl; commons = refl; class_names = refl }; refs = refl; permissions = refl; elements = refl }
plain-silent (common id permissions) is = record { quiet = record { kinds = refl; aliases = refl; commons = refl; class_names = refl }; refs = refl; permissions = refl; elements = refl }
plain-silent (class_permission id) is = record { quiet = record { kinds = refl; aliases = refl; commons = refl; class_names = refl }; refs = refl; permissions = refl; elements = refl }
plain-silent (rule kind source itself (anonymous the_class permissions)) is = absurd (true≢false (sym is))
plain-silent (rule kind source (the_named word) (anonymous the_class permissions)) is = absurd (true≢false (sym is))
plain-silent _ is = absurd (true≢false (sym is))

-- A statement is clean where its names are found, and lead to things of the kinds that are asked, and no element of it is an alias without
-- an actual type; it gives nothing and is no class.
module _ (policy : List Placed) (place : ℕ) (s : Placed) (inside : AreFoundInside policy) (at : slice_get policy place ≡ Some s) (found : missing_words policy s ≡ []) (actual : alias_unset_words policy s ≡ []) where
  calm-clean : wrong_kind_words policy s ≡ [] → alias_words s.form ≡ [] → common_words s.form ≡ [] → declared_in classes s.form ≡ None → IsCleanAt policy place s
  calm-clean kinds aliases commons class_names = record { none = by }
    where
      by : (kind : PolicyFaultKind) → 42 ≤ code_of kind → code_of kind < 48 → faulty_words kind policy (take place policy) s ≡ []
      by twice least less = absurd (omega (arith, least))
      by missing least less = sym (missing-at policy (take place policy) place s inside at) ∙ found
      by wrong_kind least less = kinds
      by alias_twice least less = ap (filter (has_earlier_actual policy (take place policy) s.namespace)) aliases
      by alias_unset least less = actual
      by second_common least less = ap (filter (has_earlier_common policy (take place policy) s.namespace)) commons
      by too_many_permissions least less = ap (λ o. filter (λ id. has_too_many policy s) (option_to_list o)) class_names
      by circular least less = absurd (omega (arith, less))

  quiet-clean : IsQuiet s.form → IsCleanAt policy place s
  quiet-clean quiet = calm-clean (ap (λ l. map (λ r. r.1) (filter (is_of_another_kind policy s.namespace) l)) quiet.kinds) quiet.aliases quiet.commons quiet.class_names

-- nothing is missing where all references are found and no permission is lacking
pub missing-neither : (policy : List Placed) (s : Placed) → map (λ r. r.1) (filter (is_unfound policy s.namespace) (references s.form)) ≡ [] → lacking_words policy s ≡ [] → missing_words policy s ≡ []
missing-neither policy s found none = ap (λ l. l ++ lacking_words policy s) found ∙ none

pub naming-clean : (policy : List Placed) (place : ℕ) (s : Placed) → names_permissions (kind_of s.form) ≡ true → AreFoundInside policy → slice_get policy place ≡ Some s → missing_words policy s ≡ [] → alias_unset_words policy s ≡ [] → IsCleanAt policy place s
naming-clean policy place s is inside at found actual = quiet-clean policy place s inside at found actual (naming-quiet s.form is)

pub of-set-clean : (policy : List Placed) (place : ℕ) (s : Placed) → is_rule_of_set (kind_of s.form) ≡ true → AreFoundInside policy → slice_get policy place ≡ Some s
    → map (λ r. r.1) (filter (is_unfound policy s.namespace) (references s.form)) ≡ [] → alias_unset_words policy s ≡ [] → IsCleanAt policy place s
of-set-clean policy place s is inside at found actual =
    let of_set = rule-of-set s.form is in
    quiet-clean policy place s inside at (missing-neither policy s found (ap (λ l. map (λ p. p.1) (filter (is_lacking policy s.namespace) l)) of_set.permissions)) actual of_set.quiet

-- a set statement may lead to a thing of another kind
pub set-clean : (policy : List Placed) (place : ℕ) (s : Placed) (attribute : Word) (expr : WordExpr) → s.form ≡ attribute_set attribute expr → AreFoundInside policy → slice_get policy place ≡ Some s
    → map (λ r. r.1) (filter (is_unfound policy s.namespace) (references s.form)) ≡ [] → alias_unset_words policy s ≡ [] → is_of_another_kind policy s.namespace (is_attribute, attribute) ≡ false → IsCleanAt policy place s
set-clean policy place s attribute expr form inside at found actual is =
    calm-clean policy place s inside at (missing-neither policy s found (ap (λ f. map (λ p. p.1) (filter (is_lacking policy s.namespace) (named_permissions f))) form)) actual
    (ap (λ f. map (λ r. r.1) (filter (is_of_another_kind policy s.namespace) (kinds_asked f))) form ∙ ap (λ b. map (λ (r : (Form → Bool) × Word). r.1) (cond b ((is_attribute, attribute) ∷ []) [])) is)
    (ap alias_words form) (ap common_words form) (ap (declared_in classes) form)

pub plain-clean : (policy : List Placed) (place : ℕ) (s : Placed) → is_plain (kind_of s.form) ≡ true → AreFoundInside policy → slice_get policy place ≡ Some s → IsCleanAt policy place s
plain-clean policy place s is inside at =
    quiet-clean policy place s inside at (missing-none policy s silent.refs (ap (λ l. map (λ p. p.1) (filter (is_lacking policy s.namespace) l)) silent.permissions))
    (ap (filter (is_unset policy s.namespace)) silent.elements) silent.quiet
  where
    silent : IsSilent s.form
    silent = plain-silent s.form is

    missing-none : (policy : List Placed) (s : Placed) → references s.form ≡ [] → lacking_words policy s ≡ [] → missing_words policy s ≡ []
    missing-none policy s refs none = ap (λ l. map (λ r. r.1) (filter (is_unfound policy s.namespace) l) ++ lacking_words policy s) refs ∙ none

-- the row of a statement tells its module and its index
pub from-there : {A : Type 0} (b : BoundPolicy A) (policy : List Placed) (i : ℕ) (row : Row) (s : Placed) → IsOf b policy → slice_get policy i ≡ Some s → row ≡ get_or b.policy.now.rows.items i row → IsFrom b.joined.now.modules.items row s
from-there b policy i row s is at here =
    let from = row-there b policy i row is (slice_get_within policy i s at) here in
    subst (IsFrom b.joined.now.modules.items row) (same_Some from.0 s (sym from.1 ∙ at)) from.2

-- words that all pass a test of their texts
module _ (q : List ℕ → Bool) (p : Word → Bool) (other : (w : Word) → p w ≡ not (q w.text)) where
  all-filter : (words : List Word) → list_all q (texts words) ≡ true → filter p words ≡ []
  all-filter [] all = refl
  all-filter (w ∷ words) all = by (q w.text) refl (all-filter words)
    where
      by : (b : Bool) → q w.text ≡ b → (list_all q (texts words) ≡ true → filter p words ≡ []) → filter p (w ∷ words) ≡ []
      by true is rest = ap (λ c. cond c (w ∷ filter p words) (filter p words)) (other w ∙ ap not is) ∙ rest (sym (ap (λ c. c && list_all q (texts words)) is) ∙ all)
      by false is rest = absurd (true≢false (sym all ∙ ap (λ c. c && list_all q (texts words)) is))

  filter-all : (words : List Word) → filter p words ≡ [] → list_all q (texts words) ≡ true
  filter-all [] none = refl
  filter-all (w ∷ words) none = by (q w.text) refl (filter-all words)
    where
      by : (b : Bool) → q w.text ≡ b → (filter p words ≡ [] → list_all q (texts words) ≡ true) → list_all q (texts (w ∷ words)) ≡ true
      by true is rest = ap (λ c. c && list_all q (texts words)) is ∙ rest (sym (ap (λ c. cond c (w ∷ filter p words) (filter p words)) (other w ∙ ap not is)) ∙ none)
      by false is rest = absurd (none-some w (sym (ap (λ l. slice_get l 0) (sym (ap (λ c. cond c (w ∷ filter p words) (filter p words)) (other w ∙ ap not is)) ∙ none))))

-- what a class has by a list that it is known to have, and what it is known to have then
module _ {A : Type 0} (modules : List (NamedModule A)) (policy : List Placed) (s : Placed) (number list place : ℕ) (led : IsLead classes policy (Some place) (class_lead policy s))
    (listed : texts_listed modules number list ≡ texts (permissions_in s.form)) where
  lead : Led classes policy place (class_lead policy s)
  lead = led-at classes policy place (class_lead policy s) led

  abbrev word : Word
  word = (class-named policy s place led).0

  tells : (w : Word) → lacks policy s word w ≡ not (has_name (permissions_of policy lead.s) w.text)
  tells w = lacks-one policy s place word w lead (class-named policy s place led).1

  words : lacking_words policy s ≡ filter (lacks policy s word) (permissions_in s.form)
  words = ap (λ l. map (λ p. p.1) (filter (is_lacking policy s.namespace) l)) (named-of s.form word (class-named policy s place led).1) ∙ second-of (is_lacking policy s.namespace) word (permissions_in s.form)

  there : has_list modules policy number list place ≡ list_all (has_name (permissions_of policy lead.s)) (texts (permissions_in s.form))
  there = ap (holds_of (λ c. list_all (has_name (permissions_of policy c)) (texts_listed modules number list))) lead.at ∙ ap (list_all (has_name (permissions_of policy lead.s))) listed

  pub known-lacks-none : has_list modules policy number list place ≡ true → lacking_words policy s ≡ []
  known-lacks-none has = words ∙ all-filter (has_name (permissions_of policy lead.s)) (lacks policy s word) tells (permissions_in s.form) (sym there ∙ has)

  pub lacks-none-known : lacking_words policy s ≡ [] → has_list modules policy number list place ≡ true
  lacks-none-known none = there ∙ filter-all (has_name (permissions_of policy lead.s)) (lacks policy s word) tells (permissions_in s.form) (sym words ∙ none)

-- no reference is unfound where no word is missing
pub refs-found : (policy : List Placed) (s : Placed) → missing_words policy s ≡ [] → map (λ r. r.1) (filter (is_unfound policy s.namespace) (references s.form)) ≡ []
refs-found policy s none = left (map (λ r. r.1) (filter (is_unfound policy s.namespace) (references s.form))) none
  where
    left : (words : List Word) → words ++ lacking_words policy s ≡ [] → words ≡ []
    left [] is = refl
    left (w ∷ words) is = absurd (none-some w (sym (ap (λ l. slice_get l 0) is)))
