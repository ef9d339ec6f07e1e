-- The permissions of the rules of a policy without faults, and of its statements of permission sets, by numbers.
use Rattle.cil_resolve.proofs.Common.{◌≡◌, ◌∙◌, ℕ, ◌==◌, ◌++◌, Bool, true, false, true≢false, if◌then◌else◌, not, ◌&&◌, nat_lt, List, [], ◌∷◌, length, get_or, map, filter, cond, Contains, Some, None, is_some, bytes_eq, refl, sym, ap, subst, unwrap_or, list_all, list_any, length-map, Word, WordExpr, Expr, every, named, opposite, both, either, one_of, nothing, elements, leaves, map_leaves, leaves-mapped, Placed, classes, leads, references, has_name, texts, distinct, permissions_of, declared_name, is_class, class_name, name_or_none, meaning_of, permissions_in, expr_nodes, seen-lead, IsLead, both_true, first_true, second_true, expr-is, filled, nodes-mapped, written-spelt, IsIn, NamesPermissions, IsSpeltBy, has_named, texts_in, written_in, ArePermissions, AreNumbersIn, listed_names, number_in}
use Rattle.std.proofs.Common.{slice_get}
use Rattle.cil_specs.specs.Expr.{holds_by, listed}
use Rattle.cil_specs.specs.Meaning.{class_permits, has_permission}
use Rattle.cil_parse.specs.Forms.{is_plain, permission_nodes}
use Rattle.cil_parse.specs.declared.row.SetNode.{SetNode}
use Rattle.std.proofs.Math.Dec.{eqb-suc-zero}
use Rattle.cil_check.specs.declared.bound.Seen.{Seen}
use Rattle.cil_expression.specs.Spelling.{expr_of, IsSpelt}
use Rattle.cil_expression.proofs.ListedLemmas.{leaves-listed, listed-mapped, plain-listed, plain-mapped}
use Rattle.cil_resolve.specs.Numbers.{is_no_list}
use Rattle.cil_resolve.specs.declared.lowering.Lowering.{Lowering}
use Rattle.cil_resolve.specs.declared.numbered.NumberedPermissions.{NumberedPermissions}
use Rattle.cil_resolve.proofs.ClassLemmas.{class-permission}
use Rattle.cil_resolve.proofs.ConsistentLemmas.{class-declared, class-declares-them}
use Rattle.cil_resolve.proofs.ElementLemmas.{first-declares}
use Rattle.cil_resolve.proofs.FaultlessLemmas.{word-found}
use Rattle.cil_resolve.proofs.LoweringLemmas.{found-at}
use Rattle.cil_resolve.proofs.NumberLemmas.{number-is, numbers-are, numbers-below}
use Rattle.cil_resolve.proofs.PermitLemmas.{named-of-class, plain-gives, written-gives}
use Rattle.cil_resolve.proofs.RuleLemmas.{rule-listed}
use Rattle.cil_resolve.proofs.StatementLemmas.{contained}
use Rattle.cil_bind.specs.Policy.{bound_of}

-- the text of a word
abbrev pub text : Word → List ℕ
text w = w.text

all-filter : {X : Type 0} (p q : X → Bool) (xs : List X) → list_all p xs ≡ true → list_all p (filter q xs) ≡ true
all-filter p q [] all = refl
all-filter p q (x ∷ xs) all = by (q x) (all-filter p q xs (second_true (p x) (list_all p xs) all))
  where
    by : (b : Bool) → list_all p (filter q xs) ≡ true → list_all p (cond b (x ∷ filter q xs) (filter q xs)) ≡ true
    by true more = both_true (p x) (list_all p (filter q xs)) (first_true (p x) (list_all p xs) all) more
    by false more = more

module _ (names : List (List ℕ)) (permissions : WordExpr) (numbers : List ℕ) (are : AreNumbersIn names (texts (leaves permissions)) numbers) where
  -- The nodes of an expression and the numbers of its words are those of one expression.
  pub permissions-spelt : IsSpelt (expr_nodes permissions) numbers
  permissions-spelt =
      filled permissions numbers (sym (length-map numbers (λ n. Some n)) ∙ ap length are ∙ length-map (texts (leaves permissions)) (number_in names) ∙ length-map (leaves permissions) text)

  -- It is the written one, by names.
  pub permissions-made : (e : Expr ℕ) → e ≡ permissions-spelt.expr → IsSpeltBy names e permissions
  permissions-made e is =
      let x = permissions-spelt in
      let f = λ (n : ℕ). get_or names n [] in
      record {
        named =
            ap (map_leaves f) is
            ∙ sym (expr-is (expr_nodes permissions) (map f numbers) (map_leaves f x.expr) (x.nodes_are ∙ sym (nodes-mapped f x.expr)) (ap (map f) x.names_are ∙ sym (leaves-mapped f x.expr)))
            ∙ ap (expr_of (expr_nodes permissions)) (numbers-are names (texts (leaves permissions)) numbers are) ∙ written-spelt text permissions;
        below = subst (λ l. list_all (λ n. nat_lt n (length names)) l ≡ true) (x.names_are ∙ ap leaves (sym is)) (numbers-below names (texts (leaves permissions)) numbers are);
      }

-- the nodes of a rule's statement tell whether its permissions are a plain list
pub no-list : {nodes : List SetNode} (permissions : WordExpr) → nodes ≡ permission_nodes permissions → (length nodes == 0) ≡ false → is_plain permissions ≡ false
no-list {nodes = nodes} permissions are some = by (is_plain permissions) refl
  where
    by : (b : Bool) → is_plain permissions ≡ b → is_plain permissions ≡ false
    by false e = e
    by true e = absurd (true≢false (sym (ap (λ l. length l == 0) (are ∙ ap (λ b. if b then [] else expr_nodes permissions) e)) ∙ some))

some-node : (e : WordExpr) → (length (expr_nodes e) == 0) ≡ false
some-node every = refl
some-node (named w) = refl
some-node (opposite x) = eqb-suc-zero (length (expr_nodes x))
some-node (both x y) = eqb-suc-zero (length (expr_nodes x ++ expr_nodes y))
some-node (either x y) = eqb-suc-zero (length (expr_nodes x ++ expr_nodes y))
some-node (one_of x y) = eqb-suc-zero (length (expr_nodes x ++ expr_nodes y))
some-node nothing = refl
some-node (elements x more) = eqb-suc-zero (length (expr_nodes x ++ expr_nodes more))

pub a-list : {nodes : List SetNode} (permissions : WordExpr) → nodes ≡ permission_nodes permissions → (length nodes == 0) ≡ true → is_plain permissions ≡ true
a-list {nodes = nodes} permissions are none = by (is_plain permissions) refl
  where
    by : (b : Bool) → is_plain permissions ≡ b → is_plain permissions ≡ true
    by true e = e
    by false e = absurd (true≢false (sym none ∙ ap (λ l. length l == 0) (are ∙ ap (λ b. if b then [] else expr_nodes permissions) e) ∙ some-node permissions))

-- The class of a rule stands at this place.
pub record IsClassAt (policy : List Placed) (s : Placed) (the_class : Word) (place : ℕ) : Type 0 where
  pub t : Placed
  pub at : slice_get policy place ≡ Some t
  pub is : is_class t.form ≡ true
  pub named : class_name policy s.namespace the_class ≡ declared_name classes t

module _ {A : Type 0} (l : Lowering A) (seen : Seen A) (policy : List Placed) (s : Placed) (is : IsIn l seen policy s) (k : ℕ) (the_class : Word) (permissions : WordExpr) (names_them : NamesPermissions s.form k the_class permissions) where
  abbrev numbered_names : List (List ℕ)
  numbered_names = l.numbering.now.names.items

  refers : Contains (references s.form) (classes, the_class)
  refers = contained (references s.form) k (classes, the_class) names_them.refers

  lead : IsLead classes policy (get_or seen.bound k None) (leads policy classes s.namespace the_class.text)
  lead = seen-lead seen policy s k classes the_class is.seen_is names_them.refers

  leads_on : is_some (leads policy classes s.namespace the_class.text) ≡ true
  leads_on = word-found policy is.lowering.faultless s is.there classes the_class refers

  -- The permissions that it names are permissions that statements list.
  pub permissions-listed : list_all (has_name (listed_names policy)) (texts (permissions_in s.form)) ≡ true
  permissions-listed =
      subst (λ words. list_all (has_name (listed_names policy)) (texts words) ≡ true) (sym names_them.words)
      (rule-listed policy (bound_of l.checker.now.bound.policy.now l.checker.now.bound.joined.now.modules.items) is.lowering.noted.is.bound.bound is.lowering.faultless s is.there the_class (leaves permissions) names_them.named
      (get_or seen.bound k None) lead leads_on)

  -- Its class stands where the reference leads.
  pub class-at : IsClassAt policy s the_class (unwrap_or (get_or seen.bound k None) 0)
  class-at =
      let a = found-at classes policy (get_or seen.bound k None) (leads policy classes s.namespace the_class.text) lead leads_on in
      record {
        t = a.t;
        at = a.at;
        is = sym (class-declared a.t.form) ∙ first-declares classes policy (unwrap_or (get_or seen.bound k None) 0) a.t a.at a.first;
        named = ap (name_or_none classes) a.lead_is;
      }

  -- by its class's number
  abbrev Gives : ℕ → List ℕ → Type 0
  Gives class given = (c q : List ℕ) → class_permits (meaning_of policy []) (class_name policy s.namespace the_class) (texts_in permissions) c q
      ≡ has_named numbered_names (map (λ n. record { class = class; permission = n }) given) c q

  gives-numbered : (class : ℕ) (given : List ℕ) → number_in numbered_names (class_name policy s.namespace the_class) ≡ Some class
      → ((c q : List ℕ) → class_permits (meaning_of policy []) (class_name policy s.namespace the_class) (texts_in permissions) c q
      ≡ (bytes_eq (class_name policy s.namespace the_class) c && list_any (bytes_eq q) (map (λ n. get_or numbered_names n []) given))) → Gives class given
  gives-numbered class given numbered gives c q =
      gives c q ∙ ap (λ x. bytes_eq x c && list_any (bytes_eq q) (map (λ n. get_or numbered_names n []) given)) (sym (number-is numbered_names (class_name policy s.namespace the_class) class numbered).1)
      ∙ sym (named-of-class numbered_names class c q given)

  -- Of a plain list it gives the permissions that stand in it.
  pub plain-given : is_plain permissions ≡ true → (class : ℕ) → number_in numbered_names (class_name policy s.namespace the_class) ≡ Some class
      → (numbers : List ℕ) → AreNumbersIn numbered_names (texts (leaves permissions)) numbers
      → ArePermissions {A = A} numbered_names policy (class_name policy s.namespace the_class) permissions (record { class = class; given = numbers; written = None })
  plain-given plain class numbered numbers are =
      let f = λ (n : ℕ). get_or numbered_names n [] in
      let plain_is : map_leaves text permissions ≡ listed (texts (leaves permissions)) = ap (map_leaves text) (plain-listed permissions plain) ∙ listed-mapped text (leaves permissions) in
      let by_name = numbers-are numbered_names (texts (leaves permissions)) numbers are in
      let below = numbers-below numbered_names (texts (leaves permissions)) numbers are in
      record {
        of_class = numbered;
        spelt = record {
          named = listed-mapped f numbers ∙ ap listed by_name ∙ sym plain_is;
          below = subst (λ words. list_all (λ n. nat_lt n (length numbered_names)) words ≡ true) (sym (leaves-listed numbers)) below;
        };
        no_list = refl;
        below = below;
        gives = gives-numbered class numbers numbered (λ c q.
            ap (λ e. bytes_eq (class_name policy s.namespace the_class) c && (has_permission (meaning_of policy []) c q && holds_by (bytes_eq q) e)) plain_is
            ∙ plain-gives (meaning_of policy []) (class_name policy s.namespace the_class) (texts (leaves permissions))
            (class-declares-them policy is.lowering.faultless s is.there the_class (leaves permissions) refers names_them.named) c q
            ∙ ap (λ words. bytes_eq (class_name policy s.namespace the_class) c && list_any (bytes_eq q) words) (sym by_name));
      }

  -- Of another expression it gives those of its class that the expression holds.
  pub written-given : is_plain permissions ≡ false → (e : Expr ℕ) → IsSpeltBy numbered_names e permissions → (place : ℕ) → (a : IsClassAt policy s the_class place)
      → (numbers : List ℕ) → AreNumbersIn numbered_names (distinct (permissions_of policy a.t)) numbers
      → (p : NumberedPermissions A) → number_in numbered_names (class_name policy s.namespace the_class) ≡ Some p.class
      → p.given ≡ filter (λ n. holds_by (λ q. n == q) e) numbers → written_in p ≡ e → is_no_list p.written ≡ not (is_plain e)
      → ArePermissions numbered_names policy (class_name policy s.namespace the_class) permissions p
  written-given other e spelt place a numbers are p numbered given written no_list =
      let f = λ (n : ℕ). get_or numbered_names n [] in
      let below = numbers-below numbered_names (distinct (permissions_of policy a.t)) numbers are in
      record {
        of_class = numbered;
        spelt = subst (λ x. IsSpeltBy numbered_names x permissions) (sym written) spelt;
        no_list = no_list ∙ ap not (sym (plain-mapped f e) ∙ ap is_plain spelt.named ∙ plain-mapped text permissions ∙ other);
        below =
            subst (λ ns. list_all (λ n. nat_lt n (length numbered_names)) ns ≡ true) (sym given)
            (all-filter (λ n. nat_lt n (length numbered_names)) (λ n. holds_by (λ q. n == q) e) numbers below);
        gives = gives-numbered p.class p.given numbered (λ c q.
            ap (λ x. bytes_eq (class_name policy s.namespace the_class) c && (has_permission (meaning_of policy []) c q && holds_by (bytes_eq q) x)) (sym spelt.named)
            ∙ written-gives numbered_names l.numbering.now.ordered e spelt.below (meaning_of policy []) (class_name policy s.namespace the_class) numbers p.given below
            (λ x.
            ap (λ name. has_permission (meaning_of policy []) name x) a.named
            ∙ class-permission policy is.lowering.faultless is.lowering.noted.is.spelt a.t (contained policy place a.t a.at) a.is x
            ∙ ap (λ some. has_name some x) (sym (numbers-are numbered_names (distinct (permissions_of policy a.t)) numbers are)))
            given c q);
      }
