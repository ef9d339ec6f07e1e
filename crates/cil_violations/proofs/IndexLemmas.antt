-- Chains of the allow rules of each class.
use Rattle.cil_violations.proofs.Common.{◌≡◌, ◌⊎◌, ◌∙◌, inl, inr, ℕ, zero, suc, ◌+◌, ◌-◌, ◌<◌, ◌≤◌, ◌==◌, ◌&&◌, ◌||◌, Bool, true, false, cond, MatchOption, List, [], ◌∷◌, ◌++◌, length, get_or, set, take, replicate, Option, Some, None, slice_get, Contains, refl, sym, ap, subst, arith, append_assoc, append-nil, true≢false, nat_cmp, ordering_then, Greater, Less, AnyByRecursion, IsStrictlySortedBy, contains_to, contains_from, all_from_contains, and_parts, and_from, cases_eq, cases_order, nat_lt, ltb-true, is_element_below, is_rule_below, is_target_below, eqb-true, eq-eqb, ne_eqb, get_or_default, get_or-replicate, length-replicate, length-set, get_or-set_same, get_or-set_other, none-some, same_Some, slice_get_cases, slice_get_within, NumberedRule, ClassPermission, AreInOrder, given_at, gives_class, permission_cmp, AreChains, AreHeads, AreOfSet, DoAgree, IsChain, IsIndexFrom, is_allow, is_allow_of, is_allow_of_set, is_kind, is_of_set, links_to, rules_of_set, hits}
use Rattle.std.specs.Prelude.{not}
use Rattle.std.specs.Option.{is_some, option_eq}
use Rattle.std.proofs.Common.{eqb}
use Rattle.std.proofs.Math.Bool.{and-false}
use Rattle.std.proofs.lemmas.Bool.{false_from_ne_true}
use Rattle.std.proofs.lemmas.List.{length-take-le, get_or-take}
use Rattle.std.proofs.lemmas.List.Elements.{recursion_from_All}
use Rattle.std.proofs.lemmas.List.Folds.{list_any_at, list_any_more, Any-from_list_any}
use Rattle.std.proofs.lemmas.Map.Keys.{Less-from_sorted}
use Rattle.cil_specs.specs.Rule.{kind_index}
use Rattle.cil_text.specs.Image.{rule_kind_of}
use Rattle.cil_text.specs.contracts.statement.RuleKindPartialEq.TheImpl as kind_eq
use Rattle.cil_text.specs.declared.statement.RuleKind.{RuleKind}
use Rattle.cil_text.specs.declared.statement.RuleKind.TheVariants.{Allow, AuditAllow, DontAudit, NeverAllow}
use Rattle.cil_resolve.specs.Below.{are_permissions_below}
use Rattle.cil_resolve.specs.declared.numbered.ResolvedPermissions.{ResolvedPermissions}
use Rattle.cil_resolve.specs.declared.numbered.ResolvedPermissions.TheVariants as permits
use Rattle.cil_resolve.specs.declared.set_permissions.SetPermissions.{SetPermissions}
use Rattle.cil_violations.specs.declared.index.ClassIndex.{ClassIndex}
use Rattle.cil_violations.specs.declared.index.Link.{Link}
use Rattle.cil_violations.proofs.HitLemmas.{hits-here, hits-hold, hits-past}
use Rattle.cil_violations.proofs.OrderLemmas.{greater, less}
use Rattle.cil_violations.proofs.TestLemmas.{if-at, is-there}

-- the derived == of kinds, at allow rules
pub derived-allow : (k : RuleKind) → (kind_eq.eq-value).it k Allow ≡ (kind_index (rule_kind_of k) == 0)
derived-allow Allow = refl
derived-allow AuditAllow = refl
derived-allow DontAudit = refl
derived-allow NeverAllow = refl

-- something stands at a place within
pub there-at : {X : Type 0} (xs : List X) (i : ℕ) → i < length xs → (x : X) × (slice_get xs i ≡ Some x)
there-at xs i low = elim (slice_get_cases xs i).1 [
  | inl there ↦ (there.0, there.2)
  | inr past ↦ absurd (let high = past.0 in omega (arith, low, high))
]

-- ---- a link more

kept-link : (links : List Link) (link : Link) (k : ℕ) (x : Link) → slice_get links k ≡ Some x → slice_get (links ++ link ∷ []) k ≡ Some x
kept-link [] link k x at = absurd (none-some x at)
kept-link (y ∷ links) link zero x at = at
kept-link (y ∷ links) link (suc k) x at = kept-link links link k x at

last-link : (links : List Link) (link : Link) → slice_get (links ++ link ∷ []) (length links) ≡ Some link
last-link [] link = refl
last-link (y ∷ links) link = last-link links link

chain-kept : (links : List Link) (link : Link) (ns : List ℕ) (next : Option ℕ) → IsChain links ns next → IsChain (links ++ link ∷ []) ns next
chain-kept links link [] next none = none
chain-kept links link (n ∷ ns) next (k, x, is, at, rule, low, rest) = (k, x, is, kept-link links link k x at, rule, low, chain-kept links link ns x.next rest)

-- chains of links stand when one is put behind
pub chains-kept : (f : ℕ → List ℕ) (others : List (Option ℕ)) (old links : List Link) (link : Link) → links ≡ old ++ link ∷ [] → AreChains f others old → AreChains f others links
chains-kept f others old links link is are n low = subst (λ l. IsChain l (f n) (get_or others n None)) (sym is) (chain-kept old link (f n) (get_or others n None) (are n low))

-- a chain has links before its end
links-within : (links : List Link) (ns : List ℕ) (next : Option ℕ) → IsChain links ns next → links_to next ≤ length links
links-within links [] next none = subst (λ o. links_to o ≤ length links) (sym none) (omega arith)
links-within links (n ∷ ns) next (k, x, is, at, rule, low, rest) = subst (λ o. links_to o ≤ length links) (sym is) (let within = slice_get_within links k x at in omega (arith, within))

-- the chains, where a rule is put in for a number
pub put-chains : (old new : List (Option ℕ)) (old_links new_links : List Link) (place number : ℕ) (next : Option ℕ) → number < length old → next ≡ get_or old number next
    → new_links ≡ old_links ++ (record { rule = place; next = next }) ∷ [] → new ≡ set old number (Some (length old_links))
    → (f : ℕ → List ℕ) → AreChains f old old_links → AreChains (λ n. cond (number == n) (place ∷ f n) (f n)) new new_links
put-chains old new old_links new_links place number next within next_is links_is new_is f are n low =
    subst (λ links. IsChain links (cond (number == n) (place ∷ f n) (f n)) (get_or new n None)) (sym links_is)
    (subst (λ first. IsChain links (cond (number == n) (place ∷ f n) (f n)) (get_or first n None)) (sym new_is) (by (cases_eq n number)))
  where
    link : Link
    link = record { rule = place; next = next }

    links : List Link
    links = old_links ++ link ∷ []

    first : List (Option ℕ)
    first = set old number (Some (length old_links))

    long : length new ≡ length old
    long = ap length new_is ∙ length-set old number (Some (length old_links))

    by : (n ≡ number) ⊎ (n ≡ number → ⊥) → IsChain links (cond (number == n) (place ∷ f n) (f n)) (get_or first n None)
    by (inl same) =
        let next_at : next ≡ get_or old n None = next_is ∙ sym (get_or_default old number None next within) ∙ ap (λ k. get_or old k None) (sym same) in
        let chain : IsChain old_links (f n) next = subst (IsChain old_links (f n)) (sym next_at) (are n (omega (arith, low, long))) in
        subst (λ b. IsChain links (cond b (place ∷ f n) (f n)) (get_or first n None)) (sym (eq-eqb number n (sym same))) (
          length old_links,
          link,
          ap (λ k. get_or first k None) same ∙ get_or-set_same old number (Some (length old_links)) None within,
          last-link old_links link,
          refl,
          links-within old_links (f n) next chain,
          chain-kept old_links link (f n) next chain,
        )
    by (inr apart) =
        subst (λ b. IsChain links (cond b (place ∷ f n) (f n)) (get_or first n None)) (sym (ne_eqb number n (λ same. apart (sym same))))
        (subst (IsChain links (f n)) (sym (get_or-set_other old number n (Some (length old_links)) None apart))
        (chain-kept old_links link (f n) (get_or old n None) (are n (omega (arith, low, long)))))

-- ---- a chain gone along

-- what is left of a chain, behind what is listed
abbrev pub IsLeft : List Link → List ℕ → List ℕ → List ℕ → Option ℕ → Type 0
IsLeft links old ns list next = (rest : List ℕ) × IsChain links rest next × (list ++ rest ≡ old ++ ns)

pub left-all : (links : List Link) (old ns list : List ℕ) (next : Option ℕ) → next ≡ None → IsLeft links old ns list next → list ≡ old ++ ns
left-all links old ns list next none ([], chain, is) = sym (append-nil list) ∙ is
left-all links old ns list next none (n ∷ rest, (k, x, some, at, rule, low, more), is) = absurd (none-some k (sym none ∙ some))

-- one link on
pub left-more : (links : List Link) (old ns list : List ℕ) (k : ℕ) (link : Link) → slice_get links k ≡ Some link → IsLeft links old ns list (Some k)
    → IsLeft links old ns (list ++ link.rule ∷ []) link.next
left-more links old ns list k link at ([], chain, is) = absurd (none-some k (sym chain))
left-more links old ns list k link at (n ∷ rest, (j, x, some, there, rule, low, more), is) =
    let same : link ≡ x = same_Some link x (sym at ∙ ap (slice_get links) (same_Some k j some) ∙ there) in
    (rest, subst (λ (y : Link). IsChain links rest y.next) (sym same) more, append_assoc list (link.rule ∷ []) rest ∙ ap (λ m. list ++ m ∷ rest) (ap (λ (y : Link). y.rule) same ∙ rule) ∙ is)

-- a link that a chain leads to is there, and leads to one before it
pub left-there : (links : List Link) (old ns list : List ℕ) (k : ℕ) → IsLeft links old ns list (Some k) → (link : Link) × (slice_get links k ≡ Some link) × (links_to link.next ≤ k)
left-there links old ns list k ([], chain, is) = absurd (none-some k (sym chain))
left-there links old ns list k (n ∷ rest, (j, x, some, there, rule, low, more), is) =
    let same = same_Some k j some in (x, ap (slice_get links) same ∙ there, subst (λ i. links_to x.next ≤ i) (sym same) low)

-- ---- the classes of a rule

-- whether the class of one is that of the last
pub apart-last : (last : Option ℕ) (c : ℕ) → true ≡ not (option_eq eqb last (Some c)) → last ≡ Some c → ⊥
apart-last last c told same =
    true≢false (told ∙ ap (λ o. not (option_eq eqb o (Some c))) same ∙ ap not (eq-eqb c c refl))

pub same-last : (last : Option ℕ) (c : ℕ) → false ≡ not (option_eq eqb last (Some c)) → last ≡ Some c
same-last None c told = absurd (true≢false (sym told))
same-last (Some x) c told = by (eqb x c) refl told
  where
    by : (b : Bool) → eqb x c ≡ b → false ≡ not b → Some x ≡ Some c
    by true is same = ap Some (eqb-true x c is)
    by false is same = absurd (true≢false (sym same))

-- the class of the last of the first permissions
abbrev pub IsLast : List ClassPermission → ℕ → Option ℕ → Type 0
IsLast permissions k last = MatchOption last (k ≡ 0) (λ c. (0 < k) × ((d : ClassPermission) → (get_or permissions (k - 1) d).class ≡ c))

pub less-class : (x y : ClassPermission) → permission_cmp x y ≡ Less → x.class ≤ y.class
less-class x y less = elim (cases_order x.class y.class) [
  | inl same ↦ omega (arith, same)
  | inr order ↦ elim order [
    | inl low ↦ omega (arith, low)
    | inr high ↦
        absurd (let bad : Greater ≡ Less = sym (ap (λ o. ordering_then o (nat_cmp x.permission y.permission)) (greater x.class y.class high)) ∙ less in
        let none : ⊥ = cc in none)
  ]
]

module _ (permissions : List ClassPermission) (k : ℕ) (d : ClassPermission) (within : k < length permissions) where
  abbrev one : ClassPermission
  one = get_or permissions k d

  -- a class that is that of the last one is among those so far
  pub old-class : (c : ℕ) → IsLast permissions k (Some c) → c ≡ one.class → gives_class (take k permissions) one.class ≡ true
  old-class c last same =
      let some = last.0 in
      let before : k - 1 < k = omega (arith, some) in
      let short = length-take-le k permissions (omega (arith, within)) in
      list_any_at (λ g. g.class == one.class) (take k permissions) (k - 1) d (omega (arith, before, length-take-le k permissions (omega (arith, within))))
      (eq-eqb (get_or (take k permissions) (k - 1) d).class one.class (ap (λ g. g.class) (get_or-take k permissions (k - 1) d before) ∙ last.1 d ∙ same))

  -- another one isn't
  pub new-class : AreInOrder permissions → (last : Option ℕ) → IsLast permissions k last → (last ≡ Some one.class → ⊥) → gives_class (take k permissions) one.class ≡ false
  new-class rising last is apart = false_from_ne_true (gives_class (take k permissions) one.class) (λ any. by last is apart (Any-from_list_any (λ g. g.class == one.class) (take k permissions) any))
    where
      by : (last : Option ℕ) → IsLast permissions k last → (last ≡ Some one.class → ⊥)
          → (j : ℕ) × (g : ClassPermission) × (j < length (take k permissions)) × (get_or (take k permissions) j g ≡ g) × ((g.class == one.class) ≡ true) → ⊥
      by None none apart (j, g, low, is, same) = let short = length-take-le k permissions (omega (arith, within)) in omega (arith, none, low, short)
      by (Some c) (some, class_is) apart (j, g, low, is, same) =
          let short = length-take-le k permissions (omega (arith, within)) in
          let below : j < k = omega (arith, low, short) in
          let own : (get_or permissions j g).class ≡ one.class = ap (λ x. x.class) (sym (get_or-take k permissions j g below) ∙ is) ∙ eqb-true g.class one.class same in
          let before : k - 1 < k = omega (arith, some) in
          let after = less-class (get_or permissions (k - 1) g) (get_or permissions k g) (Less-from_sorted permission_cmp permissions (k - 1) k g rising before within) in
          let here : get_or permissions k g ≡ one = get_or_default permissions k g d within in
          elim (cases_eq j (k - 1)) [
            | inl last ↦ apart (ap Some (sym (class_is g) ∙ ap (λ i. (get_or permissions i g).class) (sym last) ∙ own))
            | inr other ↦
                let lower : j < k - 1 = omega (arith, other, below) in
                let up = less-class (get_or permissions j g) (get_or permissions (k - 1) g) (Less-from_sorted permission_cmp permissions j (k - 1) g rising lower (omega (arith, before, within))) in
                let same_class : (get_or permissions k g).class ≡ one.class = ap (λ x. x.class) here in
                apart (ap Some (sym (class_is g) ∙ (let squeezed : (get_or permissions (k - 1) g).class ≡ one.class = omega (arith, up, after, own, same_class) in squeezed)))
          ]

  gives-more : (c : ℕ) → gives_class (take (k + 1) permissions) c ≡ (gives_class (take k permissions) c || (one.class == c))
  gives-more c = list_any_more (λ g. g.class == c) permissions k d within

  -- the chains of one permission more, of a class that is new
  pub more-chains : (place : ℕ) (f : ℕ → List ℕ) → gives_class (take k permissions) one.class ≡ false
      → ◌≡◌ {A = ℕ → List ℕ} (λ c. cond (one.class == c) (place ∷ cond (gives_class (take k permissions) c) (place ∷ f c) (f c)) (cond (gives_class (take k permissions) c) (place ∷ f c) (f c)))
      (λ c. cond (gives_class (take (k + 1) permissions) c) (place ∷ f c) (f c))
  more-chains place f new = λ i c. each c i
    where
      by : (g e : Bool) (n : List ℕ) → (e ≡ true → g ≡ false) → cond e (place ∷ cond g (place ∷ n) n) (cond g (place ∷ n) n) ≡ cond (g || e) (place ∷ n) n
      by true true n fresh = absurd (true≢false (fresh refl))
      by true false n fresh = refl
      by false true n fresh = refl
      by false false n fresh = refl

      each : (c : ℕ) → cond (one.class == c) (place ∷ cond (gives_class (take k permissions) c) (place ∷ f c) (f c)) (cond (gives_class (take k permissions) c) (place ∷ f c) (f c))
          ≡ cond (gives_class (take (k + 1) permissions) c) (place ∷ f c) (f c)
      each c =
          by (gives_class (take k permissions) c) (one.class == c) (f c) (λ e. ap (gives_class (take k permissions)) (sym (eqb-true one.class c e)) ∙ new)
          ∙ ap (λ b. cond b (place ∷ f c) (f c)) (sym (gives-more c))

  -- and of one that isn't
  pub same-chains : (place : ℕ) (f : ℕ → List ℕ) → gives_class (take k permissions) one.class ≡ true
      → ◌≡◌ {A = ℕ → List ℕ} (λ c. cond (gives_class (take k permissions) c) (place ∷ f c) (f c)) (λ c. cond (gives_class (take (k + 1) permissions) c) (place ∷ f c) (f c))
  same-chains place f old = λ i c. cond (each c i) (place ∷ f c) (f c)
    where
      by : (g e : Bool) → (e ≡ true → g ≡ true) → g ≡ (g || e)
      by true e there = refl
      by false true there = there refl
      by false false there = refl

      each : (c : ℕ) → gives_class (take k permissions) c ≡ gives_class (take (k + 1) permissions) c
      each c = by (gives_class (take k permissions) c) (one.class == c) (λ e. ap (gives_class (take k permissions)) (sym (eqb-true one.class c e)) ∙ old) ∙ sym (gives-more c)

  -- the last one is now this one
  pub last-more : IsLast permissions (k + 1) (Some one.class)
  last-more = (omega arith, λ e. let here : k + 1 - 1 ≡ k = omega arith in ap (λ i. (get_or permissions i e).class) here ∙ ap (λ g. g.class) (get_or_default permissions k e d within))

-- ---- the rules of a set

-- a rule is one of one set
pub one-set : {A : Type 0} (p : ResolvedPermissions A) (n m : ℕ) → is_of_set n p ≡ true → is_of_set m p ≡ true → n ≡ m
one-set (permits.OfClass p) n m first second = absurd (true≢false (sym first))
one-set (permits.OfSet s) n m first second = sym (eqb-true s.set n first) ∙ eqb-true s.set m second

module _ {A : Type 0} (rules : List (NumberedRule A)) where
  -- what is told of the rule at a place
  pub set-rule : (set i : ℕ) → is_allow_of_set rules set i ≡ true → (r : NumberedRule A) × (slice_get rules i ≡ Some r) × (is_kind 0 r ≡ true) × (is_of_set set r.permissions ≡ true)
  set-rule set i is =
      let (r, at, both) = is-there (λ r. is_kind 0 r && is_of_set set r.permissions) (slice_get rules i) is in
      let parts = and_parts (is_kind 0 r) (is_of_set set r.permissions) both in
      (r, at, parts.0, parts.1)

  pub set-allows : (set i : ℕ) → is_allow_of_set rules set i ≡ true → is_allow rules i ≡ true
  set-allows set i is = let (r, at, kind, of_set) = set-rule set i is in if-at (is_kind 0) (slice_get rules i) r at ∙ kind

  one-set-at : (n m i : ℕ) → is_allow_of_set rules n i ≡ true → is_allow_of_set rules m i ≡ true → n ≡ m
  one-set-at n m i first second =
      let (r, at, kind, here) = set-rule n i first in
      let (s, there, kind_too, also) = set-rule m i second in
      one-set r.permissions n m here (subst (λ (x : NumberedRule A). is_of_set m x.permissions ≡ true) (same_Some s r (sym there ∙ at)) also)

  -- two rules of a set that a third one is of
  pub set-through : (i j k : ℕ) → AreOfSet rules i j → AreOfSet rules j k → AreOfSet rules i k
  set-through i j k (n, i_is, j_is) (m, j_too, k_is) = (n, i_is, subst (λ s. is_allow_of_set rules s k ≡ true) (sym (one-set-at n m j j_is j_too)) k_is)

  -- the rules of each set, where one more is gone over
  module _ (p : ℕ) (r : NumberedRule A) (at : slice_get rules p ≡ Some r) where
    set-at : (n : ℕ) → is_allow_of_set rules n p ≡ (is_kind 0 r && is_of_set n r.permissions)
    set-at n = if-at (λ x. is_kind 0 x && is_of_set n x.permissions) (slice_get rules p) r at

    set-from : (n : ℕ) → rules_of_set rules p n ≡ cond (is_allow_of_set rules n p) (p ∷ rules_of_set rules (p + 1) n) (rules_of_set rules (p + 1) n)
    set-from n = by (is_allow_of_set rules n p) refl
      where
        low : p < length rules
        low = slice_get_within rules p r at

        by : (b : Bool) → is_allow_of_set rules n p ≡ b → rules_of_set rules p n ≡ cond b (p ∷ rules_of_set rules (p + 1) n) (rules_of_set rules (p + 1) n)
        by true is = hits-here (is_allow_of_set rules n) (length rules) p low is
        by false is = hits-past (is_allow_of_set rules n) (length rules) p low is

    -- a rule that is of none
    pub sets-past : ((n : ℕ) → (is_kind 0 r && is_of_set n r.permissions) ≡ false) → rules_of_set rules (p + 1) ≡ rules_of_set rules p
    sets-past none = λ i n. each n i
      where
        each : (n : ℕ) → rules_of_set rules (p + 1) n ≡ rules_of_set rules p n
        each n = sym (ap (λ b. cond b (p ∷ rules_of_set rules (p + 1) n) (rules_of_set rules (p + 1) n)) (set-at n ∙ none n)) ∙ sym (set-from n)

    -- an allow rule of a set
    pub sets-here : (set : ℕ) → is_kind 0 r ≡ true → ((n : ℕ) → is_of_set n r.permissions ≡ (set == n))
        → ◌≡◌ {A = ℕ → List ℕ} (λ n. cond (set == n) (p ∷ rules_of_set rules (p + 1) n) (rules_of_set rules (p + 1) n)) (rules_of_set rules p)
    sets-here set kind same = λ i n. each n i
      where
        each : (n : ℕ) → cond (set == n) (p ∷ rules_of_set rules (p + 1) n) (rules_of_set rules (p + 1) n) ≡ rules_of_set rules p n
        each n =
            sym (ap (λ b. cond b (p ∷ rules_of_set rules (p + 1) n) (rules_of_set rules (p + 1) n)) (set-at n ∙ (λ i. kind i && same n i))) ∙ sym (set-from n)

-- the number of a set is below that of the names
pub set-below : {A : Type 0} (n : ℕ) (r : NumberedRule A) (s : SetPermissions A) → is_rule_below n r ≡ true → r.permissions ≡ permits.OfSet s → s.set < n
set-below n r s below is =
    let first = and_parts (is_element_below n r.source) _ below in
    let second = and_parts (is_target_below n r.target) _ first.1 in
    let third : are_permissions_below n (permits.OfSet s) ≡ true = ap (are_permissions_below n) (sym is) ∙ second.1 in
    ltb-true s.set n (and_parts (nat_lt s.set n) _ third).0

-- ---- the heads of classes

pub gives-from : (list : List ClassPermission) (c : ℕ) → gives_class list c ≡ true → (g : ClassPermission) × Contains list g × (g.class ≡ c)
gives-from list c some = by (Any-from_list_any (λ g. g.class == c) list some)
  where
    by : (k : ℕ) × (g : ClassPermission) × (k < length list) × (get_or list k g ≡ g) × ((g.class == c) ≡ true) → (g : ClassPermission) × Contains list g × (g.class ≡ c)
    by (k, g, low, is, same) = (g, (k, low, is), eqb-true g.class c same)

pub gives-to : (list : List ClassPermission) (c : ℕ) (g : ClassPermission) → Contains list g → g.class ≡ c → gives_class list c ≡ true
gives-to list c g (k, low, is) same = list_any_at (λ x. x.class == c) list k g low (eq-eqb (get_or list k g).class c (ap (λ x. x.class) is ∙ same))

sorted-above : (p : ℕ) (hs : List ℕ) → ((h : ℕ) → Contains hs h → p + 1 ≤ h) → IsStrictlySortedBy nat_cmp hs → IsStrictlySortedBy nat_cmp (p ∷ hs)
unfolding IsStrictlySortedBy
sorted-above p hs above rising = (
  recursion_from_All (λ h. nat_cmp p h ≡ Less) hs (all_from_contains (λ h. nat_cmp p h ≡ Less) hs (λ h there. let high = above h there in less p h (omega (arith, high)))),
  rising,
)

module _ {A : Type 0} (rules : List (NumberedRule A)) (lists : List (List ClassPermission)) (p : ℕ) (heads : ℕ → List ℕ) (are : AreHeads rules lists (p + 1) heads) where
  -- an allow rule is put in for its classes
  abbrev pub with_head : ℕ → List ℕ
  with_head c = cond (gives_class (given_at rules lists p) c) (p ∷ heads c) (heads c)

  head-cases : (b : Bool) (c h : ℕ) → Contains (cond b (p ∷ heads c) (heads c)) h → ((b ≡ true) × (p ≡ h)) ⊎ Contains (heads c) h
  head-cases true c h there = by (contains_to (p ∷ heads c) h there)
    where
      by : (p ≡ h) ⊎ AnyByRecursion (λ x. x ≡ h) (heads c) → ((true ≡ true) × (p ≡ h)) ⊎ Contains (heads c) h
      by (inl same) = inl (refl, same)
      by (inr later) = inr (contains_from (heads c) h later)
  head-cases false c h there = inr there

  head-later : (b : Bool) (c h : ℕ) → Contains (heads c) h → Contains (cond b (p ∷ heads c) (heads c)) h
  head-later true c h there = contains_from (p ∷ heads c) h (inr (contains_to (heads c) h there))
  head-later false c h there = there

  pub head-more : is_allow rules p ≡ true → AreHeads rules lists p with_head
  head-more allows = record {
    rising = λ c. rise (gives_class (given_at rules lists p) c) c;
    from_on = λ c h there. elim (head-cases (gives_class (given_at rules lists p) c) c h there) [
      | inl here ↦ let same = here.1 in omega (arith, same)
      | inr later ↦ let high = are.from_on c h later in omega (arith, high)
    ];
    sound = λ c h there. elim (head-cases (gives_class (given_at rules lists p) c) c h there) [
      | inl here ↦ subst (λ k. is_allow_of rules lists c k ≡ true) here.1 (and_from (is_allow rules p) (gives_class (given_at rules lists p) c) allows here.0)
      | inr later ↦ are.sound c h later
    ];
    complete = λ c j from is. elim (cases_eq j p) [
      | inl same ↦
          let gives = (and_parts (is_allow rules p) (gives_class (given_at rules lists p) c) (subst (λ k. is_allow_of rules lists c k ≡ true) same is)).1 in
          (p, subst (λ b. Contains (cond b (p ∷ heads c) (heads c)) p) (sym gives) (contains_from (p ∷ heads c) p (inl refl)), inl (sym same))
      | inr apart ↦
          let (h, there, stands) = are.complete c j (omega (arith, from, apart)) is in
          (h, head-later (gives_class (given_at rules lists p) c) c h there, stands)
    ];
  }
    where
      rise : (b : Bool) (c : ℕ) → IsStrictlySortedBy nat_cmp (cond b (p ∷ heads c) (heads c))
      rise true c = sorted-above p (heads c) (are.from_on c) (are.rising c)
      rise false c = are.rising c

  -- another one of its set stands for a rule
  pub head-same : DoAgree rules lists → (k : ℕ) → p + 1 ≤ k → AreOfSet rules p k → AreHeads rules lists p heads
  head-same agree k high (set, p_is, k_is) = record {
    rising = are.rising;
    from_on = λ c h there. let above = are.from_on c h there in omega (arith, above);
    sound = are.sound;
    complete = λ c j from is. elim (cases_eq j p) [
      | inl same ↦ subst (λ i. (h : ℕ) × Contains (heads c) h × ((h ≡ i) ⊎ AreOfSet rules h i)) (sym same) (by c (subst (λ i. is_allow_of rules lists c i ≡ true) same is))
      | inr apart ↦ are.complete c j (omega (arith, from, apart)) is
    ];
  }
    where
      by : (c : ℕ) → is_allow_of rules lists c p ≡ true → (h : ℕ) × Contains (heads c) h × ((h ≡ p) ⊎ AreOfSet rules h p)
      by c is =
          let gives = (and_parts (is_allow rules p) (gives_class (given_at rules lists p) c) is).1 in
          let (g, there, same) = gives-from (given_at rules lists p) c gives in
          let also = gives-to (given_at rules lists k) c g (agree p k (set, p_is, k_is) g there) same in
          let (h, at, stands) = are.complete c k high (and_from (is_allow rules k) (gives_class (given_at rules lists k) c) (set-allows rules set k k_is) also) in
          (h, at, inr (for h stands))
        where
          for : (h : ℕ) → (h ≡ k) ⊎ AreOfSet rules h k → AreOfSet rules h p
          for h (inl same) = (set, subst (λ i. is_allow_of_set rules set i ≡ true) (sym same) k_is, p_is)
          for h (inr of_set) = set-through rules h k p of_set (set, k_is, p_is)

-- another rule than an allow rule is no head
pub head-past : {A : Type 0} (rules : List (NumberedRule A)) (lists : List (List ClassPermission)) (p : ℕ) (heads : ℕ → List ℕ) → is_allow rules p ≡ false → AreHeads rules lists (p + 1) heads → AreHeads rules lists p heads
head-past rules lists p heads other are = record {
  rising = are.rising;
  from_on = λ c h there. let above = are.from_on c h there in omega (arith, above);
  sound = are.sound;
  complete = λ c j from is. elim (cases_eq j p) [
    | inl same ↦
        absurd (true≢false (sym (and_parts (is_allow rules p) (gives_class (given_at rules lists p) c) (subst (λ i. is_allow_of rules lists c i ≡ true) same is)).0 ∙ other))
    | inr apart ↦ are.complete c j (omega (arith, from, apart)) is
  ];
}

-- ---- the index, where a rule is gone over

module _ {A : Type 0} (rules : List (NumberedRule A)) (lists : List (List ClassPermission)) (p : ℕ) (r : NumberedRule A) (at : slice_get rules p ≡ Some r)
    (given : List ClassPermission) (given_is : given_at rules lists p ≡ given) (old new : ClassIndex A) (is : IsIndexFrom rules lists (p + 1) old) where
  allows-at : is_kind 0 r ≡ true → is_allow rules p ≡ true
  allows-at kind = if-at (is_kind 0) (slice_get rules p) r at ∙ kind

  -- chains with a head more
  with-given : (first : List (Option ℕ)) (links : List Link) → AreChains (λ c. cond (gives_class given c) (p ∷ is.heads c) (is.heads c)) first links
      → AreChains (with_head rules lists p is.heads is.are) first links
  with-given first links chains = subst (λ l. AreChains (λ c. cond (gives_class l c) (p ∷ is.heads c) (is.heads c)) first links) (sym given_is) chains

  -- an allow rule of a class
  pub index-of-class : is_kind 0 r ≡ true → ((n : ℕ) → is_of_set n r.permissions ≡ false)
      → ((f : ℕ → List ℕ) → AreChains f old.first.items old.links.items → AreChains (λ c. cond (gives_class given c) (p ∷ f c) (f c)) new.first.items new.links.items)
      → ((f : ℕ → List ℕ) (others : List (Option ℕ)) → AreChains f others old.links.items → AreChains f others new.links.items)
      → new.of_set.items ≡ old.of_set.items → IsIndexFrom rules lists p new
  index-of-class kind none classes sets same = record {
    heads = with_head rules lists p is.heads is.are;
    are = head-more rules lists p is.heads is.are (allows-at kind);
    classes = with-given new.first.items new.links.items (classes is.heads is.classes);
    sets =
        subst (λ l. AreChains (rules_of_set rules p) l new.links.items) (sym same)
        (subst (λ f. AreChains f old.of_set.items new.links.items) (sets-past rules p r at (λ n. (λ i. is_kind 0 r && none n i) ∙ and-false (is_kind 0 r)))
        (sets (rules_of_set rules (p + 1)) old.of_set.items is.sets));
  }

  -- the last allow rule of a set
  pub index-new-set : (set : ℕ) (mid_first mid_of_set : List (Option ℕ)) (mid_links : List Link) → is_kind 0 r ≡ true → ((n : ℕ) → is_of_set n r.permissions ≡ (set == n))
      → ((f : ℕ → List ℕ) → AreChains f old.first.items old.links.items → AreChains (λ c. cond (gives_class given c) (p ∷ f c) (f c)) mid_first mid_links)
      → ((f : ℕ → List ℕ) (others : List (Option ℕ)) → AreChains f others old.links.items → AreChains f others mid_links)
      → mid_of_set ≡ old.of_set.items
      → ((f : ℕ → List ℕ) → AreChains f mid_of_set mid_links → AreChains (λ n. cond (set == n) (p ∷ f n) (f n)) new.of_set.items new.links.items)
      → ((f : ℕ → List ℕ) (others : List (Option ℕ)) → AreChains f others mid_links → AreChains f others new.links.items)
      → new.first.items ≡ mid_first → IsIndexFrom rules lists p new
  index-new-set set mid_first mid_of_set mid_links kind of_set classes kept same put also first_is = record {
    heads = with_head rules lists p is.heads is.are;
    are = head-more rules lists p is.heads is.are (allows-at kind);
    classes =
        subst (λ l. AreChains (with_head rules lists p is.heads is.are) l new.links.items) (sym first_is)
        (also (with_head rules lists p is.heads is.are) mid_first (with-given mid_first mid_links (classes is.heads is.classes)));
    sets =
        subst (λ f. AreChains f new.of_set.items new.links.items) (sets-here rules p r at set kind of_set)
        (put (rules_of_set rules (p + 1)) (subst (λ l. AreChains (rules_of_set rules (p + 1)) l mid_links) (sym same) (kept (rules_of_set rules (p + 1)) old.of_set.items is.sets)));
  }

  -- another one of a set
  pub index-old-set : (set : ℕ) (next : Option ℕ) → is_kind 0 r ≡ true → ((n : ℕ) → is_of_set n r.permissions ≡ (set == n)) → DoAgree rules lists
      → set < length old.of_set.items → next ≡ get_or old.of_set.items set next → is_some next ≡ true
      → ((f : ℕ → List ℕ) → AreChains f old.of_set.items old.links.items → AreChains (λ n. cond (set == n) (p ∷ f n) (f n)) new.of_set.items new.links.items)
      → ((f : ℕ → List ℕ) (others : List (Option ℕ)) → AreChains f others old.links.items → AreChains f others new.links.items)
      → new.first.items ≡ old.first.items → IsIndexFrom rules lists p new
  index-old-set set next kind of_set agree within next_is some put also first_is =
      let there = first-of (rules_of_set rules (p + 1) set) next some (subst (IsChain old.links.items (rules_of_set rules (p + 1) set)) (get_or_default old.of_set.items set None next within ∙ sym next_is) (is.sets set within)) in
      let hit = hits-hold (is_allow_of_set rules set) (length rules - (p + 1)) (p + 1) there.0 there.1 in
      let here : is_allow_of_set rules set p ≡ true =
      if-at (λ x. is_kind 0 x && is_of_set set x.permissions) (slice_get rules p) r at ∙ and_from (is_kind 0 r) (is_of_set set r.permissions) kind (of_set set ∙ eq-eqb set set refl) in
      record {
        heads = is.heads;
        are = head-same rules lists p is.heads is.are agree there.0 hit.0 (set, here, hit.2);
        classes = subst (λ l. AreChains is.heads l new.links.items) (sym first_is) (also is.heads old.first.items is.classes);
        sets = subst (λ f. AreChains f new.of_set.items new.links.items) (sets-here rules p r at set kind of_set) (put (rules_of_set rules (p + 1)) is.sets);
      }
    where
      first-of : (ns : List ℕ) (o : Option ℕ) → is_some o ≡ true → IsChain old.links.items ns o → (k : ℕ) × AnyByRecursion (λ x. x ≡ k) ns
      first-of [] o there none = absurd (true≢false (sym there ∙ ap is_some none))
      first-of (k ∷ ns) o there chain = (k, inl refl)

  -- another rule than an allow rule
  pub index-past : is_kind 0 r ≡ false → old ≡ new → IsIndexFrom rules lists p new
  index-past other same = subst (IsIndexFrom rules lists p) same (record {
    heads = is.heads;
    are = head-past rules lists p is.heads (if-at (is_kind 0) (slice_get rules p) r at ∙ other) is.are;
    classes = is.classes;
    sets =
        subst (λ f. AreChains f old.of_set.items old.links.items)
        (sets-past rules p r at (λ n. ap (λ b. b && is_of_set n r.permissions) other)) is.sets;
  })

none-rise : IsStrictlySortedBy nat_cmp []
unfolding IsStrictlySortedBy
none-rise = tt

-- nothing is in at first
pub empty-index : {A : Type 0} (rules : List (NumberedRule A)) (lists : List (List ClassPermission)) (index : ClassIndex A) (names place : ℕ) → length rules ≤ place
    → index.first.items ≡ replicate names None → index.of_set.items ≡ replicate names None → IsIndexFrom rules lists place index
empty-index rules lists index names place past first_is of_set_is = record {
  heads = λ c. [];
  are = record {
    rising = λ c. none-rise;
    from_on = λ c h there. absurd (contains_to [] h there);
    sound = λ c h there. absurd (contains_to [] h there);
    complete = λ c j from is. absurd (let low = allow-within j (and_parts (is_allow rules j) (gives_class (given_at rules lists j) c) is).0 in omega (arith, past, from, low));
  };
  classes = λ c low.
      ap (λ l. get_or l c None) first_is
      ∙ get_or-replicate names c None None (let long = ap length first_is in let len = length-replicate {A = Option ℕ} names None in omega (arith, low, long, len));
  sets = λ n low.
      let none : length rules - place ≡ 0 = omega (arith, past) in
      subst (λ k. IsChain index.links.items (hits (is_allow_of_set rules n) place k) (get_or index.of_set.items n None)) (sym none)
      (ap (λ l. get_or l n None) of_set_is
      ∙ get_or-replicate names n None None (let long = ap length of_set_is in let len = length-replicate {A = Option ℕ} names None in omega (arith, low, long, len)));
}
  where
    allow-within : (j : ℕ) → is_allow rules j ≡ true → j < length rules
    allow-within j is = let (r, at, kind) = is-there (is_kind 0) (slice_get rules j) is in slice_get_within rules j r at

-- what no something passes for is passed by nothing alone
pub only-none : (P : Option ℕ → Type 0) → ((x : ℕ) → P (Some x) → ⊥) → (o : Option ℕ) → P o → o ≡ None
only-none P never None is = refl
only-none P never (Some x) is = absurd (never x is)
