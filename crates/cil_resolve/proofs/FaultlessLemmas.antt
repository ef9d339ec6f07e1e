-- What holds of the names and words of a policy without faults.
use Rattle.cil_resolve.proofs.Common.{◌≡◌, inl, inr, Bool, true, false, not, ◌&&◌, List, [], ◌∷◌, ◌++◌, map, filter, Contains, Some, is_some, cond, refl, sym, ap, ◌∙◌, subst, true≢false, arith, Contains-append_left, Contains-append_right, Word, Form, Placed, Table, types, classes, leads, has_name, holds_of, references, named_permissions, permissions_of, actual_statement, is_alias, PolicyFaultKind, wrong_kind, alias_unset, IsFaulty, is_unfound, is_lacking, missing_words, kinds_asked, is_of_another_kind, element_words, is_unset, contains-first, contains-other, contains-cases, contains-map, around, IsFaultless}

pub contains-filter : {X : Type 0} (p : X → Bool) (xs : List X) (x : X) → Contains xs x → p x ≡ true → Contains (filter p xs) x
contains-filter p [] x c e = absurd (omega (arith, c.1))
contains-filter {X = X} p (y ∷ ys) x c e = elim (contains-cases y ys x c) [
  | inl same ↦ first (p y) (ap p same ∙ e) same
  | inr more ↦ other (p y) (contains-filter p ys x more e)
]
  where
    first : (b : Bool) → b ≡ true → y ≡ x → Contains (cond b (y ∷ filter p ys) (filter p ys)) x
    first true e same = subst (Contains (y ∷ filter p ys)) same (contains-first y (filter p ys))
    first false e same = absurd (true≢false (sym e))

    other : (b : Bool) → Contains (filter p ys) x → Contains (cond b (y ∷ filter p ys) (filter p ys)) x
    other true more = contains-other y (filter p ys) x more
    other false more = more

-- a Bool that isn't false
not-false : (b : Bool) → (b ≡ false → ⊥) → b ≡ true
not-false true never = refl
not-false false never = absurd (never refl)

module _ (policy : List Placed) (faultless : IsFaultless policy) where
  pub no-faulty : (kind : PolicyFaultKind) (before : List Placed) (s : Placed) (after : List Placed) → policy ≡ before ++ s ∷ after → (word : Word) → IsFaulty kind policy before s word → ⊥
  no-faulty kind before s after split word is =
      faultless.none (record { kind = kind; module_name = s.module_name; at = word.at; word = word.text })
      (record { before = before; s = s; after = after; word = word; split = split; is_faulty = is; is_at = refl })

  module _ (s : Placed) (there : Contains policy s) where
    no-missing : (word : Word) → Contains (missing_words policy s) word → ⊥
    no-missing word is = (let none : Contains [] word = subst (λ l. Contains l word) (faultless.found s there) is in omega (arith, none.1))

    -- each reference leads somewhere
    pub word-found : (table : Table) (word : Word) → Contains (references s.form) (table, word) → is_some (leads policy table s.namespace word.text) ≡ true
    word-found table word is = not-false (is_some (leads policy table s.namespace word.text)) λ e.
        no-missing word
        (Contains-append_left (map (λ r. r.1) (filter (is_unfound policy s.namespace) (references s.form))) (map (λ p. p.1) (filter (is_lacking policy s.namespace) (named_permissions s.form))) word
        (contains-map (λ r. r.1) (filter (is_unfound policy s.namespace) (references s.form)) (table, word)
        (contains-filter (is_unfound policy s.namespace) (references s.form) (table, word) is (ap not e))))

    -- a class that is found has each permission
    pub permission-found : (the_class word : Word) → Contains (named_permissions s.form) (the_class, word) → (t : Placed) → leads policy classes s.namespace the_class.text ≡ Some t
        → has_name (permissions_of policy t) word.text ≡ true
    permission-found the_class word is t led = not-false (has_name (permissions_of policy t) word.text) λ e.
        no-missing word
        (Contains-append_right (map (λ r. r.1) (filter (is_unfound policy s.namespace) (references s.form))) (map (λ p. p.1) (filter (is_lacking policy s.namespace) (named_permissions s.form))) word
        (contains-map (λ p. p.1) (filter (is_lacking policy s.namespace) (named_permissions s.form)) (the_class, word)
        (contains-filter (is_lacking policy s.namespace) (named_permissions s.form) (the_class, word) is
        (ap (holds_of (λ u. not (has_name (permissions_of policy u) word.text))) led ∙ ap not e))))

    -- a reference that has to lead to a thing of a kind does
    pub kind-found : (test : Form → Bool) (word : Word) → Contains (kinds_asked s.form) (test, word) → (t : Placed) → leads policy types s.namespace word.text ≡ Some t → test t.form ≡ true
    kind-found test word is t led = not-false (test t.form) λ e.
        let a = around policy s there in
        no-faulty wrong_kind a.before s a.after a.whole word
        (contains-map (λ r. r.1) (filter (is_of_another_kind policy s.namespace) (kinds_asked s.form)) (test, word)
        (contains-filter (is_of_another_kind policy s.namespace) (kinds_asked s.form) (test, word) is (ap (holds_of (λ u. not (test u.form))) led ∙ ap not e)))

    -- an alias that a rule names has an actual type
    pub alias-set : (word : Word) → Contains (element_words s.form) word → (t : Placed) → leads policy types s.namespace word.text ≡ Some t → is_alias t.form ≡ true
        → is_some (actual_statement policy t) ≡ true
    alias-set word is t led alias = not-false (is_some (actual_statement policy t)) λ e.
        let a = around policy s there in
        no-faulty alias_unset a.before s a.after a.whole word
        (contains-filter (is_unset policy s.namespace) (element_words s.form) word is
        (ap (holds_of (λ u. is_alias u.form && not (is_some (actual_statement policy u)))) led ∙ ap (λ b. b && not (is_some (actual_statement policy t))) alias ∙ ap not e))
