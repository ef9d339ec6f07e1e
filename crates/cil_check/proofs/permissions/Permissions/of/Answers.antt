use Rattle.cil_check.proofs.Common.{◌≡◌, ◌≤◌, ◌<◌, ◌+◌, ◌&&◌, ℕ, List, [], ◌∷◌, ◌++◌, Some, map, length, sym, ap, ◌∙◌, subst, arith, list_any, AllByRecursion, take_all, get_or_from_slice_get, has_name, texts, distinct, own_permissions, le-ltb, Placed, Form, word_at, permissions_in, kind_of, AreNumbersOf, texts_of, IsOf, IsOneName, is_listed, HaveWords, lists_own}
use Rattle.std.proofs.Common.{slice_get}
use Rattle.cil_check.proofs.SeenLemmas.{there-at}
use Rattle.cil_check.proofs.PermissionLemmas.{HaveListedBelow, own-listed, none-listed, listed-next, listed-stay, listed-all, none-below, lists-next}
use Rattle.cil_check.proofs.permissions.Permissions.of.Goals as goal
use Rattle.cil_check.proofs.permissions.Permissions.of.Goals.{then-lists_own+in_ok-add_words, else-lists_own}

pub loop-i-init : goal.loop-i-init
loop-i-init g c = record {
  listed = λ policy is j s at n less.
      ap (list_any (is_listed j n)) c.new.ensures.empty
      ∙ ap (λ b. b && has_name (texts (own_permissions s.form)) (word_at c.args.bound.now.policy.now.names n)) (sym (le-ltb j 0 (omega arith)));
  open_list = ap (λ w. w.1) c.in_ok-with_capacity.ensures;
  words = λ policy is. ap (λ w. map (map (slice_get c.args.bound.now.policy.now.names)) w.0) c.in_ok-with_capacity.ensures;
}

pub add_words-requires : goal.add_words-requires
add_words-requires g c =
    let (policy, is) = c.requires in
    let count = c.len-count.ensures policy is in
    let less : c.loop-i.i < length policy = omega (arith, count) in
    let (t, at) = there-at policy c.loop-i.i less in
    let seen = c.seen-seen.ensures.seen policy t is at in
    (permissions_in seen.f.form, c.permissions.ensures (texts_of c.seen-seen.result.«module».now) seen.f seen.shown)

pub loop-i-preserved : goal.loop-i-preserved
loop-i-preserved g c = record {
  listed = λ policy is.
      let (t, at) = there-at policy i (less policy is) in
      elim c.if-lists_own.branch [
        | then-lists_own+in_ok-add_words w ↦
            let seen = w.seen-seen.ensures.seen policy t is at in
            let own = ap permissions_in seen.form ∙ own-listed t.form (sym (kind policy is t at) ∙ w.if-lists_own.true) in
            subst (λ p. HaveListedBelow names policy (i + 1) p.listed.keys) (sym w.permissions-is)
            (listed-next names policy i t (permissions_in seen.f.form) c.loop-i.permissions.listed.keys w.add_words.new.self.listed.keys at own
            (w.in_ok-add_words.ensures.listed names (permissions_in seen.f.form) is.bound.stands.numbered.names_distinct (w.seen-seen.ensures.worded policy is)
            (w.permissions.ensures (texts_of w.seen-seen.result.«module».now) seen.f seen.shown) (single policy is t at seen.f.form seen.form)) (c.loop-i.invariant.listed policy is))
        | else-lists_own w ↦
            subst (λ p. HaveListedBelow names policy (i + 1) p.listed.keys) (sym w.permissions-is)
            (listed-stay names policy i t c.loop-i.permissions.listed.keys at (none-listed t.form (sym (kind policy is t at) ∙ w.if-lists_own.false)) (c.loop-i.invariant.listed policy is))
      ];
  open_list = ap (λ w. w.1) c.in_ok-close.ensures.ok;
  words = λ policy is.
      let (t, at) = there-at policy i (less policy is) in
      lists-next names policy i t c.loop-i.permissions.words.0 c.close.new.self.0 c.if-lists_own.permissions.words.1 at (ap (λ w. w.0) c.in_ok-close.ensures.ok ∙ ap (λ l. l ++ c.if-lists_own.permissions.words.1 ∷ []) closed)
      (numbered policy is t at) (c.loop-i.invariant.words policy is);
}
  where
    names : List (List ℕ)
    names = c.args.bound.now.policy.now.names

    i : ℕ
    i = c.loop-i.i

    less : (policy : List Placed) → IsOf c.args.bound.now policy → i < length policy
    less policy is = let count = c.len-count.ensures policy is in omega (arith, count)

    kind : (policy : List Placed) → IsOf c.args.bound.now policy → (t : Placed) → slice_get policy i ≡ Some t → c.lists_own.result ≡ lists_own (kind_of t.form)
    kind policy is t at = c.lists_own.ensures ∙ ap lists_own (c.kind.ensures policy t is at)

    single : (policy : List Placed) → IsOf c.args.bound.now policy → (t : Placed) → slice_get policy i ≡ Some t → (form : Form) → form ≡ t.form → AllByRecursion IsOneName (permissions_in form)
    single policy is t at form same =
        subst (λ f. AllByRecursion IsOneName (permissions_in f)) (sym same) (is.spelt t (i, less policy is, get_or_from_slice_get policy i t t at)).permissions

    closed : c.if-lists_own.permissions.words.0 ≡ c.loop-i.permissions.words.0
    closed = elim c.if-lists_own.branch [
      | then-lists_own+in_ok-add_words w ↦ ap (λ p. p.words.0) w.permissions-is ∙ w.in_ok-add_words.ensures.closed
      | else-lists_own w ↦ ap (λ p. p.words.0) w.permissions-is
    ]

    numbered : (policy : List Placed) → IsOf c.args.bound.now policy → (t : Placed) → slice_get policy i ≡ Some t → AreNumbersOf names c.if-lists_own.permissions.words.1 (distinct (texts (own_permissions t.form)))
    numbered policy is t at = elim c.if-lists_own.branch [
      | then-lists_own+in_ok-add_words w ↦
          let seen = w.seen-seen.ensures.seen policy t is at in
          let own = ap permissions_in seen.form ∙ own-listed t.form (sym (kind policy is t at) ∙ w.if-lists_own.true) in
          ap (λ p. map (slice_get names) p.words.1) w.permissions-is
          ∙ w.in_ok-add_words.ensures.words names (permissions_in seen.f.form) is.bound.stands.numbered.names_distinct (w.seen-seen.ensures.worded policy is)
          (w.permissions.ensures (texts_of w.seen-seen.result.«module».now) seen.f seen.shown) (single policy is t at seen.f.form seen.form)
          (none-below names policy i t c.loop-i.permissions.listed.keys at (c.loop-i.invariant.listed policy is)) c.loop-i.invariant.open_list
          ∙ ap (λ l. map Some (distinct (texts l))) own
      | else-lists_own w ↦
          ap (λ p. map (slice_get names) p.words.1) w.permissions-is ∙ ap (map (slice_get names)) c.loop-i.invariant.open_list
          ∙ ap (λ l. map Some (distinct (texts l))) (sym (none-listed t.form (sym (kind policy is t at) ∙ w.if-lists_own.false)))
    ]

pub returns : goal.returns
returns g c = record {
  listed = λ policy is.
      let count = c.len-count.ensures policy is in
      let past : length policy ≤ c.loop-i.i = omega (arith, count) in
      listed-all c.args.bound.now.policy.now.names policy c.loop-i.i c.loop-i.permissions.listed.keys past (c.loop-i.invariant.listed policy is);
  words = λ policy is.
      let count = c.len-count.ensures policy is in
      subst (λ l. HaveWords c.args.bound.now.policy.now.names l c.loop-i.permissions.words.0) (take_all c.loop-i.i policy (omega (arith, count))) (c.loop-i.invariant.words policy is);
}
