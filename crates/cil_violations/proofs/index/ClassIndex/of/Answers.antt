use Rattle.cil_violations.proofs.Common.{◌≡◌, ◌∙◌, ◌-◌, ◌+◌, ◌<◌, Contains, None, Some, length, replicate, slice_get, refl, sym, ap, subst, arith, length-replicate, Option, ℕ, slice_get_read, is_rule_below, is_kind, given_at, AreInOrder, IsIndexFrom, false}
use Rattle.cil_violations.specs.declared.index.ClassIndex.{ClassIndex}
use Rattle.cil_violations.proofs.IndexLemmas.{derived-allow, empty-index, index-past, only-none}
use Rattle.cil_violations.proofs.MeaningLemmas.{agree, classes-low, given-rising}
use Rattle.cil_violations.proofs.TestLemmas.{all-at}
use Rattle.cil_violations.proofs.index.ClassIndex.of.Given as given
use Rattle.cil_violations.proofs.index.ClassIndex.of.Goals as goal
use Rattle.cil_violations.proofs.index.ClassIndex.of.Goals.{After-index-rules-place}

pub put-requires-clause-rising : goal.put-requires-clause-rising
put-requires-clause-rising g c =
    let r = c.args.resolved.now in
    let lists = c.args.permissions.now.0 in
    let k = c.loop-place.place - 1 in
    let low : k < length r.rules.items = (let long = ap length c.rules-rules.ensures.rules in let few = c.loop-place.auto.place in let some = c.loop-place-test.true in omega (arith, long, few, some)) in
    subst AreInOrder (sym (c.given_at.ensures ∙ ap (λ l. given_at l lists k) c.rules-rules.ensures.rules)) (given-rising r lists c.requires k low)

pub put-requires-clause-below : goal.put-requires-clause-below
put-requires-clause-below g c = λ x there.
    let r = c.args.resolved.now in
    let lists = c.args.permissions.now.0 in
    let k = c.loop-place.place - 1 in
    let low : k < length r.rules.items = (let long = ap length c.rules-rules.ensures.rules in let few = c.loop-place.auto.place in let some = c.loop-place-test.true in omega (arith, long, few, some)) in
    let below = classes-low r lists c.requires k low x (subst (λ l. Contains l x) (c.given_at.ensures ∙ ap (λ l. given_at l lists k) c.rules-rules.ensures.rules) there) in
    let room = c.loop-place.invariant.classes in
    omega (arith, below, room)

pub put-requires-clause-rule : goal.put-requires-clause-rule
put-requires-clause-rule g c =
    let rules = c.rules-rules.result.now in
    let k = c.loop-place.place - 1 in
    let rule = c.index-rules-place.result in
    let at = slice_get_read rules (length rules) k rule refl (let few = c.loop-place.auto.place in let some = c.loop-place-test.true in omega (arith, few, some)) c.index-rules-place.is in
    ap (λ n. is_rule_below n rule) c.loop-place.invariant.sets ∙ all-at (is_rule_below (length c.args.resolved.now.names.items)) rules k rule c.rules-rules.ensures.within at

pub loop-place-init : goal.loop-place-init
loop-place-init g c =
    let first : c.in_ok-vec.field-0.items ≡ replicate c.names_len.result None = c.in_ok-vec.ensures.items_if_clones_equal (only-none _ (λ x some. some)) in
    let of_set : c.in_ok-vec-2.field-0.items ≡ replicate c.names_len-2.result None = c.in_ok-vec-2.ensures.items_if_clones_equal (only-none _ (λ x some. some)) in
    let names = length c.args.resolved.now.names.items in
    let index : ClassIndex _ = record { first = c.in_ok-vec.field-0; of_set = c.in_ok-vec-2.field-0; links = c.in_ok-with_capacity.field-0 } in
    let first_is : c.in_ok-vec.field-0.items ≡ replicate names None = first ∙ ap (λ n. replicate n None) c.names_len.ensures in
    let of_set_is : c.in_ok-vec-2.field-0.items ≡ replicate names None = of_set ∙ ap (λ n. replicate n None) c.names_len-2.ensures in
    record {
      classes = ap length first_is ∙ length-replicate {A = Option ℕ} names None;
      sets = ap length of_set_is ∙ length-replicate {A = Option ℕ} names None;
      holds = empty-index c.args.resolved.now.rules.items c.args.permissions.now.0 index names (length c.rules-rules.result.now) (let long = ap length c.rules-rules.ensures.rules in omega (arith, long)) first_is of_set_is;
    }

-- the rule that is read stands at its place, and those behind it are held so far
rule_at : (g : given.Over) (c : After-index-rules-place g) → slice_get c.args.resolved.now.rules.items (c.loop-place.place - 1) ≡ Some c.index-rules-place.result
rule_at g c =
    let few = c.loop-place.auto.place in
    let some = c.loop-place-test.true in
    let rules = c.rules-rules.result.now in
    ap (λ l. slice_get l (c.loop-place.place - 1)) (sym c.rules-rules.ensures.rules)
    ∙ slice_get_read rules (length rules) (c.loop-place.place - 1) c.index-rules-place.result refl (omega (arith, few, some)) c.index-rules-place.is

held : (g : given.Over) (c : After-index-rules-place g) → IsIndexFrom c.args.resolved.now.rules.items c.args.permissions.now.0 (c.loop-place.place - 1 + 1) c.loop-place.index
held g c =
    let some = c.loop-place-test.true in
    let next : c.loop-place.place ≡ c.loop-place.place - 1 + 1 = omega (arith, some) in
    subst (λ n. IsIndexFrom c.args.resolved.now.rules.items c.args.permissions.now.0 n c.loop-place.index) next c.loop-place.invariant.holds

pub loop-place-preserved-in_ok-put : goal.loop-place-preserved-in_ok-put
loop-place-preserved-in_ok-put g c =
    let r = c.args.resolved.now in
    let lists = c.args.permissions.now.0 in
    let at = (goal.at.loop-place-preserved-in_ok-put g c).After-index-rules-place in
    record {
      classes = c.put.ensures.classes ∙ c.loop-place.invariant.classes;
      sets = c.put.ensures.sets ∙ c.loop-place.invariant.sets;
      holds = c.in_ok-put.ensures.index r.rules.items lists (rule_at g at)
          (sym (c.given_at.ensures ∙ ap (λ l. given_at l lists (c.loop-place.place - 1)) c.rules-rules.ensures.rules)) (agree r lists c.requires) (held g at);
    }

pub loop-place-preserved : goal.loop-place-preserved
loop-place-preserved g c =
    let r = c.args.resolved.now in
    let rule = c.index-rules-place.result in
    let at = (goal.at.loop-place-preserved g c).After-index-rules-place in
    let other : is_kind 0 rule ≡ false = sym (derived-allow rule.kind) ∙ sym c.if-eq.ensures in
    record {
      classes = c.loop-place.invariant.classes;
      sets = c.loop-place.invariant.sets;
      holds = index-past r.rules.items c.args.permissions.now.0 (c.loop-place.place - 1) rule (rule_at g at) (given_at r.rules.items c.args.permissions.now.0 (c.loop-place.place - 1)) refl
          c.loop-place.index c.loop-place.index (held g at) other refl;
    }

pub returns : goal.returns
returns g c =
    let m = c.loop-place.invariant in
    let none : c.loop-place.place ≡ 0 = (let done = c.loop-place-test.false in omega (arith, done)) in
    record {
      classes_len = m.classes;
      sets_len = m.sets;
      holds = subst (λ n. IsIndexFrom c.args.resolved.now.rules.items c.args.permissions.now.0 n c.loop-place.index) none m.holds;
    }
