use Rattle.cil_violations.proofs.Common.{◌∙◌, ◌+◌, ◌∷◌, cond, length, get_or, take, ap, refl, sym, subst, arith, get_or_default, take_all, ClassPermission, AreChains, gives_class}
use Rattle.cil_violations.proofs.IndexLemmas.{IsLast, apart-last, more-chains, same-chains, same-last, last-more, new-class, old-class}
use Rattle.cil_violations.specs.declared.index.ClassIndex.{ClassIndex}
use Rattle.cil_violations.proofs.index.ClassIndex.put_head.Goals as goal
use Rattle.cil_violations.proofs.index.ClassIndex.put_head.Goals.{then-ne+in_ok-put_link, else-ne}

abbrev none : ClassPermission
none = record { class = 0; permission = 0 }

pub put_link-requires : goal.put_link-requires
put_link-requires g c =
    let ps = c.args.permissions.now in
    let k = c.loop-permission.permission-index in
    let low = c.requires.below (get_or ps k none) (k, c.loop-permission-test.true, get_or_default ps k (get_or ps k none) none c.loop-permission-test.true) in
    let long = c.loop-permission.invariant.len in
    omega (arith, low, long)

pub loop-permission-preserved : goal.loop-permission-preserved
loop-permission-preserved g c =
    let ps = c.args.permissions.now in
    let k = c.loop-permission.permission-index in
    let m = c.loop-permission.invariant in
    elim c.if-ne.branch [
      | then-ne+in_ok-put_link w ↦
          let fresh = new-class ps k none c.loop-permission-test.true c.requires.rising c.loop-permission.last m.last (apart-last c.loop-permission.last (get_or ps k none).class w.if-ne.ensures) in
          record {
            last = subst (IsLast ps (k + 1)) (sym w.last-is) (last-more ps k none c.loop-permission-test.true);
            classes = λ f are.
                subst (λ (s : ClassIndex _). AreChains (λ n. cond (gives_class (take (k + 1) ps) n) (c.args.place ∷ f n) (f n)) s.first.items s.links.items) (sym w.self-is)
                (subst (λ h. AreChains h w.put_link.new.first.items w.put_link.new.links.items) (more-chains ps k none c.loop-permission-test.true c.args.place f fresh)
                (w.in_ok-put_link.ensures.chains (λ n. cond (gives_class (take k ps) n) (c.args.place ∷ f n) (f n)) (m.classes f are)));
            sets = λ f others are. subst (λ (s : ClassIndex _). AreChains f others s.links.items) (sym w.self-is) (w.in_ok-put_link.ensures.others f others (m.sets f others are));
            same = ap (λ (s : ClassIndex _). s.of_set.items) w.self-is ∙ m.same;
            len = ap (λ (s : ClassIndex _). length s.first.items) w.self-is ∙ w.in_ok-put_link.ensures.len ∙ m.len;
          }
      | else-ne w ↦
          let same = same-last c.loop-permission.last (get_or ps k none).class w.if-ne.ensures in
          let old = old-class ps k none c.loop-permission-test.true (get_or ps k none).class (subst (IsLast ps k) same m.last) refl in
          record {
            last = subst (IsLast ps (k + 1)) (sym (w.last-is ∙ same)) (last-more ps k none c.loop-permission-test.true);
            classes = λ f are.
                subst (λ (s : ClassIndex _). AreChains (λ n. cond (gives_class (take (k + 1) ps) n) (c.args.place ∷ f n) (f n)) s.first.items s.links.items) (sym w.self-is)
                (subst (λ h. AreChains h c.loop-permission.self.first.items c.loop-permission.self.links.items) (same-chains ps k none c.loop-permission-test.true c.args.place f old) (m.classes f are));
            sets = λ f others are. subst (λ (s : ClassIndex _). AreChains f others s.links.items) (sym w.self-is) (m.sets f others are);
            same = ap (λ (s : ClassIndex _). s.of_set.items) w.self-is ∙ m.same;
            len = ap (λ (s : ClassIndex _). length s.first.items) w.self-is ∙ m.len;
          }
    ]

pub returns-clause-classes : goal.returns-clause-classes
returns-clause-classes g c =
    let ps = c.args.permissions.now in
    let all = take_all c.loop-permission.permission-index ps c.loop-permission-test.false in
    λ f are. subst (λ l. AreChains (λ n. cond (gives_class l n) (c.args.place ∷ f n) (f n)) c.loop-permission.self.first.items c.loop-permission.self.links.items) all (c.loop-permission.invariant.classes f are)
