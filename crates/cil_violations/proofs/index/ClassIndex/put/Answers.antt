use Rattle.cil_violations.proofs.Common.{◌∷◌, ◌∙◌, ◌==◌, ℕ, List, Option, ap, cond, refl, subst, sym, AreChains, gives_class, is_of_set}
use Rattle.cil_violations.specs.declared.index.ClassIndex.{ClassIndex}
use Rattle.cil_violations.proofs.IndexLemmas.{index-new-set, index-of-class, index-old-set, set-below}
use Rattle.cil_violations.proofs.ResultLemmas.{ok-both}
use Rattle.cil_violations.proofs.index.ClassIndex.put.Goals as goal
use Rattle.cil_violations.proofs.index.ClassIndex.put.Goals.{then-is_none+in_ok-put_head-in-OfSet, else-is_none}

pub returns-in-OfClass-clause-index : goal.returns-in-OfClass-clause-index
returns-in-OfClass-clause-index g c =
    let put = c.put_head in
    ok-both put.result
    (λ classes sets rules lists at given agree is.
    index-of-class rules lists c.args.place c.args.rule.now at c.args.permissions.now given c.args.self.now put.new.self is c.requires.allows
    (λ n. ap (is_of_set n) c.in-OfClass.is) classes sets put.ensures.same)
    put.ensures.classes put.ensures.sets

pub returns-after-is_none-clause-index : goal.returns-after-is_none-clause-index
returns-after-is_none-clause-index g c =
    let put = c.put_link in
    let old = c.args.self.now in
    let mid = c.if-is_none.self in
    let new : ClassIndex _ = record { first = mid.first; of_set = put.new.first; links = put.new.links } in
    let set = c.in-OfSet.set.set in
    let ps = c.args.permissions.now in
    elim c.if-is_none.branch [
      | then-is_none+in_ok-put_head-in-OfSet w ↦
          let head = w.put_head-then-is_none in
          ok-both put.result
          (λ chains others rules lists at given agree is.
          index-new-set rules lists c.args.place c.args.rule.now at ps given old new is set mid.first.items mid.of_set.items mid.links.items c.requires.allows
          (λ n. ap (is_of_set n) c.in-OfSet.is)
          (subst (λ (s : ClassIndex _). (f : ℕ → List ℕ) → AreChains f old.first.items old.links.items → AreChains (λ n. cond (gives_class ps n) (c.args.place ∷ f n) (f n)) s.first.items s.links.items)
          (sym w.self-is) w.in_ok-put_head-in-OfSet.ensures.classes)
          (subst (λ (s : ClassIndex _). (f : ℕ → List ℕ) (others : List (Option ℕ)) → AreChains f others old.links.items → AreChains f others s.links.items) (sym w.self-is) w.in_ok-put_head-in-OfSet.ensures.sets)
          (ap (λ (s : ClassIndex _). s.of_set.items) w.self-is ∙ head.ensures.same) chains others refl)
          put.ensures.chains put.ensures.others
      | else-is_none w ↦
          ok-both put.result
          (λ chains others rules lists at given agree is.
          index-old-set rules lists c.args.place c.args.rule.now at ps given old new is set c.index.result.now c.requires.allows (λ n. ap (is_of_set n) c.in-OfSet.is) agree
          (set-below _ c.args.rule.now c.in-OfSet.set c.requires.rule c.in-OfSet.is) c.index.ensures w.if-is_none.ensures
          (subst (λ (s : ClassIndex _). (f : ℕ → List ℕ) → AreChains f s.of_set.items s.links.items → AreChains (λ n. cond (set == n) (c.args.place ∷ f n) (f n)) put.new.first.items put.new.links.items) w.self-is chains)
          (subst (λ (s : ClassIndex _). (f : ℕ → List ℕ) (others : List (Option ℕ)) → AreChains f others s.links.items → AreChains f others put.new.links.items) w.self-is others)
          (ap (λ (s : ClassIndex _). s.first.items) w.self-is))
          put.ensures.chains put.ensures.others
    ]
