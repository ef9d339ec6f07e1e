use Rattle.cil_violations.proofs.Common.{◌≡◌, ◌∙◌, ◌++◌, ◌+◌, ◌<◌, ◌≤◌, ℕ, List, length, get_or, None, Some, sym, ap, subst, arith, get_or_default, Contains, ClassPermission, IsChain, IsSearch, Search, permissions_at, rules_in}
use Rattle.cil_violations.proofs.IndexLemmas.{same-last}
use Rattle.cil_violations.proofs.MeaningLemmas.{classes-low}
use Rattle.cil_violations.proofs.MetLemmas.{AreGathered, gathered-all, gathered-more, gathered-none, gathered-ordered, gathered-same}
use Rattle.cil_violations.proofs.search.Search.heads.Goals as goal
use Rattle.cil_violations.proofs.search.Search.heads.Goals.{then-ne+in_ok-push_chain, else-ne}

abbrev none : ClassPermission
none = record { class = 0; permission = 0 }

-- the class of a permission of a rule has a place in the index
class-low : {A : Type 0} (s : Search A) (is : IsSearch s) (never : ℕ) → never < length (rules_in s) → (given : List ClassPermission) (k : ℕ) → given ≡ permissions_at s never → k < length given
    → (get_or given k none).class < length s.index.now.first.items
class-low s is never low given k are within =
    let x = get_or given k none in
    let below = classes-low s.resolved.now s.permissions.now.0 is.permissions never low x (subst (λ l. Contains l x) are (k, within, get_or_default given k x none within)) in
    let room = is.index.classes_len in
    omega (arith, below, room)

pub loop-permission-init : goal.loop-permission-init
loop-permission-init g c = λ is. gathered-none is.holds.heads (permissions_at c.args.self.now c.args.never) c.clear.new.self.items c.clear.ensures.items

pub index-first-requires : goal.index-first-requires
index-first-requires g c =
    let s = c.args.self.now in
    let low = class-low s c.requires.search c.args.never c.requires.never c.given-given.result.now c.loop-permission.permission-index c.given-given.ensures c.loop-permission-test.true in
    omega (arith, low, s.index.now.first.ok.0)

pub push_chain-requires : goal.push_chain-requires
push_chain-requires g c =
    let s = c.args.self.now in
    let x = get_or c.given-given.result.now c.loop-permission.permission-index none in
    let low = class-low s c.requires.search c.args.never c.requires.never c.given-given.result.now c.loop-permission.permission-index c.given-given.ensures c.loop-permission-test.true in
    let heads = c.requires.search.index.holds.heads x.class in (
      heads,
      subst (IsChain s.index.now.links.items heads) (get_or_default s.index.now.first.items x.class None c.index-first.result.now low ∙ sym c.index-first.ensures) (c.requires.search.index.holds.classes x.class low),
    )

pub loop-permission-preserved : goal.loop-permission-preserved
loop-permission-preserved g c = λ is.
    let s = c.args.self.now in
    let given = c.given-given.result.now in
    let whole = permissions_at s c.args.never in
    let k = c.loop-permission.permission-index in
    let x = get_or given k none in
    let x_is : x ≡ get_or whole k none = ap (λ l. get_or l k none) c.given-given.ensures in
    let within : k < length whole = subst (λ l. k < length l) c.given-given.ensures c.loop-permission-test.true in
    let heads = is.holds.heads in
    let m = c.loop-permission.invariant is in
    let low = class-low s c.requires.search c.args.never c.requires.never given k c.given-given.ensures c.loop-permission-test.true in
    elim c.if-ne.branch [
      | then-ne+in_ok-push_chain w ↦
          let chain = subst (IsChain s.index.now.links.items (heads x.class)) (get_or_default s.index.now.first.items x.class None w.index-first.result.now low ∙ sym w.index-first.ensures) (is.holds.classes x.class low) in
          let new : c.if-ne.list.items ≡ c.loop-permission.list.items ++ heads (get_or whole k none).class =
          ap (λ v. v.items) w.list-is ∙ w.in_ok-push_chain.ensures (heads x.class) chain ∙ ap (λ (y : ClassPermission). c.loop-permission.list.items ++ heads y.class) x_is in
          let more = gathered-more heads whole k none within c.loop-permission.last c.loop-permission.are_several c.loop-permission.list.items c.if-ne.list.items is.holds.are.rising new m in
          subst (λ o. AreGathered heads whole (k + 1) o c.if-ne.are_several c.if-ne.list.items) (sym (w.last-is ∙ ap (λ (y : ClassPermission). Some y.class) x_is))
          (subst (λ b. AreGathered heads whole (k + 1) (Some (get_or whole k none).class) b c.if-ne.list.items) (sym (w.are_several-is ∙ w.is_some-are_several.ensures)) more)
      | else-ne w ↦
          let same = same-last c.loop-permission.last x.class w.if-ne.ensures ∙ ap (λ (y : ClassPermission). Some y.class) x_is in
          let more = gathered-same heads whole k none within c.loop-permission.last c.loop-permission.are_several c.loop-permission.list.items same m in
          subst (λ o. AreGathered heads whole (k + 1) o c.if-ne.are_several c.if-ne.list.items) (sym w.last-is)
          (subst (λ b. AreGathered heads whole (k + 1) c.loop-permission.last b c.if-ne.list.items) (sym w.are_several-is)
          (subst (AreGathered heads whole (k + 1) c.loop-permission.last c.loop-permission.are_several) (sym (ap (λ v. v.items) w.list-is)) more))
    ]

pub returns-then-are_several : goal.returns-then-are_several
returns-then-are_several g c = λ is.
    let past = subst (λ l. length l ≤ c.loop-permission.permission-index) c.given-given.ensures c.loop-permission-test.false in
    gathered-ordered is.holds.heads (permissions_at c.args.self.now c.args.never) c.loop-permission.permission-index past c.loop-permission.last c.loop-permission.are_several c.loop-permission.list.items (c.loop-permission.invariant is)
    c.put_in_order.new.numbers.items c.put_in_order.ensures

pub returns-else-are_several : goal.returns-else-are_several
returns-else-are_several g c = λ is.
    let past = subst (λ l. length l ≤ c.loop-permission.permission-index) c.given-given.ensures c.loop-permission-test.false in
    gathered-all is.holds.heads (permissions_at c.args.self.now c.args.never) c.loop-permission.permission-index past c.loop-permission.last c.loop-permission.are_several c.loop-permission.list.items (c.loop-permission.invariant is)
    c.if-are_several.false
