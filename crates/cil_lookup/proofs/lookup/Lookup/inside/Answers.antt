use Rattle.cil_lookup.proofs.Common.{◌≡◌, ◌+◌, ◌<◌, length, get_or, drop, sym, ap, ◌∙◌, subst, arith, inside, namespace_at, path_of, table_of, IsLead}
use Rattle.cil_lookup.proofs.LookupLemmas.{no-lead, inside-step, inside-none, inside-last, within-at}
use Rattle.cil_lookup.proofs.lookup.Lookup.inside.Goals as goal

pub returns-in_err-at : goal.returns-in_err-at
returns-in_err-at g c = λ names policy knows all.
    let path = c.args.path.now in
    let words = c.args.words.now in
    let spaces = c.args.self.now.namespaces in
    let end = c.in_ok-last.ensures in
    let more : c.loop-i.i + 1 < length path = omega arith in
    rw c.from_residual-in_err-at.ensures
    (no-lead (table_of c.args.table) policy _
    (c.loop-i.invariant.left names policy knows all
    ∙ inside-none (table_of c.args.table) policy names spaces words path c.loop-i.at c.loop-i.i knows.opened all c.loop-i.invariant.within more (c.requires.path c.loop-i.i 0 (omega arith)) c.in_err-at.ensures.none))

pub loop-i-preserved : goal.loop-i-preserved
loop-i-preserved g c = record {
  within = c.in_ok-at.ensures.within;
  left = λ names policy knows all.
      let path = c.args.path.now in
      let words = c.args.words.now in
      let spaces = c.args.self.now.namespaces in
      let end = c.in_ok-last.ensures in
      let more : c.loop-i.i + 1 < length path = omega arith in
      c.loop-i.invariant.left names policy knows all
      ∙ inside-step (table_of c.args.table) policy names spaces words path c.loop-i.at c.in_ok-at.at c.loop-i.i knows.opened all c.loop-i.invariant.within c.in_ok-at.ensures.within more (c.requires.path c.loop-i.i 0 (omega arith)) c.in_ok-at.ensures.some;
}

pub returns : goal.returns
returns g c = λ names policy knows all.
    let path = c.args.path.now in
    let words = c.args.words.now in
    let spaces = c.args.self.now.namespaces in
    let namespace = namespace_at names spaces c.loop-i.at in
    let end = c.in_ok-last.ensures in
    let here : c.loop-i.i ≡ c.in_ok-last.last = omega arith in
    let word = get_or words (get_or path c.in_ok-last.last 0) 0 in
    subst (IsLead (table_of c.args.table) policy c.declaration.result)
    (sym (c.loop-i.invariant.left names policy knows all ∙ ap (λ i. inside policy (table_of c.args.table) namespace (path_of names words (drop i path))) here
    ∙ inside-last (table_of c.args.table) policy names namespace words path c.in_ok-last.last (omega arith) (omega arith)))
    (c.declaration.ensures names policy knows (within-at names words (get_or path c.in_ok-last.last 0) all (c.requires.path c.in_ok-last.last 0 (omega arith))))
