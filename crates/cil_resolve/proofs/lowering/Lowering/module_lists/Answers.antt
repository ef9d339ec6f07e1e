use Rattle.cil_resolve.proofs.Common.{◌≡◌, ◌<◌, ◌∙◌, [], length, rules, get_or, get_or_from_slice_get, slice_get_within, sym, ap, subst, arith, get_or-map, permission_lists_of, list_at, HaveNumbers}
use Rattle.cil_parse.specs.Lexicon.{AreNumbersOf}
use Rattle.cil_parse.specs.Parsed.{names_of}
use Rattle.cil_bind.proofs.LedLemmas.{came-at, came-long}
use Rattle.cil_bind.proofs.WordLemmas.{worded-at, worded-long}
use Rattle.cil_resolve.specs.KnownPermissions.{lists_of}
use Rattle.cil_resolve.proofs.lowering.Lowering.module_lists.Goals as goal

pub index-requires-2 : goal.index-requires-2
index-requires-2 g c =
    let bound = c.args.self.now.checker.now.bound in
    let is = c.requires.lowering.1.noted.is.bound.worded in
    let long = worded-long bound.policy.now.names bound.policy.now.words.items bound.joined.now.modules.items is in
    let within = c.requires.within in
    let low : c.args.m < length bound.policy.now.words.items = omega arith in
    search rules

pub add_list-requires-clause-within : goal.add_list-requires-clause-within
add_list-requires-clause-within g c =
    let count = c.permission_list_count-count.ensures in
    let low = c.loop-n-test.true in
    omega arith

pub loop-n-preserved : goal.loop-n-preserved
loop-n-preserved g c =
    let l = c.args.self.now in
    let bound = l.checker.now.bound in
    let modules = bound.joined.now.modules.items in
    let found = c.index.result.now in
    let inv = c.loop-n.invariant in
    let added = c.in_ok-add_list.ensures.added in
    let lists : lists_of bound.joined.now c.args.m ≡ permission_lists_of found.«module».now =
    get_or-map (λ d. permission_lists_of d.«module».now) modules c.args.m found [] c.requires.within ∙ ap (λ d. permission_lists_of d.«module».now) (sym c.index.ensures) in
    record {
      closed = c.in_ok-add_list.ensures.closed;
      long = came-long c.loop-n.numbers.0 c.add_list.new.numbers.0 added.came c.loop-n.n inv.long added.added;
      came = λ k low policy is.
          let numbered = subst (λ w. AreNumbersOf bound.policy.now.names w (names_of found.«module».now)) (sym c.as_slice-words.ensures.value)
          (worded-at bound.policy.now.names bound.policy.now.words.items modules c.args.m c.index-2.result.now found is.noted.is.bound.worded c.requires.within c.index-2.ensures c.index.ensures) in
          let last = subst (λ some. HaveNumbers l.numbering.now.names.items policy (get_or some c.loop-n.n []) added.came) (sym lists) (added.says policy is numbered) in
          came-at (λ j numbers. HaveNumbers l.numbering.now.names.items policy (list_at bound.joined.now c.args.m j) numbers) c.loop-n.numbers.0 c.add_list.new.numbers.0 added.came [] c.loop-n.n k
          inv.long added.added low (λ less. inv.came k less policy is)
          (λ same. subst (λ j. HaveNumbers l.numbering.now.names.items policy (list_at bound.joined.now c.args.m j) added.came) (sym same) last);
    }

pub returns-clause-long : goal.returns-clause-long
returns-clause-long g c =
    let modules = c.args.self.now.checker.now.bound.joined.now.modules.items in
    let found = c.index.result.now in
    let lists = get_or-map (λ d. permission_lists_of d.«module».now) modules c.args.m found [] c.requires.within ∙ ap (λ d. permission_lists_of d.«module».now) (sym c.index.ensures) in
    let count = c.permission_list_count-count.ensures in
    let long = c.loop-n.invariant.long in
    let all = ap length lists in
    let past = c.loop-n-test.false in
    let within = c.loop-n.auto.n-end in
    omega arith

pub returns-clause-numbers : goal.returns-clause-numbers
returns-clause-numbers g c = λ policy n numbers is at.
    let names = c.args.self.now.numbering.now.names.items in
    let listed = list_at c.args.self.now.checker.now.bound.joined.now c.args.m n in
    let less = slice_get_within c.loop-n.numbers.0 n numbers at in
    subst (HaveNumbers names policy listed) (get_or_from_slice_get c.loop-n.numbers.0 n numbers [] at)
    (c.loop-n.invariant.came n (let long = c.loop-n.invariant.long in omega (arith, less, long)) policy is)
