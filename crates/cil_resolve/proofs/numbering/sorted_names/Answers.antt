use Rattle.cil_resolve.proofs.Common.{◌∙◌, [], fold, get_or, take, sym, ap, arith, fold-append, length, length-map, slice_get_within, with_name, distinct, full_name_of, names_with, names_of, naming, kind_of}
use Rattle.cil_resolve.proofs.NamingLemmas.{naming-there, naming-all, flat-naming, not-bringing}
use Rattle.cil_resolve.proofs.NumberLemmas.{names-sorted, none-brought}
use Rattle.cil_resolve.proofs.StatementLemmas.{flat-one, mapped-at}
use Rattle.cil_resolve.proofs.numbering.sorted_names.Goals as goal

pub insert_names_at-requires : goal.insert_names_at-requires
insert_names_at-requires g c =
    let (policy, is, places, full) = c.requires.is in
    let (s, among, at) = naming-there policy c.args.naming.now c.loop-k.k places c.loop-k-test.true in
    (policy, is, slice_get_within policy _ s at)

pub loop-k-preserved : goal.loop-k-preserved
loop-k-preserved g c policy is places full =
    let k = c.loop-k.k in
    let (s, among, at) = naming-there policy c.args.naming.now k places c.loop-k-test.true in
    c.in_ok-insert_names_at.ensures policy s is at (c.get.ensures ∙ ap (λ l. get_or l k []) full ∙ mapped-at full_name_of (naming policy) k s [] among)
    ∙ ap (λ n. fold with_name n (names_with s)) (c.loop-k.invariant policy is places full) ∙ sym (fold-append with_name [] (names_of (take k (naming policy))) (names_with s))
    ∙ ap distinct (sym (flat-one names_with (naming policy) k s among))

pub returns-clause-names : goal.returns-clause-names
returns-clause-names g c policy is places full =
    let past = c.loop-k-test.false in
    names-sorted policy c.loop-k.names c.sort.new.self
    (c.loop-k.invariant policy is places full ∙ ap (λ l. distinct (names_of l)) (naming-all policy c.args.naming.now c.loop-k.k places (omega (arith, past)))
    ∙ ap distinct (flat-naming names_with policy (λ s other. none-brought s (not-bringing (kind_of s.form) other))))
    c.sort.ensures.same

pub get-requires : goal.get-requires
get-requires g c =
    let (policy, is, places, full) = c.requires.is in
    let (s, among, at) = naming-there policy c.args.naming.now c.loop-k.k places c.loop-k-test.true in
    let within = slice_get_within (naming policy) c.loop-k.k s among in
    let long = ap length full ∙ length-map (naming policy) full_name_of in
    omega (arith, within, long)

pub loop-k-init : goal.loop-k-init
loop-k-init g c = λ policy is places full. c.new-names.ensures

pub returns-clause-ordered : goal.returns-clause-ordered
returns-clause-ordered g c = c.in_ok-sort.ensures.ordered
