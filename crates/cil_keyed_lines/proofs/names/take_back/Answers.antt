use Rattle.cil_keyed_lines.proofs.Common.{◌≡◌, ◌<◌, ◌+◌, ◌-◌, ◌++◌, ◌∷◌, ◌∙◌, [], ap, arith, get_or, length, refl, reverse, set, slice_index, sym, take, unnamed, Rename}
use Rattle.std.proofs.Common.{take_all}
use Rattle.std.proofs.lemmas.List.{length-set, take_more}
use Rattle.cil_keyed_lines.proofs.NameLemmas.{logged_back, named_set}
use Rattle.cil_keyed_lines.proofs.names.take_back.Goals as goal

abbrev none : Rename
none = record { place = 0; line = 0 }

pub loop-left-init : goal.loop-left-init
loop-left-init g c = record {
  len = refl;
  within = omega arith;
  same = λ p. ap (λ log. unnamed (reverse log) (slice_index c.args.named.now.items) p) (take_all (length c.args.log.now) c.args.log.now (omega arith));
}

pub index_mut-requires : goal.index_mut-requires
index_mut-requires g c =
    let is = c.loop-left.invariant in
    let within = c.requires (c.loop-left.left - 1) none (omega (arith, is.within, c.loop-left-test.true)) in
    omega (arith, within, is.len, c.loop-left.named.ok)

pub loop-left-preserved : goal.loop-left-preserved
loop-left-preserved g c =
    let is = c.loop-left.invariant in
    let log = c.args.log.now in
    let named = c.loop-left.named.items in
    let i = c.loop-left.left - 1 in
    let r = get_or log i none in
    let there : i < length log = omega (arith, is.within, c.loop-left-test.true) in
    let left : c.loop-left.left ≡ i + 1 = omega (arith, c.loop-left-test.true) in
    let more : take c.loop-left.left log ≡ take i log ++ r ∷ [] = ap (λ n. take n log) left ∙ take_more log i none there in
    let within : r.place < length named = omega (arith, c.requires i none there, is.len) in
    record {
      len = length-set named r.place r.line ∙ is.len;
      within = omega (arith, is.within);
      same = λ p.
          sym (logged_back (take i log) r (slice_index (set named r.place r.line)) (slice_index named) (λ q. sym (named_set named r.place r.line q within)) p)
          ∙ ap (λ rs. unnamed (reverse rs) (slice_index named) p) (sym more) ∙ is.same p;
    }

pub returns : goal.returns
returns g c p =
    let is = c.loop-left.invariant in
    let none_left : c.loop-left.left ≡ 0 = omega (arith, c.loop-left-test.false) in
    sym (ap (λ n. unnamed (reverse (take n c.args.log.now)) (slice_index c.loop-left.named.items) p) none_left) ∙ is.same p
