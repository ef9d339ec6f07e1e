use Rattle.std.proofs.Common.{◌≤◌, ◌<◌, length, arith}
use Rattle.cil_check.specs.Missing.{has_list}
use Rattle.cil_check.specs.Recent.{has_permission}
use Rattle.cil_check.proofs.CleanLemmas.{clean-first, clean-next, clean-end}
use Rattle.cil_check.proofs.SeenLemmas.{there-at}
use Rattle.cil_check.proofs.checker.Checker.is_clean.Goals as goal

pub loop-i-init : goal.loop-i-init
loop-i-init g c = record {
  clean = λ policy noted. clean-first policy;
  known = λ policy noted. record { lists = c.new-known.ensures.lists (has_list c.args.self.now.bound.joined.now.modules.items policy); recent = c.new-known.ensures.recent (has_permission c.args.self.now.bound.policy.now.names policy) };
}

pub is_clean_by-requires : goal.is_clean_by-requires
is_clean_by-requires g c =
    let count = c.len-i-end.ensures c.requires.0 c.requires.1.is in
    (c.requires.0, c.requires.1, omega (arith, count))

pub loop-i-preserved : goal.loop-i-preserved
loop-i-preserved g c = record {
  clean = λ policy noted.
      let count = c.len-i-end.ensures policy noted.is in
      let less : c.loop-i.i < length policy = omega (arith, count) in
      let (s, at) = there-at policy c.loop-i.i less in
      clean-next policy c.loop-i.i s at (c.is_clean_by.ensures.clean c.if-not-is_clean_by.false policy s noted at c.have_actuals-aliases_set.ensures (c.loop-i.invariant.known policy noted)) (c.loop-i.invariant.clean policy noted);
  known = λ policy noted. c.is_clean_by.ensures.known policy noted (c.loop-i.invariant.known policy noted);
}

pub returns : goal.returns
returns g c = λ is policy noted.
    let count = c.len-i-end.ensures policy noted.is in
    let past : length policy ≤ c.loop-i.i = omega (arith, count) in
    clean-end policy c.loop-i.i past noted.is.bound.once (c.loop-i.invariant.clean policy noted)
