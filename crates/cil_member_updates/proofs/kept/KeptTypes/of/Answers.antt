use Rattle.cil_member_updates.proofs.Common.{◌∙◌, ◌+◌, ◌/◌, get_or, arith, length-set, slice_get_within, meaning_in, no_declared}
use Rattle.cil_member_updates.proofs.KeptLemmas.{among-none, among-next, among-all}
use Rattle.cil_member_updates.proofs.kept.KeptTypes.of.Goals as goal

pub loop-i-init : goal.loop-i-init
loop-i-init g c =
    record {
      long = omega (arith, c.in_ok-words.ensures.len, c.len.ensures.len);
      among = among-none c.args.symbols.now (c.len.result / 64 + 1) c.in_ok-words.words.items (c.in_ok-words.ensures.items_if_clones_equal (λ y h. h));
    }

pub loop-i-preserved : goal.loop-i-preserved
loop-i-preserved g c =
    let types = (meaning_in c.args.resolved.now).types in
    let symbol = c.type_symbol-symbol.result in
    let end = c.loop-i-test.true in
    let all = c.types_len-i-end.ensures in
    let long = c.loop-i.invariant.long in
    let within = slice_get_within c.args.symbols.now symbol (get_or types c.loop-i.i no_declared).name c.type_symbol-symbol.ensures in
    record {
      long = length-set c.loop-i.words.items (symbol / 64) _ ∙ long;
      among =
          among-next c.args.symbols.now c.len.ensures.distinct types c.loop-i.i no_declared (omega (arith, end, all)) symbol c.type_symbol-symbol.ensures c.loop-i.words.items c.index-bits.result.now c.index-bits.ensures (omega (arith, long, within)) c.loop-i.invariant.among;
    }

pub returns : goal.returns
returns g c = among-all c.args.symbols.now (meaning_in c.args.resolved.now) c.loop-i.i c.loop-i.words.items (let end = c.loop-i-test.false in let all = c.types_len-i-end.ensures in omega (arith, end, all)) c.loop-i.invariant.among
