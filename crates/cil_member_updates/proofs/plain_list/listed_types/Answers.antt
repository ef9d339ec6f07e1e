use Rattle.cil_member_updates.proofs.Common.{◌∙◌, ◌+◌, ◌/◌, ◌||◌, ap, sym, arith, get_or, length, list_any, take_all, «Type», element_of, is_set, meaning_in, set_of, name_holds}
use Rattle.std.proofs.lemmas.List.Folds.{list_any_more}
use Rattle.cil_member_updates.proofs.PlaceLemmas.{set-there}
use Rattle.cil_member_updates.proofs.PlainLemmas.{list-holds, none-set, written-back}
use Rattle.cil_member_updates.proofs.plain_list.listed_types.Goals as goal

pub loop-k-init : goal.loop-k-init
loop-k-init g c =
    record {
      long = omega (arith, c.in_ok-words.ensures.len, c.len.ensures.len);
      told = λ t may. none-set (c.len.result / 64 + 1) c.in_ok-words.words.items (c.in_ok-words.ensures.items_if_clones_equal (λ y h. h)) t;
    }

pub loop-k-preserved : goal.loop-k-preserved
loop-k-preserved g c =
    let r = c.args.reading.now in
    let names = c.set_names-names.result.now in
    let k = c.loop-k.k in
    let value = c.deref_mut.ensures.value in
    let same = written-back c.loop-k.words.items c.add_name.new.words c.loop-k.words.len (c.add_name.ensures.long ∙ ap length value) (sym (ap length value) ∙ c.deref_mut.ensures.len) in
    record {
      long = ap length same ∙ c.add_name.ensures.long ∙ ap length value ∙ c.loop-k.invariant.long;
      told = λ t may.
          ap (λ l. is_set l t) same ∙ c.add_name.ensures.set t may
          ∙ ap (λ l. is_set l t || name_holds r (get_or names k («Type» 0)) t) value
          ∙ ap (λ b. b || name_holds r (get_or names k («Type» 0)) t) (c.loop-k.invariant.told t may)
          ∙ sym (list_any_more (λ e. name_holds r e t) names k («Type» 0) c.loop-k-test.true);
    }

pub returns : goal.returns
returns g c t may =
    let r = c.args.reading.now.side.now.resolved.now in
    let s = set_of c.args.reading.now in
    let names = c.set_names-names.result.now in
    c.loop-k.invariant.told t may
    ∙ ap (list_any (λ e. name_holds c.args.reading.now e t)) (take_all c.loop-k.k names c.loop-k-test.false)
    ∙ list-holds c.args.reading.now.symbols.now (meaning_in r) t may s (element_of r.names.items) names
    (c.set_names-names.ensures.names s (set-there r c.args.reading.now.place c.requires.reads.within)) c.requires.joins
