use Rattle.cil_resolve.proofs.Common.{◌≡◌, ◌++◌, ◌∷◌, ◌∙◌, [], length, map, get_or, take, sym, ap, arith, map-append, slice_get-get_or, take_all, dropped_with}
use Rattle.std.proofs.Common.{drop}
use Rattle.cil_bind.proofs.PositionLemmas.{take-last}
use Rattle.cil_resolve.proofs.DroppedLemmas.{found-at, found-is, found-long, name_of, no_optional}
use Rattle.cil_resolve.proofs.TextLemmas.{text-first, text-within, texts-behind}
use Rattle.cil_resolve.proofs.dropped.with_names.Goals as goal

pub next_text-requires : goal.next_text-requires
next_text-requires g c =
    let (modules, declared, are) = c.requires in
    let k = c.loop-optional.optional-index in
    let items = c.deref-optional-items.result.now in
    let o = get_or items k no_optional in
    let (d, there, same) = found-at modules c.args.found declared items are c.deref-optional-items.ensures.value k o (slice_get-get_or items k no_optional c.loop-optional-test.true) in
    let long : o.name_length ≡ length d.name = ap (λ f. f.1.1) same in
    let within = text-within name_of declared k d there in
    let rest = ap length (c.loop-optional.invariant.rest modules declared are) in
    omega (arith, long, within, rest)

pub loop-optional-init : goal.loop-optional-init
loop-optional-init g c = record {
  rest = λ modules declared are. c.in_ok-rest.ensures ∙ are.names;
  dropped = λ modules declared are. ap (map (dropped_with modules)) c.in_ok-dropped.ensures.items;
}

pub loop-optional-preserved : goal.loop-optional-preserved
loop-optional-preserved g c =
    let k = c.loop-optional.optional-index in
    let items = c.deref-optional-items.result.now in
    let o = get_or items k no_optional in
    let at = slice_get-get_or items k no_optional c.loop-optional-test.true in
    record {
      rest = λ modules declared are.
          let (d, there, same) = found-at modules c.args.found declared items are c.deref-optional-items.ensures.value k o at in
          let rest = c.loop-optional.invariant.rest modules declared are in
          c.in_ok-name.ensures.rest ∙ (λ j. drop (same j).1.1 (rest j)) ∙ texts-behind name_of declared k d there;
      dropped = λ modules declared are.
          let (d, there, same) = found-at modules c.args.found declared items are c.deref-optional-items.ensures.value k o at in
          let rest = c.loop-optional.invariant.rest modules declared are in
          let name = c.in_ok-name.ensures.text ∙ (λ j. take (same j).1.1 (rest j)) ∙ text-first name_of declared k d there in
          let is = found-is modules o c.in_ok-name.name d same name in
          let all = dropped_with modules in
          ap (map all) c.in_ok-push.ensures.items ∙ map-append all c.loop-optional.dropped.items _
          ∙ (λ j. c.loop-optional.invariant.dropped modules declared are j ++ is j ∷ []) ∙ sym (take-last declared k d there);
    }

pub returns : goal.returns
returns g c modules declared are =
    let past = c.loop-optional-test.false in
    let items = c.deref-optional-items.result.now in
    let many = found-long modules c.args.found declared items are c.deref-optional-items.ensures.value in
    c.loop-optional.invariant.dropped modules declared are ∙ take_all c.loop-optional.optional-index declared (omega (arith, past, many))
