use Rattle.cil_resolve.proofs.Common.{◌++◌, ◌∷◌, ◌∙◌, [], length, get_or, map, slice_get-get_or, take, take_all, ap, sym, arith}
use Rattle.std.proofs.Common.{drop}
use Rattle.cil_resolve.proofs.StatementLemmas.{map-one}
use Rattle.cil_resolve.proofs.TextLemmas.{bytes_in, item-mapped, no_name, text-first, text-in, text-within, texts-behind}
use Rattle.cil_resolve.proofs.names.to_texts.Goals as goal

pub next_text-requires : goal.next_text-requires
next_text-requires g c =
    let i = c.loop-name.name-index in
    let items = c.as_slice-name-items.result.now in
    let name = text-in (get_or items i no_name) in
    let within = text-within (λ n. n) (map text-in items) i name (item-mapped text-in items i no_name c.loop-name-test.true) in
    let rest = ap length c.loop-name.invariant.rest in
    omega (arith, within, rest)

pub loop-name-init : goal.loop-name-init
loop-name-init g c = record {
  copies = c.in_ok-copies.ensures.items;
  rest = c.in_ok-rest.ensures ∙ c.in_ok-bytes_of.ensures ∙ ap bytes_in (sym c.as_slice-name-items.ensures);
}

pub loop-name-preserved : goal.loop-name-preserved
loop-name-preserved g c =
    let i = c.loop-name.name-index in
    let items = c.as_slice-name-items.result.now in
    let name = text-in (get_or items i no_name) in
    let at = item-mapped text-in items i no_name c.loop-name-test.true in
    let rest = c.loop-name.invariant.rest in
    let copy = c.in_ok-next_text.ensures.text ∙ ap (take (length name)) rest ∙ text-first (λ n. n) (map text-in items) i name at in
    record {
      copies = c.in_ok-push.ensures.items ∙ (λ j. c.loop-name.invariant.copies j ++ copy j ∷ []) ∙ sym (map-one text-in items i (get_or items i no_name) (slice_get-get_or items i no_name c.loop-name-test.true));
      rest = c.in_ok-next_text.ensures.rest ∙ ap (drop (length name)) rest ∙ texts-behind (λ n. n) (map text-in items) i name at;
    }

pub returns : goal.returns
returns g c =
    let items = c.as_slice-name-items.result.now in
    c.loop-name.invariant.copies ∙ ap (map text-in) (take_all c.loop-name.name-index items c.loop-name-test.false) ∙ c.as_slice-name-items.ensures
