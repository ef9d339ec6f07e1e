use Rattle.cil_rules.proofs.Common.{◌≡◌, ◌∙◌, ◌++◌, [], codes, get_or, ap, subst, get_or_read, GainsFront, on_err, gains-pieces_front, name_text}
use Rattle.cil_rules.proofs.listing.write_names.Goals as goal

pub returns-in_err-write_permission-clause-err : goal.returns-in_err-write_permission-clause-err
returns-in_err-write_permission-clause-err g c =
    let taken = g.W.Sink.taken in
    let names = c.args.names.now in
    let numbers = c.args.numbers.now in
    let i = c.loop-number.number-index in
    let text : c.as_slice.result.now ++ codes " " ≡ name_text names (get_or numbers i 0) =
    ap (λ l. l ++ codes " ") (c.as_slice.ensures ∙ get_or_read names _ _ (c.requires i 0 c.loop-number-test.true) c.index-names-number.is []) in
    on_err c.from_residual.result
    (gains-pieces_front (name_text names) (taken c.args.sink.now) (taken c.loop-number.sink) (taken c.write_permission.new.sink) numbers i 0 c.loop-number-test.true c.loop-number.invariant.so_far
    (subst (GainsFront (taken c.loop-number.sink) (taken c.write_permission.new.sink)) text c.in_err-write_permission.ensures.err))
