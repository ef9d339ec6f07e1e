use Rattle.cil_parse.proofs.Common.{◌≡◌, refl, ap, subst, ◌∙◌, arith, take_all, statements_of, Places, Around}
use denote.Param.Weighed.{most}
use Rattle.std.proofs.lemmas.Result.{on_ok_weaker}
use Rattle.cil_text.specs.declared.statement.Statement.TheViews.{size-Statement}
use Rattle.cil_text.proofs.Bodies.{leaf_form}
use Rattle.cil_parse.proofs.FlatLemmas.{block-depth, optional-depth, statement-depth}
use Rattle.cil_parse.proofs.PlaceLemmas.{places-none, places-next, places-leaf, places-block, places-optional}
use Rattle.cil_parse.proofs.builder.Builder.+place.Goals as goal

pub place-loop-statement-init : goal.place-loop-statement-init
place-loop-statement-init g t c = places-none c.args.self.now c.args.around

pub place-place_one-requires : goal.place-place_one-requires
place-place_one-requires g t c κs within =
    let less = statement-depth c.args.statements.now c.loop-statement.statement-index c.statement-item.result c.loop-statement-test.true c.statement-item.is in
    (omega (arith, c.decreases, less), within)

pub place-loop-statement-preserved : goal.place-loop-statement-preserved
place-loop-statement-preserved g t c =
    places-next c.args.self.now c.loop-statement.self c.place_one.new.self c.args.around c.args.statements.now c.loop-statement.statement-index c.statement-item.result c.loop-statement-test.true c.statement-item.is c.loop-statement.invariant c.in_ok-place_one.ensures

pub place-returns : goal.place-returns
place-returns g t c =
    subst (λ l. Places c.args.self.now c.loop-statement.self c.args.around (statements_of l)) (take_all c.loop-statement.statement-index c.args.statements.now c.loop-statement-test.false) c.loop-statement.invariant

pub place_one-place-requires : goal.place_one-place-requires
place_one-place-requires g t c κs within =
    let block = c.in-Block in
    let less = block-depth c.args.statement.now block.at block.id block.body block.is in
    let same : most (size-Statement g.row.A.Denot) c.deref.result.now ≡ most (size-Statement g.row.A.Denot) block.body.items = ap (most (size-Statement g.row.A.Denot)) c.deref.ensures.value in
    (omega (arith, c.decreases, less, same), within)

pub place_one-place-requires-in-Optional : goal.place_one-place-requires-in-Optional
place_one-place-requires-in-Optional g t c κs within =
    let opt = c.in-Optional in
    let less = optional-depth c.args.statement.now opt.at opt.id opt.body opt.is in
    let same : most (size-Statement g.row.A.Denot) c.deref-in-Optional.result.now ≡ most (size-Statement g.row.A.Denot) opt.body.items = ap (most (size-Statement g.row.A.Denot)) c.deref-in-Optional.ensures.value in
    (omega (arith, c.decreases, less, same), within)

pub place_one-returns-in_ok-block-in-Block : goal.place_one-returns-in_ok-block-in-Block
place_one-returns-in_ok-block-in-Block g t c =
    let block = c.in-Block in
    let old = c.args.self.now in
    let mid = c.head.new.self in
    let new = c.place.new.self in
    let inner : Around = record { block = c.in_ok-block-in-Block.block; optional = c.args.around.optional } in
    let number = c.in_ok-block-in-Block.ensures.same ∙ c.len.ensures ∙ mid.rows.ok.0 in
    on_ok_weaker c.place.result
    (λ places. places-block old mid new c.args.around inner c.args.statement.now block.at block.id block.body block.is c.in_ok-head.ensures number refl
    (subst (λ l. Places mid new inner (statements_of l)) c.deref.ensures.value places)) c.place.ensures

pub place_one-returns-in_ok-optional-in-Optional : goal.place_one-returns-in_ok-optional-in-Optional
place_one-returns-in_ok-optional-in-Optional g t c =
    let opt = c.in-Optional in
    let old = c.args.self.now in
    let mid = c.head.new.self in
    let new = c.place-in-Optional.new.self in
    let inner : Around = record { block = c.args.around.block; optional = c.in_ok-optional-in-Optional.optional } in
    let number = c.in_ok-optional-in-Optional.ensures.same ∙ c.len-in-Optional.ensures ∙ mid.rows.ok.0 in
    on_ok_weaker c.place-in-Optional.result
    (λ places. places-optional old mid new c.args.around inner c.args.statement.now opt.at opt.id opt.body opt.is c.in_ok-head.ensures number refl
    (subst (λ l. Places mid new inner (statements_of l)) c.deref-in-Optional.ensures.value places)) c.place-in-Optional.ensures

pub place_one-returns-in_default : goal.place_one-returns-in_default
place_one-returns-in_default g t c =
    places-leaf c.args.self.now c.head.new.self c.args.around c.args.statement.now (leaf_form c.args.statement.now c.in_default.not-Block c.in_default.not-Optional) c.in_ok-head.ensures
