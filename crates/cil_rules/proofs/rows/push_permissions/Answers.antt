use Rattle.std.proofs.Common.{◌∙◌, ap, sym}
use Rattle.cil_rules.proofs.NumberedRowLemmas.{permissions-more, permissions-same}
use Rattle.cil_rules.proofs.ListingLemmas.{no_chunk}
use Rattle.cil_rules.proofs.rows.push_permissions.Goals as goal
use Rattle.cil_rules.proofs.rows.push_permissions.Goals.{then-has_bit+in_ok-push, else-has_bit}

pub loop-chunk-preserved : goal.loop-chunk-preserved
loop-chunk-preserved g c =
    let chunks = c.args.chunks.now in
    let i = c.loop-chunk.chunk-index in
    let old = c.args.permissions.now.items in
    let now = c.loop-chunk.permissions.items in
    let within = c.loop-chunk-test.true in
    elim c.if-has_bit.branch [
      | then-has_bit+in_ok-push w ↦
          ap (λ (v : _). v.items) w.permissions-is
          ∙ w.in_ok-push.ensures.items
          ∙ permissions-more c.args.bit chunks i no_chunk within old now c.loop-chunk.invariant (sym c.has_bit.ensures ∙ w.if-has_bit.true)
      | else-has_bit w ↦
          ap (λ (v : _). v.items) w.permissions-is
          ∙ permissions-same c.args.bit chunks i no_chunk within old now c.loop-chunk.invariant (sym c.has_bit.ensures ∙ w.if-has_bit.false)
    ]
