use Rattle.cil_counters.proofs.Common.{◌≡◌, ◌∙◌, ap, sym, meaning_in, is_member, differ, had_named, has_named}
use Rattle.cil_member_rows.specs.Rows as member_rows
use Rattle.cil_keyed_lines.specs.Keyed as access_tables
use Rattle.cil_counters.proofs.ToldLemmas.{told-members}
use Rattle.cil_counters.proofs.laws.counters_tell_changes.Goals as goal

pub returns : goal.returns
returns g c attribute ty =
    let counters = c.args.counters.now in
    let was = told-members counters.names c.args.old.now (member_rows.count_before counters.rows) (access_tables.count_before counters.tables) c.requires.before.counted c.resolved_names_are_kept.ensures.types
    c.resolved_is_sound.ensures c.resolved_sets_are_in_order.ensures.the_same c.resolved_names_are_kept.ensures.attributes attribute ty in
    let is = told-members counters.names c.args.new.now (member_rows.count_now counters.rows) (access_tables.count_now counters.tables) c.requires.now.counted c.resolved_names_are_kept-2.ensures.types
    c.resolved_is_sound-2.ensures c.resolved_sets_are_in_order-2.ensures.the_same c.resolved_names_are_kept-2.ensures.attributes attribute ty in
    let same : differ (had_named counters attribute ty) (has_named counters attribute ty) ≡ differ (is_member (meaning_in c.args.old.now) attribute ty) (is_member (meaning_in c.args.new.now) attribute ty) =
    ap (λ b. differ b (has_named counters attribute ty)) was ∙ ap (differ (is_member (meaning_in c.args.old.now) attribute ty)) is in
    ((λ changed. sym same ∙ changed), λ changed. same ∙ changed)
