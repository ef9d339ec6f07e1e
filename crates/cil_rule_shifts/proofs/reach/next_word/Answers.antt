use Rattle.cil_rule_shifts.proofs.Common.{◌∙◌, ◌&&◌, ap, has_either, has_source, in_part, is_among, sym, subst}
use Rattle.std.specs.Prelude.{not}
use Rattle.cil_rule_shifts.specs.Reach.{IsMaybeWord}
use Rattle.cil_rule_shifts.proofs.ReachLemmas.{first-some, maybe-word, second-some}
use Rattle.cil_rule_shifts.proofs.reach.next_word.Goals as goal

pub returns-in-Lost : goal.returns-in-Lost
returns-in-Lost g c =
    let was = c.args.sources.was.now in
    let is = c.args.sources.is.now in
    maybe-word (is_among c.args.sources) (has_source was) (has_either c.args.sources)
    (λ t none. ap (λ part. in_part part (has_source was t) (has_source is t)) c.in-Lost.is ∙ ap (λ b. b && not (has_source is t)) none)
    (first-some (has_source was) (has_source is)) c.args.from _ c.next_word.ensures

pub returns-in-Got : goal.returns-in-Got
returns-in-Got g c =
    let was = c.args.sources.was.now in
    let is = c.args.sources.is.now in
    maybe-word (is_among c.args.sources) (has_source is) (has_either c.args.sources)
    (λ t none. ap (λ part. in_part part (has_source was t) (has_source is t)) c.in-Got.is ∙ ap (λ b. b && not (has_source was t)) none)
    (second-some (has_source was) (has_source is)) c.args.from _ c.next_word-in-Got.ensures

pub returns-in-Kept : goal.returns-in-Kept
returns-in-Kept g c =
    let was = c.args.sources.was.now in
    let is = c.args.sources.is.now in
    subst (λ f. IsMaybeWord f (has_either c.args.sources) c.args.from c.later.result) (λ i t. sym (ap (λ part. in_part part (has_source was t) (has_source is t)) c.in-Kept.is) i)
    (c.later.ensures (has_source was) (has_source is) c.args.from c.next_word-in-Kept.ensures
    c.next_word-in-Kept-2.ensures)
