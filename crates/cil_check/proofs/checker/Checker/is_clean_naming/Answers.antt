use Rattle.cil_check.proofs.Common.{references, slice_get_within, sym, ◌∙◌}
use Rattle.cil_check.proofs.KnownLemmas.{missing-neither, naming-clean}
use Rattle.cil_check.proofs.SoundLemmas.{class-last, none-unfound, none-unset-of}
use Rattle.cil_check.proofs.checker.Checker.is_clean_naming.Goals as goal

pub is_settled-requires : goal.is_settled-requires
is_settled-requires g c =
    let r = c.requires in
    (r.0, r.2, slice_get_within r.0 c.args.place r.1 r.3)

pub returns-then-is_settled-clause-clean : goal.returns-then-is_settled-clause-clean
returns-then-is_settled-clause-clean g c = λ yes policy s noted at is have known.
    let settled = c.is_settled.ensures c.if-is_settled.true policy s noted at have in
    naming-clean policy c.args.place s is noted.is.inside at settled.found settled.actual

pub references-bound-requires : goal.references-bound-requires
references-bound-requires g c =
    let r = c.requires in
    (r.0, r.2.is, slice_get_within r.0 c.args.place r.1 r.3)

pub are_sound_by-requires : goal.are_sound_by-requires
are_sound_by-requires g c =
    let r = c.requires in
    (r.0, r.2, slice_get_within r.0 c.args.place r.1 r.3)

pub has_listed-requires : goal.has_listed-requires
has_listed-requires g c =
    let (policy, s, noted, at, is) = c.requires in
    let are = c.references-bound.ensures policy s noted.is at in
    (policy, s, noted, at, class-last policy s c.references-bound.result c.in-Some.class is are (sym c.last.ensures ∙ c.in-Some.is))

pub returns-clause-clean : goal.returns-clause-clean
returns-clause-clean g c = λ yes policy s noted at is have known.
    let are = c.references-bound.ensures policy s noted.is at in
    let led = class-last policy s c.references-bound.result c.in-Some.class is are (sym c.last.ensures ∙ c.in-Some.is) in
    let all = c.are_sound_by.ensures c.if-not-are_sound_by.false policy s noted have at are in
    naming-clean policy c.args.place s is noted.is.inside at
    (missing-neither policy s (none-unfound policy s.namespace (references s.form) all) (c.has_listed.ensures.none yes policy s noted at led known))
    (none-unset-of policy s.namespace s.form all)

pub returns-clause-known : goal.returns-clause-known
returns-clause-known g c = λ policy s noted at is known.
    let are = c.references-bound.ensures policy s noted.is at in
    c.has_listed.ensures.known policy s noted at (class-last policy s c.references-bound.result c.in-Some.class is are (sym c.last.ensures ∙ c.in-Some.is)) known
