use Rattle.cil_bind.proofs.Common.{◌<◌, ◌^◌, ◌≡◌, filter, length, ap, sym, ◌∙◌, subst, is_within, restricted, once-filtered, length-map, AreBound, AreRows, AreFrom, bound_rows}
use Rattle.cil_bind.specs.Policy.{IsBoundTo}
use Rattle.cil_bind.specs.Moves.{mark, AreAllFound}
use Rattle.cil_bind.proofs.RestrictLemmas.{from-kept, stands-kept, few-kept}
use Rattle.cil_bind.proofs.DeclareLemmas.{kinds-are}
use Rattle.cil_bind.proofs.MoveLemmas.{rows-moved}
use Rattle.cil_bind.proofs.PolicyLemmas.{bound-to}
use Rattle.cil_bind.specs.AboutNames.{name_places}
use Rattle.cil_bind.proofs.policy.Policy.leave_out.Goals as goal

pub keep_rows-requires-clause-kinds : goal.keep_rows-requires-clause-kinds
keep_rows-requires-clause-kinds g c =
    let self = c.args.self.now in
    let is = c.requires.1 in
    is.kinds ∙ sym (kinds-are self.names self.lookup.namespaces self.rows.items c.requires.0 is.stands.rows_are)

pub name_places-requires : goal.name_places-requires
name_places-requires g c =
    let kinds = ap length (c.as_slice.ensures.value ∙ c.in_ok-places.ensures.kinds) ∙ length-map c.keep_rows.new.rows.items (λ row. row.kind) in
    let few = subst (λ rows. length rows < 2 ^ 32) (sym c.in_ok-places.ensures.rows) (few-kept c.args.kept.now c.args.self.now.rows.items c.requires.1.few) in
    subst (λ n. n < 2 ^ 32) (sym kinds) few

pub of_once-requires-clause-few : goal.of_once-requires-clause-few
of_once-requires-clause-few g c =
    subst (λ rows. length rows < 2 ^ 32) (sym (c.as_slice-rows.ensures.value ∙ c.in_ok-places.ensures.rows)) (few-kept c.args.kept.now c.args.self.now.rows.items c.requires.1.few)

pub look_up-requires-clause-worded : goal.look_up-requires-clause-worded
look_up-requires-clause-worded g c = (c.args.self.now.names, c.requires.1.worded)

pub look_up-requires-clause-spaced : goal.look_up-requires-clause-spaced
look_up-requires-clause-spaced g c = c.requires.1.spaces_long

pub returns : goal.returns
returns g c = λ policy set is apart marked.
    let self = c.args.self.now in
    let kept = c.args.kept.now in
    let items = c.args.joined.now.modules.items in
    let spaces = self.lookup.namespaces in
    let rest = restricted set policy in
    let rows = c.keep_rows.new.rows.items in
    let stay : rows ≡ filter (mark kept) self.rows.items = c.in_ok-places.ensures.rows in
    let once = once-filtered (is_within set) policy is.once in
    let stands = stands-kept self.names spaces set kept self.rows.items rows policy apart marked is.stands stay in
    let from = subst (λ r. AreFrom items r rest) (sym stay) (from-kept items set kept self.rows.items policy marked is.from) in
    let leads = c.look_up.new.self.leads.0 in
    subst (λ p. IsBoundTo p items rest) (sym c.in_ok-look_up.ensures.same)
    (bound-to _ items rest stands from
    (c.in_ok-declarations.ensures self.names spaces rest stands.numbered (subst (λ r. AreRows self.names spaces r rest) (sym c.as_slice-rows.ensures.value) stands.rows_are) once)
    once (record { worded = is.worded; spaced = is.spaced; long = is.spaces_long }) c.in_ok-look_up.ensures.long
    (λ knows.
    let led = c.in_ok-look_up.ensures.led self.names rest knows is.worded in
    let found = subst (λ p. AreAllFound self.names spaces rest items p self.spaces.0 self.leads.0 leads) (c.as_slice-moved.ensures.value ∙ c.in_ok-places.ensures.places) led in
    subst (λ r. AreBound rest rest (bound_rows items leads r)) (sym stay)
    (rows-moved set policy apart kept self.rows.items marked self.names spaces items self.spaces.0 self.leads.0 leads is.spaced found self.rows.items policy marked is.from is.bound))
    (c.in_ok-places.ensures.kinds ∙ kinds-are self.names spaces rows rest stands.rows_are)
    (c.in_ok-name_places.ensures ∙ ap (name_places 0) c.as_slice.ensures.value) (subst (λ r. length r < 2 ^ 32) (sym stay) (few-kept kept self.rows.items is.few)))
