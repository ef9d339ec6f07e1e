use Rattle.cil_bind.proofs.Common.{◌≡◌, ◌<◌, ℕ, List, [], length, get_or, Some, rules, sym, ap, ◌∙◌, arith, slice_get-get_or, IsFrom, NamedModule, Placed, Row, bound_in, leads_at}
use Rattle.std.proofs.Common.{slice_get}
use Rattle.std.proofs.lemmas.List.{get_or-map}
use Rattle.cil_bind.specs.Policy.{IsBoundTo}
use Rattle.cil_bind.specs.declared.policy.Policy.{Policy}
use Rattle.cil_bind.proofs.FromLemmas.{from-at, from-within, is-there}
use Rattle.cil_bind.proofs.policy.Policy.references.Goals as goal

-- the statement of a row of a bound policy
row-from : {A : Type 0} (p : Policy A) (parsed : List (NamedModule A)) (policy : List Placed) (i : ℕ) (row : Row) → IsBoundTo p parsed policy → i < length p.rows.items → row ≡ get_or p.rows.items i row
    → (s : Placed) × (slice_get policy i ≡ Some s) × IsFrom parsed row s
row-from p parsed policy i row bound low here = from-at parsed p.rows.items policy i row bound.from (slice_get-get_or p.rows.items i row low ∙ ap Some (sym here))

pub index-requires : goal.index-requires
index-requires g c =
    let items = c.args.joined.now.modules.items in
    let row = c.index-row.result.now in
    let from = row-from c.args.self.now items c.requires.bound.0 c.args.i row c.requires.bound.1 c.requires.within c.index-row.ensures in
    let low : row.«module» < length items = from-within items row from.0 from.2 in
    search rules

pub cited-requires : goal.cited-requires
cited-requires g c =
    let from = row-from c.args.self.now c.args.joined.now.modules.items c.requires.bound.0 c.args.i c.index-row.result.now c.requires.bound.1 c.requires.within c.index-row.ensures in
    (is-there c.args.joined.now.modules.items c.index-row.result.now c.index.result.now from.0 from.2 c.index.ensures).index

pub get-requires : goal.get-requires
get-requires g c =
    let long = c.requires.bound.1.leads_long in
    let from = row-from c.args.self.now c.args.joined.now.modules.items c.requires.bound.0 c.args.i c.index-row.result.now c.requires.bound.1 c.requires.within c.index-row.ensures in
    let low = from-within c.args.joined.now.modules.items c.index-row.result.now from.0 from.2 in
    omega (arith, low, long)

pub returns : goal.returns
returns g c =
    let p = c.args.self.now in
    let row = c.index-row.result.now in
    let items = c.args.joined.now.modules.items in
    let from = row-from p items c.requires.bound.0 c.args.i row c.requires.bound.1 c.requires.within c.index-row.ensures in
    let there = (is-there items row c.index.result.now from.0 from.2 c.index.ensures).at in
    c.of.ensures
    ∙ (λ j. leads_at (c.get.ensures j) (c.cited.ensures.numbers j))
    ∙ ap (λ m. bound_in m (get_or p.leads.0 row.«module» []) row.index) (sym there)
    ∙ sym (get_or-map (λ r. bound_in (slice_get items r.«module») (get_or p.leads.0 r.«module» []) r.index) p.rows.items c.args.i row [] c.requires.within
    ∙ ap (λ r. bound_in (slice_get items r.«module») (get_or p.leads.0 r.«module» []) r.index) (sym c.index-row.ensures))
