use Rattle.cil_bind.proofs.Common.{◌≡◌, ◌<◌, [], get_or, take, length, length-append, rules, refl, sym, ap, ◌∙◌, subst, arith, slice_get_within, joined, placed, IsSpaced, Spells}
use Rattle.cil_bind.proofs.LedLemmas.{came-at, came-long, item-at}
use Rattle.cil_bind.proofs.PlaceLemmas.{joined-next, placed-long, spelt-at}
use Rattle.cil_bind.proofs.SpaceLemmas.{module-spaced}
use Rattle.cil_bind.proofs.scope.Scope.spaces.Goals as goal

pub loop-i-init : goal.loop-i-init
loop-i-init g c = record {
  closed = ap (λ p. p.1) c.in_ok-spaces.ensures;
  long = ap (λ p. length p.0) c.in_ok-spaces.ensures;
  starts = λ modules are. refl;
  spaced = λ k m low at. absurd (omega (arith, low));
}

pub loop-i-preserved : goal.loop-i-preserved
loop-i-preserved g c =
    let i = c.loop-i.i in
    let self = c.args.self.now in
    let items = c.args.joined.now.modules.items in
    let d = c.index.result.now in
    let here : i < length items = search rules in
    let invariant = c.loop-i.invariant in
    let comes = c.in_ok-add_spaces.ensures.added in
    record {
      closed = c.in_ok-add_spaces.ensures.closed;
      long = came-long c.loop-i.spaces.0 _ comes.came i invariant.long comes.added;
      starts = λ modules are.
          let m = spelt-at items modules i d are here in
          let spells : Spells d.«module».now m.0.statements = subst (λ e. Spells e.«module».now m.0.statements) (sym c.index.ensures) m.2 in
          let next = ap length (joined-next modules i m.0 m.1) in
          let both = length-append (joined (take i modules)) (placed m.0.name [] [] m.0.statements) in
          let long = placed-long d.«module».now m.0.statements m.0.name spells in
          let count = c.len-in-loop-i.ensures.count in
          let start = invariant.starts modules are in
          let sum = c.in-Some.ensures in
          omega (arith, next, both, long, count, start, sum);
      spaced = λ k m low at.
          came-at (λ j l. IsSpaced self.names self.namespaces m.«module».now l) c.loop-i.spaces.0 _ comes.came [] i k invariant.long comes.added low
          (λ less. invariant.spaced k m less at)
          (λ same.
          let (modules, are, stands) = c.requires in
          let is : d ≡ m = c.index.ensures ∙ ap (λ j. get_or items j d) (sym same) ∙ item-at items items k m d refl at in
          let start = c.in_ok-in_32_bits.ensures.same ∙ invariant.starts modules are in
          subst (λ n. IsSpaced self.names self.namespaces n.«module».now comes.came) is
          (module-spaced items modules self.names self.namespaces self.rows.items i c.in_ok-in_32_bits.field-0 d comes.came are stands c.index.ensures here start comes.says));
    }

pub returns-clause-long : goal.returns-clause-long
returns-clause-long g c =
    let items = c.args.joined.now.modules.items in
    let past : length items ≡ c.loop-i.i = search rules in
    c.loop-i.invariant.long ∙ sym past

pub returns-clause-spaced : goal.returns-clause-spaced
returns-clause-spaced g c = λ k m at.
    let items = c.args.joined.now.modules.items in
    let past : length items ≡ c.loop-i.i = search rules in
    let within = slice_get_within items k m at in
    c.loop-i.invariant.spaced k m (omega (arith, past, within)) at
