use Rattle.cil_bind.proofs.Common.{◌≡◌, ◌<◌, [], get_or, length, rules, refl, sym, ap, ◌∙◌, subst, arith, slice_get_within, texts_of, citations_of, names_of, AreNumbersOf, AreWorded, List, NamedModule, Vec, ℕ}
use Rattle.cil_bind.specs.Moves.{AreFound}
use Rattle.cil_bind.proofs.WordLemmas.{worded-at, worded-long, numbers-long}
use Rattle.cil_bind.proofs.LedLemmas.{came-at, came-long, item-at}
use Rattle.cil_bind.proofs.leads.leads.Goals as goal

-- each module has numbers of its names
words-low : {A : Type 0} (names : List (List ℕ)) (words : List (Vec ℕ A)) (items : List (NamedModule A)) (i : ℕ) → AreWorded names words items → i < length items → i < length words
words-low names words items i worded low = let long = worded-long names words items worded in omega (arith, low, long)

pub bounds-words-i : goal.bounds-words-i
bounds-words-i g c =
    words-low c.requires.worded.0 c.args.asked.now.words.now c.args.joined.now.modules.items c.loop-i.i c.requires.worded.1 (let low : c.loop-i.i < length c.args.joined.now.modules.items = search rules in low)

pub offset_bounds-words-i : goal.offset_bounds-words-i
offset_bounds-words-i g c =
    let low : c.loop-i.i < length c.args.joined.now.modules.items = search rules in
    let less = words-low c.requires.worded.0 c.args.asked.now.words.now c.args.joined.now.modules.items c.loop-i.i c.requires.worded.1 low in
    omega (arith, less)

pub get-requires : goal.get-requires
get-requires g c =
    let low : c.loop-i.i < length c.args.joined.now.modules.items = search rules in
    let long = c.requires.spaced in
    omega (arith, low, long)

pub lead_module-requires-clause-words : goal.lead_module-requires-clause-words
lead_module-requires-clause-words g c =
    let items = c.args.joined.now.modules.items in
    let low : c.loop-i.i < length items = search rules in
    let names = c.requires.worded.0 in
    ap length c.as_slice.ensures.value
    ∙ numbers-long names c.index-words-i.result.items (names_of c.index.result.now.«module».now)
    (worded-at names c.args.asked.now.words.now items c.loop-i.i c.index-words-i.result c.index.result.now c.requires.worded.1 low c.index-words-i.is c.index.ensures)

pub loop-i-init : goal.loop-i-init
loop-i-init g c = record {
  closed = ap (λ p. p.1) c.in_ok-leads.ensures;
  long = ap (λ p. length p.0) c.in_ok-leads.ensures;
  led = λ names policy knows worded k m low at. absurd (omega (arith, low));
}

pub loop-i-preserved : goal.loop-i-preserved
loop-i-preserved g c =
    let i = c.loop-i.i in
    let items = c.args.joined.now.modules.items in
    let invariant = c.loop-i.invariant in
    let comes = c.in_ok-lead_module.ensures.led in
    record {
      closed = c.in_ok-lead_module.ensures.closed;
      long = came-long c.loop-i.leads.0 _ comes.came i invariant.long comes.added;
      led = λ names policy knows worded k m low at.
          let spaces = c.args.lookup.now.namespaces in
          let d = c.index.result.now in
          let here : i < length items = search rules in
          let nums = subst (λ l. AreNumbersOf names l (names_of d.«module».now)) (sym c.as_slice.ensures.value)
          (worded-at names c.args.asked.now.words.now items i c.index-words-i.result d worded here c.index-words-i.is c.index.ensures) in
          let asked = c.args.asked.now in
          let places = asked.places.now in
          came-at (λ j l. AreFound names spaces (texts_of m.«module».now) policy places (citations_of m.«module».now) (get_or asked.spaces.now.0 k []) (get_or asked.led.now.0 k []) l) c.loop-i.leads.0 _ comes.came [] i k invariant.long comes.added low
          (λ less. invariant.led names policy knows worded k m less at)
          (λ same.
          let is : d ≡ m = c.index.ensures ∙ ap (λ j. get_or items j d) (sym same) ∙ item-at items items k m d refl at in
          let from = c.get.ensures ∙ ap (λ j. get_or asked.spaces.now.0 j []) (sym same) in
          let led = c.led_at.ensures ∙ ap (λ j. get_or asked.led.now.0 j []) (sym same) in
          subst (λ n. AreFound names spaces (texts_of n.«module».now) policy places (citations_of n.«module».now) (get_or asked.spaces.now.0 k []) (get_or asked.led.now.0 k []) comes.came) is
          (subst (λ l. AreFound names spaces (texts_of d.«module».now) policy places (citations_of d.«module».now) l (get_or asked.led.now.0 k []) comes.came) from
          (subst (λ l. AreFound names spaces (texts_of d.«module».now) policy places (citations_of d.«module».now) c.get.result.now l comes.came) led (comes.says names policy knows nums))));
    }

pub returns-clause-long : goal.returns-clause-long
returns-clause-long g c =
    let items = c.args.joined.now.modules.items in
    let past : length items ≡ c.loop-i.i = search rules in
    c.loop-i.invariant.long ∙ sym past

pub returns-clause-led : goal.returns-clause-led
returns-clause-led g c = λ names policy knows worded k m at.
    let items = c.args.joined.now.modules.items in
    let past : length items ≡ c.loop-i.i = search rules in
    let within = slice_get_within items k m at in
    c.loop-i.invariant.led names policy knows worded k m (omega (arith, past, within)) at
