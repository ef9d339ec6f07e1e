use Rattle.cil_member_updates.proofs.Common.{◌≡◌, ◌≤◌, ◌<◌, ◌+◌, ◌*◌, ◌==◌, ◌∙◌, ℕ, Bool, false, ap, bit_and, arith, refl, subst, sym, bit_at, eq-eqb, ne_eqb, evaluations_in, meaning_in, up_to, RisesBy, up_to-add, up_to-first, AreBits, is_asked, held_by, keeps, set_of}
use Rattle.cil_sums.proofs.RiseLemmas.{rises-same}
use Rattle.cil_member_updates.proofs.BitLemmas.{answer-bit, answer-other, held-add, held-none, held-past, looked-kept, looked-past, looked-visit, up_to-past, HeldBelow}
use Rattle.cil_member_updates.proofs.NameLemmas.{holds-kept}
use Rattle.cil_member_updates.proofs.masks.masked.Goals as goal

-- what is told of bits that aren't asked for: they have no type, and no evaluation
module _ (keeps test : ℕ → Bool) (word visits kept from next : ℕ) (on : from ≤ next) (within : next ≤ 64) (are : AreBits keeps word kept)
    (fails : (t : ℕ) → keeps t ≡ false → test t ≡ false) (clear : (k : ℕ) → from ≤ k → k < next → bit_at (bit_and visits kept) k ≡ 0) where
  held-on : (mask : ℕ) → HeldBelow visits test word from mask → HeldBelow visits test word next mask
  held-on mask held =
      held-past visits test word from mask held next on
      (λ k low high. looked-past keeps test word visits kept k (omega (arith, high, within)) are (clear k low high) (fails (64 * word + k)))

  rises-on : (before after : ℕ) → RisesBy (up_to (λ k. bit_at (bit_and visits kept) k == 1) from) before after → RisesBy (up_to (λ k. bit_at (bit_and visits kept) k == 1) next) before after
  rises-on before after rises =
      rises-same (up_to (λ k. bit_at (bit_and visits kept) k == 1) from) (up_to (λ k. bit_at (bit_and visits kept) k == 1) next) before after
      (up_to-past (λ k. bit_at (bit_and visits kept) k == 1) from next on
      (λ k low high. ne_eqb (bit_at (bit_and visits kept) k) 1 (let none = clear k low high in λ set. omega (arith, none, set)))) rises

pub loop-b-init : goal.loop-b-init
loop-b-init g c =
    let r = c.args.reading.now.side.now.resolved.now in
    let symbols = c.args.reading.now.symbols.now in
    let next = c.next_bit-b.ensures in
    let before = evaluations_in c.args.meter.now in
    let kept = subst (AreBits (keeps symbols (meaning_in r)) c.args.word) (sym c.word.ensures) (c.requires.reads.side.kept c.args.word) in
    record {
      within = next.within;
      set = next.set;
      held = held-on (keeps symbols (meaning_in r)) (held_by c.args.reading.now) c.args.word c.args.visits c.word.result 0 c.next_bit-b.result next.from_on next.within kept
          (holds-kept symbols (meaning_in r) (set_of c.args.reading.now)) next.clear 0 (held-none c.args.visits (held_by c.args.reading.now) c.args.word);
      evaluations = rises-on (keeps symbols (meaning_in r)) (held_by c.args.reading.now) c.args.word c.args.visits c.word.result 0 c.next_bit-b.result next.from_on next.within kept
          (holds-kept symbols (meaning_in r) (set_of c.args.reading.now)) next.clear before before (up_to-first (λ k. bit_at (bit_and c.args.visits c.word.result) k == 1) before);
      adjustments = refl;
    }

pub held_bit-mask-requires-clause-kept : goal.held_bit-mask-requires-clause-kept
held_bit-mask-requires-clause-kept g c =
    let r = c.args.reading.now.side.now.resolved.now in
    let symbols = c.args.reading.now.symbols.now in
    looked-kept (keeps symbols (meaning_in r)) (held_by c.args.reading.now) c.args.word c.args.visits c.word.result c.loop-b.b c.loop-b-test.true
    (subst (AreBits (keeps symbols (meaning_in r)) c.args.word) (sym c.word.ensures) (c.requires.reads.side.kept c.args.word)) (c.loop-b.invariant.set c.loop-b-test.true)

pub loop-b-preserved : goal.loop-b-preserved
loop-b-preserved g c =
    let r = c.args.reading.now.side.now.resolved.now in
    let symbols = c.args.reading.now.symbols.now in
    let test = held_by c.args.reading.now in
    let b = c.loop-b.b in
    let below = c.loop-b-test.true in
    let set = c.loop-b.invariant.set below in
    let kept = subst (AreBits (keeps symbols (meaning_in r)) c.args.word) (sym c.word.ensures) (c.requires.reads.side.kept c.args.word) in
    let more = c.held_bit-mask in
    let next = c.next_bit-b-in-loop-b.ensures in
    record {
      within = next.within;
      set = next.set;
      held = held-on (keeps symbols (meaning_in r)) test c.args.word c.args.visits c.word.result (b + 1) c.next_bit-b-in-loop-b.result next.from_on next.within kept
          (holds-kept symbols (meaning_in r) (set_of c.args.reading.now)) next.clear _
          (held-add c.args.visits test c.args.word b c.loop-b.mask c.loop-b.invariant.held (test (64 * c.args.word + b)) more.result below
          (looked-visit (keeps symbols (meaning_in r)) test c.args.word c.args.visits c.word.result b below kept set) refl
          (ap (λ n. bit_at n b) more.ensures.bit ∙ answer-bit (test (64 * c.args.word + b)) (64 * c.args.word + b) b (omega (arith, below)))
          (λ k other. ap (λ n. bit_at n k) more.ensures.bit ∙ answer-other (test (64 * c.args.word + b)) (64 * c.args.word + b) b (omega (arith, below)) k other));
      evaluations = rises-on (keeps symbols (meaning_in r)) test c.args.word c.args.visits c.word.result (b + 1) c.next_bit-b-in-loop-b.result next.from_on next.within kept
          (holds-kept symbols (meaning_in r) (set_of c.args.reading.now)) next.clear (evaluations_in c.args.meter.now) (evaluations_in more.new.meter)
          (up_to-add (λ k. bit_at (bit_and c.args.visits c.word.result) k == 1) b (eq-eqb (bit_at (bit_and c.args.visits c.word.result) b) 1 set)
          (evaluations_in c.args.meter.now) (evaluations_in c.loop-b.meter) (evaluations_in more.new.meter) c.loop-b.invariant.evaluations more.ensures.evaluations);
      adjustments = more.ensures.adjustments ∙ c.loop-b.invariant.adjustments;
    }

pub returns-clause-evaluations : goal.returns-clause-evaluations
returns-clause-evaluations g c =
    let end = c.loop-b-test.false in
    let within = c.loop-b.invariant.within in
    let last : c.loop-b.b ≡ 64 = omega (arith, end, within) in
    let before = evaluations_in c.args.meter.now in
    let after = evaluations_in c.loop-b.meter in
    subst (λ kept. RisesBy (is_asked c.args.visits kept) before after) c.word.ensures (subst (λ n. RisesBy (up_to (λ k. bit_at (bit_and c.args.visits c.word.result) k == 1) n) before after) last c.loop-b.invariant.evaluations)
