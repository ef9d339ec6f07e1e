use Rattle.cil_counters.proofs.Common.{◌≡◌, ◌∙◌, ◌+◌, ◌<◌, ℕ, List, ◌∷◌, ◌++◌, [], ap, subst, sym, inl, inr, arith, map-append, pair_of, pairs_of, AreNamed}
use Rattle.std.specs.Int.{bit_at}
use Rattle.std.proofs.lemmas.Nat.Bits.{shr_and_one}
use Rattle.cil_counters.specs.declared.changed_members.ChangedMember.{ChangedMember}
use Rattle.cil_counters.proofs.ChangedMemberLemmas.{bits-beyond, bits-first, bits-last, bits-more, bits-past, bits-unnamed, hit_below}
use Rattle.cil_counters.proofs.changed_members.push_types.Goals as goal
use Rattle.cil_counters.proofs.changed_members.push_types.Goals.{then-mask-bit-eq1+in-Some-name+in_ok-push, then-mask-bit-eq1+in_default-name, else-mask-bit-eq1}

pub returns-in_default : goal.returns-in_default
returns-in_default g c hits few is =
    let pairs = pairs_of c.args.members.now.items in
    bits-unnamed c.args.row c.args.word c.args.mask c.args.names.now hits pairs c.in_default.ensures is

pub returns-then-word-len : goal.returns-then-word-len
returns-then-word-len g c hits few is =
    let pairs = pairs_of c.args.members.now.items in
    let beyond = c.if-word-len.true in
    bits-beyond c.args.row c.args.word c.args.mask c.args.names.now hits pairs (omega (arith, beyond, c.len.ensures.len)) is

pub loop-bit-init : goal.loop-bit-init
loop-bit-init g c hits few is =
    bits-first c.args.row c.args.word c.args.mask c.args.names.now hits (pairs_of c.args.members.now.items) is

pub loop-bit-preserved : goal.loop-bit-preserved
loop-bit-preserved g c hits few is =
    let row = c.args.row in
    let word = c.args.word in
    let mask = c.args.mask in
    let names = c.args.names.now in
    let bit = c.loop-bit.bit in
    let items = c.loop-bit.members.items in
    let low : bit < 64 = omega (arith, c.loop-bit-test.true) in
    let was = c.loop-bit.invariant hits few is in
    let same = bits-past row word mask names hits (pairs_of items) bit low in
    let more : ℕ → ℕ → ℕ = λ r t. hits r t + hit_below row word mask (bit + 1) r t in
    let next : List ChangedMember → Type 0 = λ l. AreNamed names more (pairs_of l) in
    elim c.if-mask-bit-eq1.branch [
      | then-mask-bit-eq1+in-Some-name+in_ok-push w ↦
          let set : bit_at mask bit ≡ 1 = sym (shr_and_one mask bit) ∙ w.if-mask-bit-eq1.true in
          let member : ChangedMember = record { attribute = c.in-Some.attribute; ty = w.in-Some-name.ty } in
          let pushed = items ++ member ∷ [] in
          subst next (sym {b = pushed} (◌∙◌ {c = pushed} (ap (λ v. v.items) w.members-is) w.in_ok-push.ensures.items))
          (subst (AreNamed names more) (sym (map-append pair_of items (member ∷ [])))
          (bits-more row word mask names hits (pairs_of items) c.len.ensures.distinct few member.attribute.now member.ty.now
          c.in-Some.ensures bit low set w.in-Some-name.ensures was))
      | then-mask-bit-eq1+in_default-name w ↦
          subst next (sym {b = items} (ap (λ v. v.items) w.members-is)) (same (inr w.in_default-name.ensures) was)
      | else-mask-bit-eq1 w ↦
          subst next (sym {b = items} (ap (λ v. v.items) w.members-is))
          (same (inl (λ set. w.if-mask-bit-eq1.false (shr_and_one mask bit ∙ set))) was)
    ]

pub returns : goal.returns
returns g c hits few is =
    let pairs = pairs_of c.loop-bit.members.items in
    bits-last c.args.row c.args.word c.args.mask c.args.names.now hits pairs c.loop-bit.bit
    (omega (arith, c.loop-bit-test.false)) (c.loop-bit.invariant hits few is)
