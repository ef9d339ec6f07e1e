use Rattle.cil_symbols.proofs.Common.{◌≡◌, ◌∙◌, ◌<◌, ◌++◌, ◌∷◌, [], true, false, length, rules, slice_get, get_or, sym, ap, subst, arith, true≢false, length-append, same_Some, slice_get_within, slice_get-get_or, used_in, AreUsedBelow, IsUsed, get-append, get-last, get-set_same, get-set_other}
use Rattle.std.proofs.Math.Nat.{le-max_right}
use Rattle.std.proofs.lemmas.Grind.{common_steps}
use Rattle.cil_symbols.proofs.InUseLemmas.{below-within, found-within, missing, now-used, still-used, used-all, used-push, with-new}
use Rattle.cil_symbols.proofs.NameLemmas.{found-name}
use Rattle.cil_symbols.proofs.in_use.InUse.number.Goals as goal

pub returns-in-Some-clause-number : goal.returns-in-Some-clause-number
returns-in-Some-clause-number g c = found-name c.args.symbols.now c.args.name.now c.in-Some.n (sym c.in-Some.ensures)

pub returns-in-Some-clause-used : goal.returns-in-Some-clause-used
returns-in-Some-clause-used g c =
    now-used c.self.inside.marks.items c.in-Some.n (found-within c.args.symbols.now c.args.name.now c.in-Some.n c.self.inside.marks.items (sym c.in-Some.ensures) (ap length c.self.view_is ∙ c.requires.long))

pub returns-in-Some-clause-still : goal.returns-in-Some-clause-still
returns-in-Some-clause-still g c s used =
    still-used c.self.inside.marks.items c.in-Some.n s (found-within c.args.symbols.now c.args.name.now c.in-Some.n c.self.inside.marks.items (sym c.in-Some.ensures) (ap length c.self.view_is ∙ c.requires.long))
    (subst (λ l. IsUsed l s) (sym c.self.view_is) used)

pub reuse-requires-clause-new : goal.reuse-requires-clause-new
reuse-requires-clause-new g c = missing c.args.symbols.now c.args.name.now c.find.result c.find.ensures c.in_default.not-Some

pub invariant_of-self-then-free-len : goal.invariant_of-self-then-free-len
invariant_of-self-then-free-len g c s low = still-used c.self-2.inside.marks.items c.next_free-free.result s (omega (arith, c.if-free-len.true, c.len.ensures)) (c.self-2.invariant s low)

pub invariant_of-self-in_ok-number : goal.invariant_of-self-in_ok-number
invariant_of-self-in_ok-number g c s low =
    subst (λ l. IsUsed l s) (sym c.in_ok-push.ensures.items) (used-push c.self-2.inside.marks.items s (c.self-2.invariant s low))

pub invariant_of-self-in_err-number : goal.invariant_of-self-in_err-number
invariant_of-self-in_err-number g c s low =
    subst (λ l. IsUsed l s) (sym c.in_ok-push.ensures.items) (used-push c.self-2.inside.marks.items s (c.self-2.invariant s low))

pub returns-in_err-number-clause-still : goal.returns-in_err-number-clause-still
returns-in_err-number-clause-still g c s used =
    let same = c.self-2.view_is ∙ c.next_free-free.ensures.marks in
    subst (λ l. IsUsed l s) (sym c.in_ok-push.ensures.items) (used-push c.self-2.inside.marks.items s (subst (λ l. IsUsed l s) (sym same) used))

pub returns-in_ok-reuse : goal.returns-in_ok-reuse
returns-in_ok-reuse g c =
    let symbols = c.args.symbols.now in
    let name = c.args.name.now in
    let marks = c.self-2.inside.marks.items in
    let free = c.next_free-free.result in
    let view = c.self-2.view_is ∙ c.next_free-free.ensures.marks in
    let same = ap length view in
    let within : free < length marks = omega (arith, c.if-free-len.true, c.len.ensures) in
    let long = c.requires.long in
    let unused = c.next_free-free.ensures.free (omega (arith, within, same)) in
    record {
      number = ap (λ l. slice_get l free) c.in_ok-reuse.ensures.ok ∙ get-set_same symbols free (get_or symbols free []) name (slice_get-get_or symbols free [] (omega (arith, within, same, long)));
      used = now-used marks free within;
      long = grind (arith, common_steps);
      kept = λ s used. ap (λ l. slice_get l s) c.in_ok-reuse.ensures.ok ∙ get-set_other symbols free s name (λ e. true≢false (same_Some true false (sym used ∙ ap (slice_get c.args.self.now) e ∙ unused)));
      still = λ s used. still-used marks free s within (subst (λ l. IsUsed l s) (sym view) used);
      count = grind (arith, common_steps);
      few = grind (arith, common_steps);
      grown = grind (arith, common_steps);
      err = search rules;
    }

pub returns-in_ok-number : goal.returns-in_ok-number
returns-in_ok-number g c =
    let symbols = c.args.symbols.now in
    let name = c.args.name.now in
    let marks = c.self-2.inside.marks.items in
    let free = c.next_free-free.result in
    let view = c.self-2.view_is ∙ c.next_free-free.ensures.marks in
    let same = ap length view in
    let long = c.requires.long in
    let below = c.next_free-free.ensures.below in
    let last : free ≡ length marks = omega (arith, c.if-free-len.false, c.len.ensures, same, below-within c.args.self.now free below) in
    let end : free ≡ length symbols = omega (arith, last, same, long) in
    let names = c.in_ok-number.ensures.ok ∙ with-new symbols name (missing symbols name c.find.result c.find.ensures c.in_default.not-Some) in
    let named = ap length names ∙ length-append symbols (name ∷ []) in
    let marked = ap length c.in_ok-push.ensures.items ∙ length-append marks (true ∷ []) in
    let all = used-all marks (subst (AreUsedBelow marks) last (subst (λ l. AreUsedBelow l free) (sym view) below)) in
    let used_now = ap used_in c.in_ok-push.ensures.items ∙ all in
    record {
      number = ap (λ l. slice_get l free) names ∙ ap (slice_get (symbols ++ name ∷ [])) end ∙ get-last symbols name;
      used = ap (λ l. slice_get l free) c.in_ok-push.ensures.items ∙ ap (slice_get (marks ++ true ∷ [])) last ∙ get-last marks true;
      long = omega (arith, same, long, marked, named);
      kept = λ s used.
          let within = slice_get_within c.args.self.now s true used in
          let at = slice_get-get_or symbols s [] (omega (arith, within, long)) in
          ap (λ l. slice_get l s) names ∙ get-append symbols (name ∷ []) s (get_or symbols s []) at ∙ sym at;
      still = λ s used. subst (λ l. IsUsed l s) (sym c.in_ok-push.ensures.items) (used-push marks s (subst (λ l. IsUsed l s) (sym view) used));
      count = grind (arith, common_steps);
      few = omega (arith, used_now, same, long, named, le-max_right (length symbols) (used_in c.push.new.self.items));
      grown = omega (arith, named);
      err = search rules;
    }
