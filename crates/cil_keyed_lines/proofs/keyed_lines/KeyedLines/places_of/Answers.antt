use Rattle.cil_keyed_lines.proofs.Common.{◌≡◌, ◌<◌, ◌∙◌, ap, arith, cases_lt, get_or, inl, inr, times, index_of, length, listed, slice_get, sym, take, Names, SymbolKey}
use Rattle.cil_text.specs.declared.statement.RuleKind.TheVariants.{Allow}
use Rattle.cil_keyed_lines.proofs.KeyLemmas.{all_names, all_within, times_key, times_once}
use Rattle.std.proofs.lemmas.List.{take_all}
use Rattle.std.proofs.lemmas.List.Elements.{All-nil, All-push}
use Rattle.cil_keyed_lines.specs.Keyed as keyed
use Rattle.cil_keyed_lines.proofs.keyed_lines.KeyedLines.places_of.Goals as goal

abbrev first : SymbolKey
first = record { kind = Allow; source = 0; class = 0; permission = 0 }

pub loop-key-init : goal.loop-key-init
loop-key-init g c =
    let same = c.take_places.ensures.same in
    let taken = c.take_places.new.self in
    record {
      named = rw c.in_ok-places.ensures.empty (All-nil (Names taken.names));
      within = rw c.in_ok-places.ensures.empty (All-nil (λ x. x.place < length taken.keys));
      times = λ k. ap (λ v. times v (index_of taken.keys k)) c.in_ok-places.ensures.empty;
      distinct = λ some. absurd (omega (arith, some));
      none = λ _. c.in_ok-places.ensures.empty;
      grown = λ i k at. ap (λ s. slice_get s.keys i) same ∙ at;
      now = λ k t. ap (λ s. keyed.count_now s k t) same;
      before = λ k t. ap (λ s. keyed.count_before s k t) same;
    }

pub loop-key-preserved : goal.loop-key-preserved
loop-key-preserved g c =
    let is = c.loop-key.invariant in
    let to = c.in_ok-place.ensures in
    let v = c.loop-key.places.items in
    let i = c.loop-key.key-index in
    let within : i < length c.args.keys.now = omega arith in
    record {
      named = rw c.in_ok-push.ensures.items (All-push (Names c.reach_key.new.self.names) v _ (all_names v c.loop-key.self.names c.reach_key.new.self.names to.more to.names is.named) (to.within.1, sym c.line_of-line.ensures));
      within = rw c.in_ok-push.ensures.items (All-push (λ x. x.place < length c.reach_key.new.self.keys) v _ (all_within v (length c.loop-key.self.keys) (length c.reach_key.new.self.keys) to.longer is.within) to.within.0);
      times = rw c.in_ok-push.ensures.items (times_key v c.loop-key.self.keys c.reach_key.new.self.keys c.args.keys.now (get_or c.args.keys.now i first) first i c.line_of-line.result c.in_ok-place.place is.within to.grown to.place within (λ _. get_or c.args.keys.now i first) is.times);
      distinct = λ _. to.distinct;
      none = λ e. absurd (omega (arith, e));
      grown = λ j k at. to.places j k (is.grown j k at);
      now = λ k t. to.now k t ∙ is.now k t;
      before = λ k t. to.before k t ∙ is.before k t;
    }

pub returns-clause-named : goal.returns-clause-named
returns-clause-named g c =
    let is = c.loop-key.invariant in
    let keys = c.args.keys.now in
    let end : take c.loop-key.key-index keys ≡ keys = take_all c.loop-key.key-index keys (omega arith) in
    record {
      named = is.named;
      once = λ p. elim (cases_lt 0 c.loop-key.key-index) [
        | inl some ↦ times_once c.loop-key.places.items c.loop-key.self.keys keys (is.distinct some) c.requires is.within (λ k. is.times k ∙ ap (λ l. listed l k) end) p
        | inr low ↦ omega (arith, ap (λ v. times v p) (is.none (omega (arith, low))))
      ];
    }

pub returns-clause-times : goal.returns-clause-times
returns-clause-times g c k =
    let keys = c.args.keys.now in
    let end : take c.loop-key.key-index keys ≡ keys = take_all c.loop-key.key-index keys (omega arith) in
    c.loop-key.invariant.times k ∙ ap (λ l. listed l k) end

pub returns-in_err-place-clause-places : goal.returns-in_err-place-clause-places
returns-in_err-place-clause-places g c = λ i k at. c.reach_key.ensures.places i k (c.loop-key.invariant.grown i k at)

pub returns-in_err-place-clause-now : goal.returns-in_err-place-clause-now
returns-in_err-place-clause-now g c = λ k t. c.reach_key.ensures.now k t ∙ c.loop-key.invariant.now k t

pub returns-in_err-place-clause-before : goal.returns-in_err-place-clause-before
returns-in_err-place-clause-before g c = λ k t. c.reach_key.ensures.before k t ∙ c.loop-key.invariant.before k t

pub returns-in_err-push-clause-places : goal.returns-in_err-push-clause-places
returns-in_err-push-clause-places g c = λ i k at. c.reach_key.ensures.places i k (c.loop-key.invariant.grown i k at)

pub returns-in_err-push-clause-now : goal.returns-in_err-push-clause-now
returns-in_err-push-clause-now g c = λ k t. c.reach_key.ensures.now k t ∙ c.loop-key.invariant.now k t

pub returns-in_err-push-clause-before : goal.returns-in_err-push-clause-before
returns-in_err-push-clause-before g c = λ k t. c.reach_key.ensures.before k t ∙ c.loop-key.invariant.before k t
