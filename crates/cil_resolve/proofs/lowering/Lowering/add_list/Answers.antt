use Rattle.cil_resolve.proofs.Common.{◌≤◌, ◌+◌, ◌++◌, ◌∷◌, ◌∙◌, [], ℕ, Some, length, map, take, take_all, get_or, sym, ap, refl, subst, arith, list_all, has_name, texts_of, slice_get-get_or, permission_lists_of, AreNumbersIn, HaveNumbers, listed_names}
use Rattle.cil_resolve.proofs.KnownLemmas.{mapped-passes}
use Rattle.cil_resolve.proofs.NumberLemmas.{numbers-push}
use Rattle.cil_resolve.proofs.StatementLemmas.{map-one}
use Rattle.cil_resolve.proofs.lowering.Lowering.add_list.Goals as goal

pub loop-text-init : goal.loop-text-init
loop-text-init g c = record {
  closed = refl;
  came = λ policy is numbered listed. ap (map (λ n. Some n)) c.requires.closed;
}

pub loop-text-preserved : goal.loop-text-preserved
loop-text-preserved g c = record {
  closed = ap (λ p. p.0) c.in_ok-push.ensures.ok ∙ c.loop-text.invariant.closed;
  came = λ policy is numbered listed.
      let i = c.loop-text.text-index in
      let names = c.args.self.now.numbering.now.names.items in
      let items = c.permission_texts-text-items.result.now in
      let t = get_or items i 0 in
      let text = λ (n : ℕ). get_or (texts_of c.args.«module».now) n [] in
      let at = slice_get-get_or items i 0 c.loop-text-test.true in
      let number = c.in_ok-number.ensures policy is numbered (mapped-passes (has_name (listed_names policy)) text items i t listed at) in
      subst (AreNumbersIn names (map text (take (i + 1) items))) (sym (ap (λ p. p.1) c.in_ok-push.ensures.ok))
      (subst (λ some. AreNumbersIn names some (c.loop-text.numbers.1 ++ c.in_ok-number.number ∷ [])) (sym (map-one text items i t at))
      (numbers-push names (map text (take i items)) c.loop-text.numbers.1 (text t) c.in_ok-number.number (c.loop-text.invariant.came policy is numbered listed) number));
}

pub returns-clause-added : goal.returns-clause-added
returns-clause-added g c = record {
  came = c.loop-text.numbers.1;
  added = ap (λ p. p.0) c.in_ok-close.ensures.ok ∙ ap (λ l. l ++ c.loop-text.numbers.1 ∷ []) c.loop-text.invariant.closed;
  says = λ policy is numbered.
      let items = c.permission_texts-text-items.result.now in
      let text = λ (n : ℕ). get_or (texts_of c.args.«module».now) n [] in
      let past : length items ≤ c.loop-text.text-index = c.loop-text-test.false in
      subst (λ some. HaveNumbers c.args.self.now.numbering.now.names.items policy some c.loop-text.numbers.1) c.permission_texts-text-items.ensures
      (λ listed. subst (λ l. AreNumbersIn c.args.self.now.numbering.now.names.items (map text l) c.loop-text.numbers.1) (take_all c.loop-text.text-index items past) (c.loop-text.invariant.came policy is numbered listed));
}
