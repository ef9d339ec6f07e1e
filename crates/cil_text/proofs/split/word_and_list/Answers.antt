use Rattle.cil_text.proofs.Common.{◌∙◌, sym, subst, IsWordList, put_same, trees_of, word_of, AreWordList}
use Rattle.cil_text.proofs.split.word_and_list.Goals as goal

pub returns-in-None : goal.returns-in-None
returns-in-None g c word list words h k =
    let rest = trees_of c.in-Some.rest in
    let same = put_same (word_of c.in-Some.word) word rest list (sym c.in-Some.ensures ∙ h) in
    subst (AreWordList rest) c.in-None.is c.in_ok-words.ensures words (subst (λ list. IsWordList list words) (sym same.1) k)
