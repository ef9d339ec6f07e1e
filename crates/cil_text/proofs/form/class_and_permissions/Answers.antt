use Rattle.cil_text.proofs.Common.{◌∙◌, sym, subst, IsExpressionList, put_same, trees_of, word_of, AreExpressionList}
use Rattle.cil_text.proofs.Fitting.{class_behind}
use Rattle.cil_text.proofs.form.class_and_permissions.Goals as goal

pub returns-in_default : goal.returns-in_default
returns-in_default g c the_class permissions h = c.in_default.ensures h.0 h.2

pub returns-in_default-split_word : goal.returns-in_default-split_word
returns-in_default-split_word g c the_class permissions h =
    let found = class_behind (trees_of c.args.trees) (trees_of c.in-Some.items) the_class permissions c.in-Some.ensures h in
    c.in_default-split_word.ensures the_class found.0 found.1

pub returns-in-Some-2 : goal.returns-in-Some-2
returns-in-Some-2 g c =
    let rest = trees_of c.in-Some-split_word.rest in
    (trees_of c.in-Some.items, rest, c.in-Some.ensures, c.in-Some-split_word.ensures, subst (AreExpressionList rest) c.in-Some-2.is c.in_ok-permissions.ensures)

pub returns-in-None : goal.returns-in-None
returns-in-None g c the_class permissions h =
    let rest = trees_of c.in-Some-split_word.rest in
    let found = class_behind (trees_of c.args.trees) (trees_of c.in-Some.items) the_class permissions c.in-Some.ensures h in
    let same = put_same (word_of c.in-Some-split_word.class) the_class rest found.0 (sym c.in-Some-split_word.ensures ∙ found.1) in
    let other = subst (AreExpressionList rest) c.in-None.is c.in_ok-permissions.ensures in
    other permissions (subst (λ list. IsExpressionList list permissions) (sym same.1) found.2)
