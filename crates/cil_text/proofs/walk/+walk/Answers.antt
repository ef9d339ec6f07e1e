use Rattle.cil_text.proofs.Common.{◌≡◌, ◌∙◌, ◌+◌, ◌||◌, IfErr, IsTrue, refl, sym, ap, subst, arith, none, are_lists, is_optional, put_word, Shapes, fits_lists, place_of, word_of, trees_of, tree_then, statements_of, FaultIs, opens, scope_form, IsScope, IsStatement, IsFirstOf, IsFirstAmong}
use Rattle.std.specs.Result.{IfOk}
use Rattle.cil_specs.specs.Place.{Place}
use Rattle.cil_text.specs.declared.statement.Statement.TheVariants.{Block, Optional}
use Rattle.cil_text.proofs.Bodies.{leaf_keyword}
use Rattle.cil_text.proofs.FirstBad.{handed, handed_on, fault_weaker}
use Rattle.cil_reader.proofs.Nodes.{tree_size, size_first, size_behind}
use Rattle.cil_text.proofs.WalkLemmas.{AreFound, found_start, found_more, found_end, found_fault, block_is, optional_is, inner_first, no_other, fits_size}
use Rattle.cil_text.proofs.walk.+walk.Goals as goal

pub scope-statements-requires : goal.scope-statements-requires
scope-statements-requires g t c κs within =
    let parts = put_word (word_of c.args.first) (trees_of c.args.operands) in
    let form = scope_form c.args.keyword (word_of c.in_ok-id.id) in
    let inner = trees_of c.in_ok-id.inner in
    let fits = c.in_ok-id.ensures.ok.fits in
    let all : tree_size parts ≡ tree_size (trees_of c.args.operands) + 1 = refl in
    (omega (arith, c.decreases, all, fits_size form parts inner fits), (within, fits_lists form parts inner fits))

pub scope-returns-in_err-body-clause-err : goal.scope-returns-in_err-body-clause-err
scope-returns-in_err-body-clause-err g t c =
    let parts = put_word (word_of c.args.first) (trees_of c.args.operands) in
    let id = word_of c.in_ok-id.id in
    let form = scope_form c.args.keyword id in
    let inner = trees_of c.in_ok-id.inner in
    let fault = c.in_err-body.field-0.0 in
    let found = subst (λ within. FaultIs fault (IsFirstAmong within inner)) (c.is_inside.ensures id) c.in_err-body.ensures.err in
    handed (λ fault. (at : Place) → FaultIs fault (IsFirstOf c.args.inside at parts)) c.from_residual-in_err-body.result fault c.from_residual-in_err-body.ensures.1
    (λ at. fault_weaker (IsFirstAmong (c.args.inside || is_optional form) inner) (IsFirstOf c.args.inside at parts) fault
    (λ fault h. inner_first c.args.inside at parts inner form fault c.in_ok-id.ensures.ok h) found)

pub scope-returns-clause-ok : goal.scope-returns-clause-ok
scope-returns-clause-ok g t c =
    let inner = trees_of c.in_ok-id.inner in
    record {
      inner = inner;
      heading = c.in_ok-id.ensures.ok;
      holds = subst (λ within. Shapes within inner (statements_of c.in_ok-body.body.items)) (c.is_inside.ensures (word_of c.in_ok-id.id)) c.in_ok-body.ensures.ok;
    }

pub statement-returns-in_err-first-clause-err : goal.statement-returns-in_err-first-clause-err
statement-returns-in_err-first-clause-err g t c =
    handed_on (IsFirstOf c.args.inside (place_of c.args.at) (trees_of c.args.items)) c.from_residual.result c.in_err-first.field-0.0 c.from_residual.ensures.1 (c.in_err-first.ensures.err c.args.inside)

pub statement-scope-requires : goal.statement-scope-requires
statement-scope-requires g t c κs within =
    let begins = c.in_ok-first.ensures.ok in
    let all : tree_size (trees_of c.args.items) ≡ tree_size (trees_of c.in_ok-first.operands) + 1 = ap tree_size begins.0 in
    (omega (arith, c.decreases, all), (within, (ap opens c.in-Block.is, begins.1)))

pub statement-scope-requires-in-Optional : goal.statement-scope-requires-in-Optional
statement-scope-requires-in-Optional g t c κs within =
    let begins = c.in_ok-first.ensures.ok in
    let all : tree_size (trees_of c.args.items) ≡ tree_size (trees_of c.in_ok-first.operands) + 1 = ap tree_size begins.0 in
    (omega (arith, c.decreases, all), (within, (ap opens c.in-Optional.is, begins.1)))

pub statement-leaf-requires : goal.statement-leaf-requires
statement-leaf-requires g t c = record { leaf = (leaf_keyword c.in_ok-first.keyword c.in_default.not-Block c.in_default.not-Optional, c.in_ok-first.ensures.ok.1) }

pub statement-returns-in-Ok-clause-ok : goal.statement-returns-in-Ok-clause-ok
statement-returns-in-Ok-clause-ok g t c =
    let begins = c.in_ok-first.ensures.ok in
    let parts = put_word (word_of c.in_ok-first.first) (trees_of c.in_ok-first.operands) in
    let id = c.in-Ok.id in
    let body = c.in-Ok.body in
    let scope = subst (λ keyword. IsScope c.args.inside parts (scope_form keyword (word_of id)) (statements_of body.items)) c.in-Block.is c.in-Ok.ensures.ok in
    subst (λ parts. IsStatement c.args.inside (place_of c.args.at) parts (Block c.args.at id body)) (sym begins.0) (block_is c.args.inside c.args.at parts id body scope)

pub statement-returns-in-Err-clause-err : goal.statement-returns-in-Err-clause-err
statement-returns-in-Err-clause-err g t c =
    let at = place_of c.args.at in
    subst (λ parts. FaultIs c.in-Err.fault (IsFirstOf c.args.inside at parts)) (sym c.in_ok-first.ensures.ok.0) (c.in-Err.ensures.err at)

pub statement-returns-in-Ok-scope-clause-ok : goal.statement-returns-in-Ok-scope-clause-ok
statement-returns-in-Ok-scope-clause-ok g t c =
    let begins = c.in_ok-first.ensures.ok in
    let parts = put_word (word_of c.in_ok-first.first) (trees_of c.in_ok-first.operands) in
    let id = c.in-Ok-scope.id in
    let body = c.in-Ok-scope.body in
    let scope = subst (λ keyword. IsScope c.args.inside parts (scope_form keyword (word_of id)) (statements_of body.items)) c.in-Optional.is c.in-Ok-scope.ensures.ok in
    subst (λ parts. IsStatement c.args.inside (place_of c.args.at) parts (Optional c.args.at id body)) (sym begins.0) (optional_is c.args.inside c.args.at parts id body scope)

pub statement-returns-in-Err-scope-clause-err : goal.statement-returns-in-Err-scope-clause-err
statement-returns-in-Err-scope-clause-err g t c =
    let at = place_of c.args.at in
    subst (λ parts. FaultIs c.in-Err-scope.fault (IsFirstOf c.args.inside at parts)) (sym c.in_ok-first.ensures.ok.0) (c.in-Err-scope.ensures.err at)

pub statement-returns-in_default : goal.statement-returns-in_default
statement-returns-in_default g t c =
    let at = place_of c.args.at in
    let begins = c.in_ok-first.ensures.ok in
    record {
      ok = subst (λ parts. IfOk c.leaf.result (IsStatement c.args.inside at parts)) (sym begins.0) c.leaf.ensures.ok;
      err = subst (λ parts. IfErr c.leaf.result (λ fault. FaultIs fault (IsFirstOf c.args.inside at parts))) (sym begins.0) c.leaf.ensures.err;
    }

pub statements-statement-requires : goal.statements-statement-requires
statements-statement-requires g t c κs within =
    let first = size_first (trees_of c.loop-tree.rest) c.in-Some.tree (trees_of c.in-Some.behind) c.in-Some.ensures in
    let inside : tree_size (tree_then c.in-Some.tree none) ≡ tree_size (trees_of c.in-List.items) + 0 + 1 = ap (λ tree. tree_size (tree_then tree none)) c.in-List.is in
    (omega (arith, c.decreases, first, inside, c.loop-tree.invariant.smaller), within)

pub statements-loop-tree-init : goal.statements-loop-tree-init
statements-loop-tree-init g t c =
    let all = trees_of c.args.trees in
    record { found = subst (AreFound c.args.inside all all) (sym c.in_ok-found.ensures.items) (found_start c.args.inside all c.requires.lists); smaller = omega arith }

pub statements-unreachable-requires : goal.statements-unreachable-requires
statements-unreachable-requires g t c =
    no_other c.in-Some.tree (trees_of c.in-Some.behind) c.in_default-tree.not-List (subst (λ rest. IsTrue (are_lists rest)) c.in-Some.ensures c.loop-tree.invariant.found.lists)

pub statements-returns-in-Err-clause-err : goal.statements-returns-in-Err-clause-err
statements-returns-in-Err-clause-err g t c =
    let trees = trees_of c.args.trees in
    let list = c.in-List in
    let rest = trees_of c.in-Some.behind in
    let parts = trees_of list.items in
    let front = c.in-Some.ensures ∙ ap (λ tree. tree_then tree rest) list.is in
    fault_weaker (IsFirstOf c.args.inside (place_of list.at) parts) (IsFirstAmong c.args.inside trees) c.in-Err.fault
    (λ fault h. found_fault c.args.inside trees (place_of list.at) list.end parts rest c.loop-tree.found.items fault
    (subst (λ rest. AreFound c.args.inside trees rest c.loop-tree.found.items) front c.loop-tree.invariant.found) h) c.in-Err.ensures.err

pub statements-loop-tree-preserved : goal.statements-loop-tree-preserved
statements-loop-tree-preserved g t c =
    let trees = trees_of c.args.trees in
    let list = c.in-List in
    let rest = trees_of c.in-Some.behind in
    let parts = trees_of list.items in
    let front = c.in-Some.ensures ∙ ap (λ tree. tree_then tree rest) list.is in
    record {
      found = subst (AreFound c.args.inside trees rest) (sym c.in_ok-push-in-Ok.ensures.items)
          (found_more c.args.inside trees (place_of list.at) list.end parts rest c.loop-tree.found.items c.in-Ok.statement
          (subst (λ rest. AreFound c.args.inside trees rest c.loop-tree.found.items) front c.loop-tree.invariant.found) c.in-Ok.ensures.ok);
      smaller = omega (arith, c.loop-tree.invariant.smaller, size_behind (trees_of c.loop-tree.rest) c.in-Some.tree rest c.in-Some.ensures);
    }

pub statements-returns-clause-ok : goal.statements-returns-clause-ok
statements-returns-clause-ok g t c =
    let trees = trees_of c.args.trees in
    found_end c.args.inside trees c.loop-tree.found.items (subst (λ rest. AreFound c.args.inside trees rest c.loop-tree.found.items) c.in_default.ensures c.loop-tree.invariant.found)
