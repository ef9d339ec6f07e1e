use Rattle.cil_reader.proofs.Common.{◌≡◌, ◌∙◌, ◌∷◌, ◌-◌, List, length, take, drop, ap, sym, take_min, drop_min, take_rest, a_list, place_of, trees_of, trees_in, Node}
use Rattle.cil_reader.proofs.Nodes.{node_split, list_in}
use Rattle.cil_reader.proofs.tree.TreeSlice.split_first.Goals as goal

pub returns-in-List : goal.returns-in-List
returns-in-List c =
    let text = c.args.self.text.now in
    let nodes = c.args.self.nodes.now in
    let behind : List Node = take (length nodes - 1) (drop 1 nodes) in
    let list = c.in-List in
    let items : trees_of c.of-items.result ≡ trees_in text (take list.inner behind) =
    (λ i. trees_in (c.of-items.ensures.text i).now (c.of-items.ensures.nodes i).now) ∙ ap (λ n. trees_in text (take n behind)) c.min-inner.ensures ∙ ap (trees_in text) (take_min list.inner behind) in
    let rest : trees_of c.of-in-List.result ≡ trees_in text (drop list.inner behind) =
    (λ i. trees_in (c.of-in-List.ensures.text i).now (c.of-in-List.ensures.nodes i).now) ∙ ap (trees_in text) (take_rest behind c.min-inner.result)
    ∙ ap (λ n. trees_in text (drop n behind)) c.min-inner.ensures ∙ ap (trees_in text) (drop_min list.inner behind) in
    ap (trees_in text) (node_split nodes _ c.in-len1-up.len_at_least) ∙ ap (λ first. trees_in text (first ∷ behind)) list.is ∙ list_in text list.at list.end list.inner behind
    ∙ (λ i. a_list (place_of list.at) list.end (sym items i) (sym rest i))
