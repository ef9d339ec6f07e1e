-- Evaluation of the expression in front.
use Rattle.cil_expression.proofs.Common.{◌≡◌, length, Bool, true, false, not, ◌&&◌, ◌||◌, List, [], ◌∷◌, ◌++◌, Contains, refl, sym, ap, ◌∙◌, subst, arith, append_assoc, Expr, every, named, opposite, both, either, one_of, nothing, elements, leaves, contains-first, SetNode, nodes_of, holds_by, Answers}
use Rattle.std.proofs.Math.Bool.{beq}
use Rattle.std.proofs.lemmas.List.Elements.{Contains-append_left, Contains-append_right}
use Rattle.cil_specs.specs.Sets.{differ}
use Rattle.cil_parse.specs.declared.row.SetNode.TheVariants as nodes
use Rattle.cil_expression.specs.Evaluation.{Begins, IsValue, AreValues}

-- the expression is one of a node with these operands
record IsOne {leaf : Type 0} (op : Expr leaf → Expr leaf) (e : Expr leaf) (behind : List SetNode) (names : List leaf) (more : List SetNode) (others : List leaf) : Type 0 where
  x : Expr leaf
  is : e ≡ op x
  begins : Begins behind names x more others

record IsTwo {leaf : Type 0} (op : Expr leaf → Expr leaf → Expr leaf) (e : Expr leaf) (behind : List SetNode) (names : List leaf) (more : List SetNode) (others : List leaf) : Type 0 where
  x : Expr leaf
  y : Expr leaf
  is : e ≡ op x y
  nodes_are : behind ≡ (nodes_of x ++ nodes_of y) ++ more
  names_are : names ≡ (leaves x ++ leaves y) ++ others

record IsName {leaf : Type 0} (e : Expr leaf) (behind : List SetNode) (names : List leaf) (more : List SetNode) (others : List leaf) : Type 0 where
  l : leaf
  is : e ≡ named l
  nodes_are : behind ≡ more
  names_are : names ≡ l ∷ others

record IsBare {leaf : Type 0} (bare e : Expr leaf) (behind : List SetNode) (names : List leaf) (more : List SetNode) (others : List leaf) : Type 0 where
  is : e ≡ bare
  nodes_are : behind ≡ more
  names_are : names ≡ others

-- what an expression is by its first node
Opens : {leaf : Type 0} → SetNode → Expr leaf → List SetNode → List leaf → List SetNode → List leaf → Type 0
Opens nodes.All = IsBare every
Opens nodes.Name = IsName
Opens nodes.Not = IsOne opposite
Opens nodes.And = IsTwo both
Opens nodes.Or = IsTwo either
Opens nodes.Xor = IsTwo one_of
Opens nodes.Nothing = IsBare nothing
Opens nodes.Element = IsTwo elements

head-is : {X : Type 0} (x y : X) (xs ys : List X) → x ∷ xs ≡ y ∷ ys → x ≡ y
head-is x y xs ys e = cc

tail-is : {X : Type 0} (x y : X) (xs ys : List X) → x ∷ xs ≡ y ∷ ys → xs ≡ ys
tail-is x y xs ys e = cc

opened : {leaf : Type 0} (node : SetNode) (behind : List SetNode) (names : List leaf) (e : Expr leaf) (more : List SetNode) (others : List leaf)
    → Begins (node ∷ behind) names e more others → Opens node e behind names more others
unfolding Opens
opened node behind names every more others b =
    subst (λ n. Opens n every behind names more others) (sym (head-is node nodes.All behind more b.nodes_are))
    (record { is = refl; nodes_are = tail-is node nodes.All behind more b.nodes_are; names_are = b.names_are })
opened node behind names (named l) more others b =
    subst (λ n. Opens n (named l) behind names more others) (sym (head-is node nodes.Name behind more b.nodes_are))
    (record { l = l; is = refl; nodes_are = tail-is node nodes.Name behind more b.nodes_are; names_are = b.names_are })
opened node behind names (opposite x) more others b =
    subst (λ n. Opens n (opposite x) behind names more others) (sym (head-is node nodes.Not behind (nodes_of x ++ more) b.nodes_are))
    (record { x = x; is = refl; begins = record { nodes_are = tail-is node nodes.Not behind (nodes_of x ++ more) b.nodes_are; names_are = b.names_are } })
opened node behind names (both x y) more others b =
    subst (λ n. Opens n (both x y) behind names more others) (sym (head-is node nodes.And behind ((nodes_of x ++ nodes_of y) ++ more) b.nodes_are))
    (record { x = x; y = y; is = refl; nodes_are = tail-is node nodes.And behind ((nodes_of x ++ nodes_of y) ++ more) b.nodes_are; names_are = b.names_are })
opened node behind names (either x y) more others b =
    subst (λ n. Opens n (either x y) behind names more others) (sym (head-is node nodes.Or behind ((nodes_of x ++ nodes_of y) ++ more) b.nodes_are))
    (record { x = x; y = y; is = refl; nodes_are = tail-is node nodes.Or behind ((nodes_of x ++ nodes_of y) ++ more) b.nodes_are; names_are = b.names_are })
opened node behind names (one_of x y) more others b =
    subst (λ n. Opens n (one_of x y) behind names more others) (sym (head-is node nodes.Xor behind ((nodes_of x ++ nodes_of y) ++ more) b.nodes_are))
    (record { x = x; y = y; is = refl; nodes_are = tail-is node nodes.Xor behind ((nodes_of x ++ nodes_of y) ++ more) b.nodes_are; names_are = b.names_are })
opened node behind names nothing more others b =
    subst (λ n. Opens n nothing behind names more others) (sym (head-is node nodes.Nothing behind more b.nodes_are))
    (record { is = refl; nodes_are = tail-is node nodes.Nothing behind more b.nodes_are; names_are = b.names_are })
opened node behind names (elements x y) more others b =
    subst (λ n. Opens n (elements x y) behind names more others) (sym (head-is node nodes.Element behind ((nodes_of x ++ nodes_of y) ++ more) b.nodes_are))
    (record { x = x; y = y; is = refl; nodes_are = tail-is node nodes.Element behind ((nodes_of x ++ nodes_of y) ++ more) b.nodes_are; names_are = b.names_are })

pub at-node : {leaf : Type 0} (known : leaf → Bool → Type 0) (node is : SetNode) (behind : List SetNode) (names : List leaf) (found : Bool) (left : List SetNode) (rest : List leaf)
    → node ≡ is → IsValue known (is ∷ behind) names found left rest → IsValue known (node ∷ behind) names found left rest
at-node known node is behind names found left rest e v = subst (λ n. IsValue known (n ∷ behind) names found left rest) (sym e) v

pub in-place : {leaf : Type 0} (known : leaf → Bool → Type 0) (spelling is : List SetNode) (names are : List leaf) (found : Bool) (left : List SetNode) (rest : List leaf)
    → spelling ≡ is → are ≡ names → IsValue known is are found left rest → IsValue known spelling names found left rest
in-place known spelling is names are found left rest s n v = subst (λ l. IsValue known l names found left rest) (sym s) (subst (λ l. IsValue known is l found left rest) n v)

-- one node with no operand
pub all-value : {leaf : Type 0} (known : leaf → Bool → Type 0) (behind : List SetNode) (names : List leaf) → IsValue known (nodes.All ∷ behind) names true behind names
unfolding Opens
all-value known behind names e more others value b answers =
    let o = opened nodes.All behind names e more others b in
    record { value_is = ap (holds_by value) (sym o.is); nodes_are = o.nodes_are; names_are = o.names_are }

pub nothing-value : {leaf : Type 0} (known : leaf → Bool → Type 0) (behind : List SetNode) (names : List leaf) → IsValue known (nodes.Nothing ∷ behind) names false behind names
unfolding Opens
nothing-value known behind names e more others value b answers =
    let o = opened nodes.Nothing behind names e more others b in
    record { value_is = ap (holds_by value) (sym o.is); nodes_are = o.nodes_are; names_are = o.names_are }

-- a name, by what known answers for it
pub name-value : {leaf : Type 0} (known : leaf → Bool → Type 0) (behind : List SetNode) (names left : List leaf) (l : leaf) (holds : Bool) → names ≡ l ∷ left → known l holds → IsValue known (nodes.Name ∷ behind) names holds behind left
unfolding Opens
name-value known behind names left l holds split answer e more others value b answers =
    let o = opened nodes.Name behind names e more others b in
    let is = sym split ∙ o.names_are in
    let same = head-is l o.l left others is in
    let here : Contains (o.l ∷ []) l = subst (λ k. Contains (k ∷ []) l) same (contains-first l []) in
    let within : Contains (leaves e) l = subst (λ k. Contains (leaves k) l) (sym o.is) here in
    record { value_is = answers l holds within answer ∙ ap value same ∙ ap (holds_by value) (sym o.is); nodes_are = o.nodes_are; names_are = tail-is l o.l left others is }

-- no expression begins with a name where none is left
pub no-name-value : {leaf : Type 0} (known : leaf → Bool → Type 0) (behind : List SetNode) (names : List leaf) (holds : Bool) (left : List SetNode) (others : List leaf) → length names ≡ 0 → IsValue known (nodes.Name ∷ behind) names holds left others
unfolding Opens
no-name-value known behind names holds left rest none e more others value b answers =
    let o = opened nodes.Name behind names e more others b in
    absurd (omega (arith, none, ap length o.names_are))

-- an operator of one operand
pub not-value : {leaf : Type 0} (known : leaf → Bool → Type 0) (behind : List SetNode) (names : List leaf) (x : Bool) (left : List SetNode) (rest : List leaf) → IsValue known behind names x left rest → IsValue known (nodes.Not ∷ behind) names (not x) left rest
unfolding Opens
not-value known behind names x left rest found e more others value b answers =
    let o = opened nodes.Not behind names e more others b in
    let f = found o.x more others value o.begins (subst (λ k. Answers known (λ l. Contains (leaves k) l) value) o.is answers) in
    record { value_is = ap not f.value_is ∙ ap (holds_by value) (sym o.is); nodes_are = f.nodes_are; names_are = f.names_are }

-- two expressions one after the other
pub two-values : {leaf : Type 0} (known : leaf → Bool → Type 0) (spelling : List SetNode) (names : List leaf) (x : Bool) (behind : List SetNode) (names_behind : List leaf) (y : Bool) (left : List SetNode) (rest : List leaf)
    → IsValue known spelling names x behind names_behind → IsValue known behind names_behind y left rest → AreValues known spelling names x y left rest
two-values known spelling names first behind names_behind second left rest fx fy x y more others value n l answers =
    let f = fx x (nodes_of y ++ more) (leaves y ++ others) value (record { nodes_are = n ∙ append_assoc (nodes_of x) (nodes_of y) more; names_are = l ∙ append_assoc (leaves x) (leaves y) others })
    (λ e r c. answers e r (Contains-append_left (leaves x) (leaves y) e c)) in
    let s = fy y more others value (record { nodes_are = f.nodes_are; names_are = f.names_are }) (λ e r c. answers e r (Contains-append_right (leaves x) (leaves y) e c)) in
    record { first_is = f.value_is; second_is = s.value_is; nodes_are = s.nodes_are; names_are = s.names_are }

-- an operator of two operands
pub and-value : {leaf : Type 0} (known : leaf → Bool → Type 0) (behind : List SetNode) (names : List leaf) (x y : Bool) (left : List SetNode) (rest : List leaf) → AreValues known behind names x y left rest → IsValue known (nodes.And ∷ behind) names (x && y) left rest
unfolding Opens
and-value known behind names x y left rest found e more others value b answers =
    let o = opened nodes.And behind names e more others b in
    let f = found o.x o.y more others value o.nodes_are o.names_are (subst (λ k. Answers known (λ l. Contains (leaves k) l) value) o.is answers) in
    record { value_is = (λ i. f.first_is i && f.second_is i) ∙ ap (holds_by value) (sym o.is); nodes_are = f.nodes_are; names_are = f.names_are }

pub or-value : {leaf : Type 0} (known : leaf → Bool → Type 0) (behind : List SetNode) (names : List leaf) (x y : Bool) (left : List SetNode) (rest : List leaf) → AreValues known behind names x y left rest → IsValue known (nodes.Or ∷ behind) names (x || y) left rest
unfolding Opens
or-value known behind names x y left rest found e more others value b answers =
    let o = opened nodes.Or behind names e more others b in
    let f = found o.x o.y more others value o.nodes_are o.names_are (subst (λ k. Answers known (λ l. Contains (leaves k) l) value) o.is answers) in
    record { value_is = (λ i. f.first_is i || f.second_is i) ∙ ap (holds_by value) (sym o.is); nodes_are = f.nodes_are; names_are = f.names_are }

xor-is : (x y : Bool) → not (beq x y) ≡ differ x y
xor-is true true = refl
xor-is true false = refl
xor-is false true = refl
xor-is false false = refl

pub xor-value : {leaf : Type 0} (known : leaf → Bool → Type 0) (behind : List SetNode) (names : List leaf) (x y : Bool) (left : List SetNode) (rest : List leaf) → AreValues known behind names x y left rest → IsValue known (nodes.Xor ∷ behind) names (not (beq x y)) left rest
unfolding Opens
xor-value known behind names x y left rest found e more others value b answers =
    let o = opened nodes.Xor behind names e more others b in
    let f = found o.x o.y more others value o.nodes_are o.names_are (subst (λ k. Answers known (λ l. Contains (leaves k) l) value) o.is answers) in
    record { value_is = xor-is x y ∙ (λ i. differ (f.first_is i) (f.second_is i)) ∙ ap (holds_by value) (sym o.is); nodes_are = f.nodes_are; names_are = f.names_are }

-- Some elements of a list were gone over, and what is left is an expression that holds the others.
pub record HasLeft {leaf : Type 0} (known : leaf → Bool → Type 0) (value : leaf → Bool) (holds is : Bool) (left : List SetNode) (names : List leaf) (more : List SetNode) (others : List leaf) : Type 0 where
  pub tail : Expr leaf
  pub begins : Begins left names tail more others
  pub value_is : (holds || holds_by value tail) ≡ is
  pub answers : Answers known (λ e. Contains (leaves tail) e) value

pub GoesOver : {leaf : Type 0} → (leaf → Bool → Type 0) → List SetNode → List leaf → Bool → List SetNode → List leaf → Type 0
GoesOver {leaf} known spelling names holds left rest =
    (expr : Expr leaf) (more : List SetNode) (others : List leaf) (value : leaf → Bool) → Begins spelling names expr more others
    → Answers known (λ e. Contains (leaves expr) e) value → HasLeft known value holds (holds_by value expr) left rest more others

pub goes-first : {leaf : Type 0} (known : leaf → Bool → Type 0) (spelling : List SetNode) (names : List leaf) → GoesOver known spelling names false spelling names
unfolding GoesOver
goes-first known spelling names expr more others value b answers = record { tail = expr; begins = b; value_is = refl; answers = answers }

or_assoc : (a b c : Bool) → ((a || b) || c) ≡ (a || (b || c))
or_assoc true b c = refl
or_assoc false b c = refl

pub goes-next : {leaf : Type 0} (known : leaf → Bool → Type 0) (spelling : List SetNode) (names : List leaf) (holds : Bool) (left : List SetNode) (rest : List leaf)
    (behind : List SetNode) (names_behind : List leaf) (element : Bool) (left_more : List SetNode) (rest_more : List leaf)
    → GoesOver known spelling names holds left rest → left ≡ nodes.Element ∷ behind → names_behind ≡ rest → IsValue known behind names_behind element left_more rest_more
    → GoesOver known spelling names (holds || element) left_more rest_more
unfolding GoesOver Opens
goes-next known spelling names holds left rest behind names_behind element left_more rest_more goes split same found expr more others value b answers =
    let g = goes expr more others value b answers in
    let o = opened nodes.Element behind names_behind g.tail more others (record { nodes_are = sym split ∙ g.begins.nodes_are; names_are = same ∙ g.begins.names_are }) in
    let known_here : Answers known (λ l. Contains (leaves o.x ++ leaves o.y) l) value = subst (λ k. Answers known (λ l. Contains (leaves k) l) value) o.is g.answers in
    let f = found o.x (nodes_of o.y ++ more) (leaves o.y ++ others) value
    (record { nodes_are = o.nodes_are ∙ append_assoc (nodes_of o.x) (nodes_of o.y) more; names_are = o.names_are ∙ append_assoc (leaves o.x) (leaves o.y) others })
    (λ e r c. known_here e r (Contains-append_left (leaves o.x) (leaves o.y) e c)) in
    record {
      tail = o.y;
      begins = record { nodes_are = f.nodes_are; names_are = f.names_are };
      value_is = ap (λ h. (holds || h) || holds_by value o.y) f.value_is ∙ or_assoc holds (holds_by value o.x) (holds_by value o.y) ∙ ap (λ k. holds || holds_by value k) (sym o.is) ∙ g.value_is;
      answers = λ e r c. known_here e r (Contains-append_right (leaves o.x) (leaves o.y) e c);
    }

pub goes-end : {leaf : Type 0} (known : leaf → Bool → Type 0) (spelling : List SetNode) (names : List leaf) (holds : Bool) (left : List SetNode) (rest : List leaf) (last : Bool) (left_more : List SetNode) (rest_more : List leaf)
    → GoesOver known spelling names holds left rest → IsValue known left rest last left_more rest_more → IsValue known spelling names (holds || last) left_more rest_more
unfolding GoesOver
goes-end known spelling names holds left rest last left_more rest_more goes found expr more others value b answers =
    let g = goes expr more others value b answers in
    let f = found g.tail more others value g.begins g.answers in
    record { value_is = ap (λ h. holds || h) f.value_is ∙ g.value_is; nodes_are = f.nodes_are; names_are = f.names_are }

-- nothing stands in front where no node is left
pub none-left : {leaf : Type 0} (known : leaf → Bool → Type 0) (spelling : List SetNode) (names : List leaf) (holds : Bool) (left : List SetNode) (rest : List leaf) (left_more : List SetNode) (rest_more : List leaf)
    → GoesOver known spelling names holds left rest → length left ≡ 0 → IsValue known spelling names holds left_more rest_more
unfolding GoesOver
none-left {leaf = leaf} known spelling names holds left rest left_more rest_more goes none expr more others value b answers =
    let g = goes expr more others value b answers in
    absurd (no-nodes left rest g.tail more others none g.begins)
  where
    no-nodes : (left : List SetNode) (rest : List leaf) (e : Expr leaf) (more : List SetNode) (others : List leaf) → length left ≡ 0 → Begins left rest e more others → ⊥
    no-nodes left rest every more others none b = omega (arith, none, ap length b.nodes_are)
    no-nodes left rest _ more others none b = omega (arith, none, ap length b.nodes_are)
