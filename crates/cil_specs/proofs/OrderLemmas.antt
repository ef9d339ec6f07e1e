-- Trees in order, and the words in them.
use Rattle.cil_specs.proofs.Common.{◌≡◌, ℕ, ◌+◌, ◌-◌, ◌<◌, ◌≤◌, nat_le, nat_lt, ◌≢◌, ◌⊎◌, inl, inr, List, [], ◌∷◌, ◌++◌, length, map, get_or, zero, suc, sym, ◌∙◌, ap, subst, refl, codes, IsTrue, arith, and_parts, and_from, leb-true, ltb-true, le-leb, map-append, Place, Word, Role, Trees, none, a_word, a_string, a_list, in_order, WordExpr, every, named, opposite, both, either, one_of, nothing, elements, IsOperationThen, Expresses, Lists, leaves, Target, itself, the_named, as_declared, as_referred, target_words, Form, block, optional, type_name, type_alias, alias_actual, type_attribute, attribute_set, common, class, class_common, class_order, class_permission, class_permission_set, rule, ClassPermissions, anonymous, by_name, words_of, permission_words, rise_from, put_word, all_words, IsWordList, IsTargetThen, IsClassList, IsExpressionList, IsClassAndPermissions, ArePermissions}
use Rattle.cil_specs.proofs.FormLemmas.{IsNameAndList, OperandsFit}

-- numbers that rise from one on and stay below another
abbrev pub RiseTo : ℕ → List ℕ → ℕ → Type 0
RiseTo low [] high = low ≤ high
RiseTo low (n ∷ ns) high = (low ≤ n) × RiseTo (n + 1) ns high

pub rise_le : (low : ℕ) (ns : List ℕ) (high : ℕ) → RiseTo low ns high → low ≤ high
rise_le low [] high h = h
rise_le low (n ∷ ns) high h = omega (arith, h.0, rise_le (n + 1) ns high h.1)

pub rise_join : (low : ℕ) (ns : List ℕ) (mid : ℕ) (ms : List ℕ) (high : ℕ) → RiseTo low ns mid → RiseTo mid ms high → RiseTo low (ns ++ ms) high
rise_join low [] mid [] high h k = omega (arith, h, k)
rise_join low [] mid (m ∷ ms) high h k = (omega (arith, h, k.0), k.1)
rise_join low (n ∷ ns) mid ms high h k = (h.0, rise_join (n + 1) ns mid ms high h.1 k)

pub rise_within : (low : ℕ) (ns : List ℕ) (high i d : ℕ) → i < length ns → RiseTo low ns high → (low ≤ get_or ns i d) × (get_or ns i d < high)
rise_within low [] high i d within h = absurd (omega arith)
rise_within low (n ∷ ns) high zero d within h = (h.0, omega (arith, rise_le (n + 1) ns high h.1))
rise_within low (n ∷ ns) high (suc i) d within h =
    let p = rise_within (n + 1) ns high i d (omega arith) h.1 in
    (omega (arith, h.0, p.0), p.1)

pub rise_from_is : (low : ℕ) (ns : List ℕ) (high : ℕ) → RiseTo low ns high → IsTrue (rise_from low ns)
rise_from_is low [] high h = refl
rise_from_is low (n ∷ ns) high h = and_from (nat_le low n) (rise_from (n + 1) ns) (le-leb low n h.0) (rise_from_is (n + 1) ns high h.1)

-- between wider bounds
pub rise_wide : (less low : ℕ) (ns : List ℕ) (high more : ℕ) → less ≤ low → RiseTo low ns high → high ≤ more → RiseTo less ns more
rise_wide less low [] high more p h q = omega (arith, p, h, q)
rise_wide less low (n ∷ ns) high more p h q = (omega (arith, p, h.0), rise_wide (n + 1) (n + 1) ns high more (omega arith) h.1 q)

abbrev pub offset_of : Word → ℕ
offset_of w = w.at.offset

abbrev pub role_offset : Role × Word → ℕ
role_offset word = word.1.at.offset

-- What stands in order at a word, and at a list.

pub order_none : (low high : ℕ) → IsTrue (in_order low none high) → low ≤ high
order_none low high h = leb-true low high h

pub order_word : (low : ℕ) (at : Place) (bytes : List ℕ) (rest : Trees) (high : ℕ) → IsTrue (in_order low (a_word at bytes rest) high)
    → (low ≤ at.offset) × (at.offset < at.offset + length bytes) × IsTrue (in_order (at.offset + length bytes) rest high)
order_word low at bytes rest high h =
    let p = and_parts (nat_le low at.offset) _ h in
    let q = and_parts (nat_lt 0 (length bytes)) _ p.1 in
    (leb-true low at.offset p.0, omega (arith, ltb-true 0 (length bytes) q.0), q.1)

pub order_list : (low : ℕ) (at : Place) (end : ℕ) (items rest : Trees) (high : ℕ) → IsTrue (in_order low (a_list at end items rest) high)
    → (low ≤ at.offset) × (0 < end) × IsTrue (in_order (at.offset + 1) items (end - 1)) × IsTrue (in_order end rest high)
order_list low at end items rest high h =
    let p = and_parts (nat_le low at.offset) _ h in
    let q = and_parts (nat_lt 0 end) _ p.1 in
    let r = and_parts (in_order (at.offset + 1) items (end - 1)) (in_order end rest high) q.1 in
    (leb-true low at.offset p.0, ltb-true 0 end q.0, r.0, r.1)

pub order_le : (low : ℕ) (trees : Trees) (high : ℕ) → IsTrue (in_order low trees high) → low ≤ high
order_le low none high h = order_none low high h
order_le low (a_word at bytes rest) high h =
    let p = order_word low at bytes rest high h in
    omega (arith, p.0, p.1, order_le (at.offset + length bytes) rest high p.2)
order_le low (a_string at bytes rest) high h =
    let p = order_word low at bytes rest high h in
    omega (arith, p.0, p.1, order_le (at.offset + length bytes) rest high p.2)
order_le low (a_list at end items rest) high h =
    let p = order_list low at end items rest high h in
    omega (arith, p.0, p.1, order_le (at.offset + 1) items (end - 1) p.2, order_le end rest high p.3)

-- The offsets rise from one on, and the rest stands in order behind them.
abbrev pub RiseThen : ℕ → List ℕ → Trees → ℕ → Type 0
RiseThen low ns rest high = (mid : ℕ) × RiseTo low ns mid × IsTrue (in_order mid rest high)

-- what rises inside a list rises before what follows it
rise_list : (low : ℕ) (at : Place) (end : ℕ) (items rest : Trees) (high : ℕ) (ns : List ℕ) → IsTrue (in_order low (a_list at end items rest) high)
    → (IsTrue (in_order (at.offset + 1) items (end - 1)) → RiseTo (at.offset + 1) ns (end - 1)) → RiseThen low ns rest high
rise_list low at end items rest high ns h inside =
    let p = order_list low at end items rest high h in
    (end, rise_wide low (at.offset + 1) ns (end - 1) end (omega (arith, p.0)) (inside p.2) (omega arith), p.3)

-- the same behind a word that stands first in the list
rise_behind : (low : ℕ) (at : Place) (word : List ℕ) (operands : Trees) (high : ℕ) (ns : List ℕ) → IsTrue (in_order low (a_word at word operands) high)
    → ((from : ℕ) → IsTrue (in_order from operands high) → RiseTo from ns high) → RiseTo low ns high
rise_behind low at word operands high ns h inside =
    let p = order_word low at word operands high h in
    rise_wide low (at.offset + length word) ns high high (omega (arith, p.0, p.1)) (inside (at.offset + length word) p.2) (omega arith)

rise_operation : (trees operands rest : Trees) (operator : List ℕ) (low high : ℕ) (ns : List ℕ) → IsOperationThen trees operator operands rest → IsTrue (in_order low trees high)
    → ((from to : ℕ) → IsTrue (in_order from operands to) → RiseTo from ns to) → RiseThen low ns rest high
rise_operation trees operands rest operator low high ns h order inside =
    let path : trees ≡ a_list h.1.0 h.1.1 (a_word h.2 operator operands) rest = h.1.2 ∙ ap (λ items. a_list h.1.0 h.1.1 items rest) h.3 in
    rise_list low h.1.0 h.1.1 (a_word h.2 operator operands) rest high ns (subst (λ t. IsTrue (in_order low t high)) path order)
    (λ within. rise_behind (h.1.0.offset + 1) h.2 operator operands (h.1.1 - 1) ns within (λ from o. inside from (h.1.1 - 1) o))

-- with nothing behind them they end before the end
rise_end : (low : ℕ) (ns : List ℕ) (high : ℕ) → RiseThen low ns none high → RiseTo low ns high
rise_end low ns high h = rise_wide low low ns h.0 high (omega arith) h.1 (order_none h.0 high h.2)

rise_both : (low : ℕ) (vs ws : List Word) (second : Trees) (high : ℕ) → RiseThen low (map offset_of vs) second high → ((from : ℕ) → IsTrue (in_order from second high) → RiseTo from (map offset_of ws) high)
    → RiseTo low (map offset_of (vs ++ ws)) high
rise_both low vs ws second high h k =
    subst (λ ns. RiseTo low ns high) (sym (map-append offset_of vs ws)) (rise_join low (map offset_of vs) h.0 (map offset_of ws) high h.1 (k h.0 h.2))

pub put_order : (w : Word) (low : ℕ) (rest : Trees) (high : ℕ) → IsTrue (in_order low (put_word w rest) high) → (mid : ℕ) × (low ≤ w.at.offset) × (w.at.offset + 1 ≤ mid) × IsTrue (in_order mid rest high)
put_order w low rest high h =
    let p = order_word low w.at w.text rest high h in
    (w.at.offset + length w.text, p.0, omega (arith, p.1), p.2)

mutual
  -- the words of an expression
  pub expr_rises : (e : WordExpr) (trees rest : Trees) (low high : ℕ) → Expresses trees e rest → IsTrue (in_order low trees high) → RiseThen low (map offset_of (leaves e)) rest high
  expr_rises every trees rest low high (inl h) order =
      let p = order_word low h.0 (codes "all") rest high (subst (λ t. IsTrue (in_order low t high)) h.1 order) in
      (h.0.offset + length (codes "all"), omega (arith, p.0, p.1), p.2)
  expr_rises every trees rest low high (inr h) order = rise_operation trees none rest (codes "all") low high [] h order (λ from to o. order_none from to o)
  expr_rises (named w) trees rest low high h order =
      let p = put_order w low rest high (subst (λ t. IsTrue (in_order low t high)) h.0 order) in
      (p.0, (p.1, p.2), p.3)
  expr_rises (opposite x) trees rest low high h order =
      rise_operation trees h.0 rest (codes "not") low high (map offset_of (leaves x)) h.1 order (λ from to o. rise_end from (map offset_of (leaves x)) to (expr_rises x h.0 none from to h.2 o))
  expr_rises (both x y) trees rest low high h order =
      rise_operation trees h.0 rest (codes "and") low high (map offset_of (leaves x ++ leaves y)) h.2 order
      (λ from to o. rise_both from (leaves x) (leaves y) h.1 to (expr_rises x h.0 h.1 from to h.3 o) (λ mid m. rise_end mid (map offset_of (leaves y)) to (expr_rises y h.1 none mid to h.4 m)))
  expr_rises (either x y) trees rest low high h order =
      rise_operation trees h.0 rest (codes "or") low high (map offset_of (leaves x ++ leaves y)) h.2 order
      (λ from to o. rise_both from (leaves x) (leaves y) h.1 to (expr_rises x h.0 h.1 from to h.3 o) (λ mid m. rise_end mid (map offset_of (leaves y)) to (expr_rises y h.1 none mid to h.4 m)))
  expr_rises (one_of x y) trees rest low high h order =
      rise_operation trees h.0 rest (codes "xor") low high (map offset_of (leaves x ++ leaves y)) h.2 order
      (λ from to o. rise_both from (leaves x) (leaves y) h.1 to (expr_rises x h.0 h.1 from to h.3 o) (λ mid m. rise_end mid (map offset_of (leaves y)) to (expr_rises y h.1 none mid to h.4 m)))
  expr_rises nothing trees rest low high h order =
      rise_list low h.0 h.1 none rest high [] (subst (λ t. IsTrue (in_order low t high)) h.2 order) (λ o. order_none (h.0.offset + 1) (h.1 - 1) o)
  expr_rises (elements x more) trees rest low high h order =
      rise_list low h.2.0 h.2.1 h.0 rest high (map offset_of (leaves x ++ leaves more)) (subst (λ t. IsTrue (in_order low t high)) h.2.2 order)
      (λ o. rise_both (h.2.0.offset + 1) (leaves x) (leaves more) h.1 (h.2.1 - 1) (expr_rises x h.0 h.1 (h.2.0.offset + 1) (h.2.1 - 1) h.4 o) (λ mid m. elements_rise more h.1 mid (h.2.1 - 1) h.5 m))

  pub elements_rise : (e : WordExpr) (trees : Trees) (low high : ℕ) → Lists trees e → IsTrue (in_order low trees high) → RiseTo low (map offset_of (leaves e)) high
  elements_rise nothing trees low high h order = order_none low high (subst (λ t. IsTrue (in_order low t high)) h order)
  elements_rise (elements x more) trees low high h order =
      rise_both low (leaves x) (leaves more) h.0 high (expr_rises x trees h.0 low high h.1 order) (λ mid m. elements_rise more h.0 mid high h.2 m)
  elements_rise _ trees low high h order = absurd h

-- the words of a list and nothing else
all_rise : (ws : List Word) (low high : ℕ) → IsTrue (in_order low (all_words ws) high) → RiseTo low (map offset_of ws) high
all_rise [] low high order = order_none low high order
all_rise (w ∷ ws) low high order =
    let p = put_order w low (all_words ws) high order in
    (p.1, rise_wide (w.at.offset + 1) p.0 (map offset_of ws) high high p.2 (all_rise ws p.0 high p.3) (omega arith))

word_list_rises : (ws : List Word) (trees : Trees) (low high : ℕ) → IsWordList trees ws → IsTrue (in_order low trees high) → RiseTo low (map offset_of ws) high
word_list_rises ws trees low high h order =
    rise_end low (map offset_of ws) high (rise_list low h.0 h.1 (all_words ws) none high (map offset_of ws) (subst (λ t. IsTrue (in_order low t high)) h.2 order) (λ o. all_rise ws (h.0.offset + 1) (h.1 - 1) o))

pub declared_offsets : (ws : List Word) → map role_offset (map as_declared ws) ≡ map offset_of ws
declared_offsets [] = refl
declared_offsets (w ∷ ws) = ap (λ ns. w.at.offset ∷ ns) (declared_offsets ws)

pub referred_offsets : (ws : List Word) → map role_offset (map as_referred ws) ≡ map offset_of ws
referred_offsets [] = refl
referred_offsets (w ∷ ws) = ap (λ ns. w.at.offset ∷ ns) (referred_offsets ws)

-- a word in front of others
put_rises : (w : Word) (ns : List ℕ) (trees rest inner : Trees) (low high : ℕ) → trees ≡ put_word w rest → IsTrue (in_order low trees high)
    → ((from : ℕ) → IsTrue (in_order from rest high) → RiseThen from ns inner high) → RiseThen low (w.at.offset ∷ ns) inner high
put_rises w ns trees rest inner low high is order next =
    let p = put_order w low rest high (subst (λ t. IsTrue (in_order low t high)) is order) in
    let q = next p.0 p.3 in
    (q.0, (p.1, rise_wide (w.at.offset + 1) p.0 ns q.0 q.0 p.2 q.1 (omega arith)), q.2)

-- none and no trees
none_rises : (inner : Trees) (from high : ℕ) → inner ≡ none → IsTrue (in_order from none high) → RiseThen from [] inner high
none_rises inner from high is order = (high, order_none from high order, subst (λ t. IsTrue (in_order high t high)) (sym is) (le-leb high high (omega arith)))

-- numbers that rise to the end, and no trees
end_rises : (ns : List ℕ) (inner : Trees) (from high : ℕ) → inner ≡ none → RiseTo from ns high → RiseThen from ns inner high
end_rises ns inner from high is rises = (high, rises, subst (λ t. IsTrue (in_order high t high)) (sym is) (le-leb high high (omega arith)))

one_rises : (id : Word) (operands inner : Trees) (low high : ℕ) → operands ≡ put_word id none → inner ≡ none → IsTrue (in_order low operands high) → RiseThen low (id.at.offset ∷ []) inner high
one_rises id operands inner low high is empty order = put_rises id [] operands none inner low high is order (λ from o. none_rises inner from high empty o)

two_rise : (v w : Word) (operands inner : Trees) (low high : ℕ) → operands ≡ put_word v (put_word w none) → inner ≡ none → IsTrue (in_order low operands high) → RiseThen low (v.at.offset ∷ w.at.offset ∷ []) inner high
two_rise v w operands inner low high is empty order =
    put_rises v (w.at.offset ∷ []) operands (put_word w none) inner low high is order (λ from o. one_rises w (put_word w none) inner from high refl empty o)

name_and_list_rise : (id : Word) (ws : List Word) (operands inner : Trees) (low high : ℕ) → IsNameAndList operands id ws → inner ≡ none → IsTrue (in_order low operands high)
    → RiseThen low (id.at.offset ∷ map role_offset (map as_declared ws)) inner high
name_and_list_rise id ws operands inner low high h empty order =
    put_rises id (map role_offset (map as_declared ws)) operands h.0 inner low high h.1 order
    (λ from o. end_rises (map role_offset (map as_declared ws)) inner from high empty (subst (λ ns. RiseTo from ns high) (sym (declared_offsets ws)) (word_list_rises ws h.0 from high h.2 o)))

-- the words of a target
target_rises : (x : Target) (ns : List ℕ) (trees rest inner : Trees) (low high : ℕ) → IsTargetThen trees x rest → IsTrue (in_order low trees high)
    → ((from : ℕ) → IsTrue (in_order from rest high) → RiseThen from ns inner high) → RiseThen low (map role_offset (map as_referred (target_words x)) ++ ns) inner high
target_rises itself ns trees rest inner low high h order next =
    let p = order_word low h.0 (codes "self") rest high (subst (λ t. IsTrue (in_order low t high)) h.1 order) in
    let q = next (h.0.offset + length (codes "self")) p.2 in
    (q.0, rise_wide low (h.0.offset + length (codes "self")) ns q.0 q.0 (omega (arith, p.0, p.1)) q.1 (omega arith), q.2)
target_rises (the_named w) ns trees rest inner low high h order next = put_rises w ns trees rest inner low high h.0 order next

class_list_rises : (ws : List Word) (trees : Trees) (low high : ℕ) → IsClassList trees ws → IsTrue (in_order low trees high) → RiseTo low (map offset_of ws) high
class_list_rises ws trees low high (items, list, found) order =
    rise_end low (map offset_of ws) high
    (rise_list low list.0 list.1 items none high (map offset_of ws) (subst (λ t. IsTrue (in_order low t high)) list.2 order) (λ o. inside found (list.0.offset + 1) (list.1 - 1) o))
  where
    inside : ((at : Place) × (items ≡ a_word at (codes "unordered") (all_words ws))) ⊎ ((items ≡ all_words ws) × ((at : Place) (rest : Trees) → items ≢ a_word at (codes "unordered") rest))
        → (from to : ℕ) → IsTrue (in_order from items to) → RiseTo from (map offset_of ws) to
    inside (inl h) from to o = rise_behind from h.0 (codes "unordered") (all_words ws) to (map offset_of ws) (subst (λ t. IsTrue (in_order from t to)) h.1 o) (λ behind b. all_rise ws behind to b)
    inside (inr h) from to o = all_rise ws from to (subst (λ t. IsTrue (in_order from t to)) h.0 o)

-- a class and an expression of permissions
class_then_expr_rises : (id : Word) (e : WordExpr) (items list : Trees) (low high : ℕ) → items ≡ put_word id list → IsExpressionList list e → IsTrue (in_order low items high)
    → RiseThen low (id.at.offset ∷ map role_offset (map as_declared (leaves e))) none high
class_then_expr_rises id e items list low high is h order =
    put_rises id (map role_offset (map as_declared (leaves e))) items list none low high is order
    (λ from o. end_rises (map role_offset (map as_declared (leaves e))) none from high refl
    (subst (λ ns. RiseTo from ns high) (sym (declared_offsets (leaves e))) (rise_end from (map offset_of (leaves e)) high (expr_rises e list none from high h.2 o))))

class_and_permissions_rise : (id : Word) (e : WordExpr) (trees inner : Trees) (low high : ℕ) → IsClassAndPermissions trees id e → inner ≡ none → IsTrue (in_order low trees high)
    → RiseThen low (id.at.offset ∷ map role_offset (map as_declared (leaves e))) inner high
class_and_permissions_rise id e trees inner low high h empty order =
    let list = h.2 in
    let ns : List ℕ = id.at.offset ∷ map role_offset (map as_declared (leaves e)) in
    end_rises ns inner low high empty (rise_end low ns high (rise_list low list.0 list.1 h.0 none high ns (subst (λ t. IsTrue (in_order low t high)) list.2 order)
    (λ o. rise_end (list.0.offset + 1) ns (list.1 - 1) (class_then_expr_rises id e h.0 h.1 (list.0.offset + 1) (list.1 - 1) h.3 h.4 o))))

-- the words of a rule's permissions
permissions_rise : (x : ClassPermissions) (trees inner : Trees) (low high : ℕ) → ArePermissions trees x → inner ≡ none → IsTrue (in_order low trees high)
    → RiseThen low (map role_offset (permission_words x)) inner high
permissions_rise (anonymous id e) trees inner low high h empty order = class_and_permissions_rise id e trees inner low high h empty order
permissions_rise (by_name id) trees inner low high h empty order = one_rises id trees inner low high h empty order

-- the words of a form rise, and its inner statements stand behind them
pub words_rise : (form : Form) (operands inner : Trees) (low high : ℕ) → OperandsFit operands form inner → IsTrue (in_order low operands high) → RiseThen low (map role_offset (words_of form)) inner high
words_rise (block id) operands inner low high h order = put_rises id [] operands inner inner low high h.0 order (λ from o. (from, omega arith, o))
words_rise (optional id) operands inner low high h order = put_rises id [] operands inner inner low high h.0 order (λ from o. (from, omega arith, o))
words_rise (type_name id) operands inner low high h order = one_rises id operands inner low high h.0 h.1 order
words_rise (type_alias id) operands inner low high h order = one_rises id operands inner low high h.0 h.1 order
words_rise (alias_actual v w) operands inner low high h order = two_rise v w operands inner low high h.0 h.1 order
words_rise (type_attribute id) operands inner low high h order = one_rises id operands inner low high h.0 h.1 order
words_rise (attribute_set attribute expr) operands inner low high h order =
    put_rises attribute (map role_offset (map as_referred (leaves expr))) operands h.0.0 inner low high h.0.1 order
    (λ from o. end_rises (map role_offset (map as_referred (leaves expr))) inner from high h.1
    (subst (λ ns. RiseTo from ns high) (sym (referred_offsets (leaves expr))) (rise_end from (map offset_of (leaves expr)) high (expr_rises expr h.0.0 none from high h.0.2 o))))
words_rise (common id permissions) operands inner low high h order = name_and_list_rise id permissions operands inner low high h.0 h.1 order
words_rise (class id permissions) operands inner low high h order = name_and_list_rise id permissions operands inner low high h.0 h.1 order
words_rise (class_common v w) operands inner low high h order = two_rise v w operands inner low high h.0 h.1 order
words_rise (class_order classes) operands inner low high h order =
    end_rises (map role_offset (map as_referred classes)) inner low high h.1 (subst (λ ns. RiseTo low ns high) (sym (referred_offsets classes)) (class_list_rises classes operands low high h.0 order))
words_rise (class_permission id) operands inner low high h order = one_rises id operands inner low high h.0 h.1 order
words_rise (class_permission_set set the_class permissions) operands inner low high h order =
    put_rises set (the_class.at.offset ∷ map role_offset (map as_declared (leaves permissions))) operands h.0.0 inner low high h.0.1 order
    (λ from o. class_and_permissions_rise the_class permissions h.0.0 inner from high h.0.2 h.1 o)
words_rise (rule kind source target permissions) operands inner low high h order =
    let last : List ℕ = map role_offset (permission_words permissions) in
    subst (λ ns. RiseThen low ns inner high) (sym (ap (λ ns. source.at.offset ∷ ns) (map-append role_offset (map as_referred (target_words target)) (permission_words permissions))))
    (put_rises source (map role_offset (map as_referred (target_words target)) ++ last) operands h.0.0 inner low high h.0.2 order
    (λ from o. target_rises target last h.0.0 h.0.1 inner from high h.0.3 o (λ behind b. permissions_rise permissions h.0.1 inner behind high h.0.4 h.1 b)))
