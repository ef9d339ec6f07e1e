-- The trees of a text are lists, and stand in order.
use Rattle.cil_specs.proofs.Common.{◌≡◌, ◌≢◌, ℕ, ◌+◌, ◌-◌, ◌<◌, ◌≤◌, true, List, [], ◌∷◌, ◌++◌, length, drop, refl, ap, sym, ◌∙◌, subst, append_assoc, append-nil, nat_le, nat_lt, arith, leb-true, le-leb, lt-ltb, Part, white, comment, word, string, opening, closing, Splits, Nests, Trees, none, a_word, a_string, a_list, Mark, word_at, string_at, opening_at, closing_before, marks, told, Reads, are_lists, in_order}
use Rattle.cil_specs.proofs.PartLemmas.{size, size-some, clean-size}
use Rattle.cil_specs.proofs.Runs.{both_true, first_true, second_true}

-- marks that stand one behind the other from an offset on lead from open lists to open lists and to another offset
abbrev pub Follows : List ℕ → ℕ → List Mark → List ℕ → ℕ → Type 0
Follows lists low [] new high = (new ≡ lists) × (low ≤ high)
Follows lists low (word_at p text ∷ ms) new high = (lists ≢ []) × (low ≤ p.offset) × (0 < length text) × Follows lists (p.offset + length text) ms new high
Follows lists low (string_at p text ∷ ms) new high = (lists ≢ []) × (low ≤ p.offset) × (0 < length text) × Follows lists (p.offset + length text) ms new high
Follows lists low (opening_at p ∷ ms) new high = (low ≤ p.offset) × Follows (p.offset ∷ lists) (p.offset + 1) ms new high
Follows lists low (closing_before end ∷ ms) new high = (inner : ℕ) × (outer : List ℕ) × (lists ≡ inner ∷ outer) × (low + 1 ≤ end) × Follows outer end ms new high

follows-from : (lists : List ℕ) (low lower : ℕ) (ms : List Mark) (new : List ℕ) (high : ℕ) → lower ≤ low → Follows lists low ms new high → Follows lists lower ms new high
follows-from lists low lower [] new high le f = (f.0, omega (arith, f.1, le))
follows-from lists low lower (word_at p text ∷ ms) new high le f = (f.0, omega (arith, f.1, le), f.2, f.3)
follows-from lists low lower (string_at p text ∷ ms) new high le f = (f.0, omega (arith, f.1, le), f.2, f.3)
follows-from lists low lower (opening_at p ∷ ms) new high le f = (omega (arith, f.0, le), f.1)
follows-from lists low lower (closing_before end ∷ ms) new high le f = (f.0, f.1, f.2, omega (arith, f.3, le), f.4)

-- the marks of parts follow one another
parts-follow : (bytes : List ℕ) (text : List ℕ) (parts : List Part) (rest : List ℕ) (lists : List ℕ) (at : ℕ) (new : List ℕ) → Splits text parts rest → Nests lists at parts new → Follows lists at (told bytes at parts) new (at + size parts)
parts-follow bytes text [] rest lists at new splits nests = (nests, omega arith)
parts-follow bytes text (white b ∷ parts) rest lists at new splits nests =
    let e : (at + 1) + size parts ≡ at + (1 + size parts) = omega arith in
    follows-from lists (at + 1) at (told bytes (at + 1) parts) new (at + (1 + size parts)) (omega arith)
    (subst (Follows lists (at + 1) (told bytes (at + 1) parts) new) e (parts-follow bytes splits.0 parts rest lists (at + 1) new splits.4 (subst (λ l. Nests l (at + 1) parts new) nests.1 nests.2)))
parts-follow bytes text (comment more ∷ parts) rest lists at new splits nests =
    let n : ℕ = length (59 ∷ more) in
    let e : (at + n) + size parts ≡ at + (n + size parts) = omega arith in
    follows-from lists (at + n) at (told bytes (at + n) parts) new (at + (n + size parts)) (omega arith)
    (subst (Follows lists (at + n) (told bytes (at + n) parts) new) e (parts-follow bytes splits.0 parts rest lists (at + n) new splits.4 (subst (λ l. Nests l (at + n) parts new) nests.1 nests.2)))
parts-follow bytes text (word more ∷ parts) rest lists at new splits nests =
    let n : ℕ = length more in
    let e : (at + n) + size parts ≡ at + (n + size parts) = omega arith in
    (nests.1.0, omega arith, size-some (word more) splits.2, subst (Follows lists (at + n) (told bytes (at + n) parts) new) e (parts-follow bytes splits.0 parts rest lists (at + n) new splits.4 (subst (λ l. Nests l (at + n) parts new) nests.1.1 nests.2)))
parts-follow bytes text (string more ∷ parts) rest lists at new splits nests =
    let n : ℕ = length (34 ∷ (more ++ 34 ∷ [])) in
    let e : (at + n) + size parts ≡ at + (n + size parts) = omega arith in
    (nests.1.0, omega arith, omega arith, subst (Follows lists (at + n) (told bytes (at + n) parts) new) e (parts-follow bytes splits.0 parts rest lists (at + n) new splits.4 (subst (λ l. Nests l (at + n) parts new) nests.1.1 nests.2)))
parts-follow bytes text (opening ∷ parts) rest lists at new splits nests =
    let e : (at + 1) + size parts ≡ at + (1 + size parts) = omega arith in
    (omega arith, subst (Follows (at ∷ lists) (at + 1) (told bytes (at + 1) parts) new) e (parts-follow bytes splits.0 parts rest (at ∷ lists) (at + 1) new splits.4 (subst (λ l. Nests l (at + 1) parts new) nests.1.1 nests.2)))
parts-follow bytes text (closing ∷ parts) rest lists at new splits nests =
    let e : (at + 1) + size parts ≡ at + (1 + size parts) = omega arith in
    (nests.1.0, nests.0, nests.1.1, omega arith, subst (Follows nests.0 (at + 1) (told bytes (at + 1) parts) new) e (parts-follow bytes splits.0 parts rest nests.0 (at + 1) new splits.4 nests.2))

in_order-more : (low : ℕ) (trees : Trees) (high higher : ℕ) → in_order low trees high ≡ true → high ≤ higher → in_order low trees higher ≡ true
in_order-more low none high higher is le = le-leb low higher (omega (arith, leb-true low high is, le))
in_order-more low (a_word at text rest) high higher is le =
    let first : nat_le low at.offset ≡ true = first_true (nat_le low at.offset) _ is in
    let others = second_true (nat_le low at.offset) _ is in
    both_true _ _ first (both_true _ _ (first_true (nat_lt 0 (length text)) _ others) (in_order-more (at.offset + length text) rest high higher (second_true (nat_lt 0 (length text)) _ others) le))
in_order-more low (a_string at text rest) high higher is le =
    let first : nat_le low at.offset ≡ true = first_true (nat_le low at.offset) _ is in
    let others = second_true (nat_le low at.offset) _ is in
    both_true _ _ first (both_true _ _ (first_true (nat_lt 0 (length text)) _ others) (in_order-more (at.offset + length text) rest high higher (second_true (nat_lt 0 (length text)) _ others) le))
in_order-more low (a_list at end items rest) high higher is le =
    let first : nat_le low at.offset ≡ true = first_true (nat_le low at.offset) _ is in
    let others = second_true (nat_le low at.offset) _ is in
    let inside = second_true (nat_lt 0 end) _ others in
    both_true _ _ first (both_true _ _ (first_true (nat_lt 0 end) _ others) (both_true _ _ (first_true (in_order (at.offset + 1) items (end - 1)) _ inside) (in_order-more end rest high higher (second_true (in_order (at.offset + 1) items (end - 1)) _ inside) le)))

-- what marks that begin with those of trees say of the trees
record Walked (lists : List ℕ) (low : ℕ) (trees : Trees) (ms : List Mark) (new : List ℕ) (high : ℕ) : Type 0 where
  end : ℕ
  ordered : in_order low trees end ≡ true
  lists_alone : lists ≡ [] → are_lists trees ≡ true
  others : Follows lists end ms new high

walk : (lists : List ℕ) (low : ℕ) (trees : Trees) (ms : List Mark) (new : List ℕ) (high : ℕ) → Follows lists low (marks trees ++ ms) new high → Walked lists low trees ms new high
walk lists low none ms new high f = record { end = low; ordered = le-leb low low (omega arith); lists_alone = λ e. refl; others = f }
walk lists low (a_word at text rest) ms new high f =
    let more = walk lists (at.offset + length text) rest ms new high f.3 in
    record {
      end = more.end;
      ordered = both_true _ _ (le-leb low at.offset f.1) (both_true _ _ (lt-ltb 0 (length text) f.2) more.ordered);
      lists_alone = λ e. absurd (f.0 e);
      others = more.others;
    }
walk lists low (a_string at text rest) ms new high f =
    let more = walk lists (at.offset + length text) rest ms new high f.3 in
    record {
      end = more.end;
      ordered = both_true _ _ (le-leb low at.offset f.1) (both_true _ _ (lt-ltb 0 (length text) f.2) more.ordered);
      lists_alone = λ e. absurd (f.0 e);
      others = more.others;
    }
walk lists low (a_list at end items rest) ms new high f =
    let regrouped : (marks items ++ closing_before end ∷ marks rest) ++ ms ≡ marks items ++ (closing_before end ∷ (marks rest ++ ms)) = append_assoc (marks items) (closing_before end ∷ marks rest) ms in
    let inside = walk (at.offset ∷ lists) (at.offset + 1) items (closing_before end ∷ (marks rest ++ ms)) new high (subst (λ l. Follows (at.offset ∷ lists) (at.offset + 1) l new high) regrouped f.1) in
    let closed = inside.others in
    let outer : closed.1 ≡ lists = ap (drop 1) (sym closed.2) in
    let more = walk lists end rest ms new high (subst (λ l. Follows l end (marks rest ++ ms) new high) outer closed.4) in
    record {
      end = more.end;
      ordered =
          both_true _ _ (le-leb low at.offset f.0) (both_true _ _ (lt-ltb 0 end (omega (arith, closed.3)))
          (both_true _ _ (in_order-more (at.offset + 1) items inside.end (end - 1) inside.ordered (omega (arith, closed.3))) more.ordered));
      lists_alone = λ e. more.lists_alone e;
      others = more.others;
    }

reading-walked : (bytes : List ℕ) (trees : Trees) → Reads bytes trees → Walked [] 0 trees [] [] (0 + length bytes)
reading-walked bytes trees reads =
    let clean = reads.1 in
    let whole : size reads.0 ≡ length bytes = clean-size bytes (length bytes) [] reads.0 clean in
    let follows = parts-follow bytes bytes reads.0 (drop (length bytes) bytes) [] 0 [] clean.splits clean.nests in
    walk [] 0 trees [] [] (0 + length bytes)
    (subst (λ l. Follows [] 0 l [] (0 + length bytes)) (reads.2 ∙ sym (append-nil (marks trees))) (subst (λ n. Follows [] 0 (told bytes 0 reads.0) [] (0 + n)) whole follows))

-- each tree of a text is a list
pub reading-lists : (bytes : List ℕ) (trees : Trees) → Reads bytes trees → are_lists trees ≡ true
reading-lists bytes trees reads = (reading-walked bytes trees reads).lists_alone refl

-- the trees of a text stand in order
pub reading-in_order : (bytes : List ℕ) (trees : Trees) (high : ℕ) → Reads bytes trees → length bytes ≤ high → in_order 0 trees high ≡ true
reading-in_order bytes trees high reads le =
    let walked = reading-walked bytes trees reads in
    in_order-more 0 trees walked.end high walked.ordered (omega (arith, walked.others.1, le))
