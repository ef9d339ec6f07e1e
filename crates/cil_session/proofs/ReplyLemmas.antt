-- The lines of reports, one after another.
use Rattle.cil_session.proofs.Common.{◌≡◌, ℕ, zero, suc, ◌+◌, ◌<◌, List, [], ◌∷◌, ◌++◌, length, map, codes, decimal, take, Option, Some, None, Result, Ok, Err, IsErr, ◌≤◌, sym, ap, ◌∙◌, subst, append_assoc, length-append, arith, slice_get, length-map, flat_map-map, HasFailed, Gains, GainsFront, Store, install_of, disable, makes, commits, command_bytes, end_line, dump_edits, dump_commands, dump_text, gains-both, gains-then_front, front-longer, gains-pieces_more, gains-pieces_front, failed-later, Writes, edit_command, install_command, disable_command}
use Rattle.std.proofs.Common.{flat_map}
use Rattle.std.proofs.lemmas.Grind.{flat_map-append}
use Rattle.std.proofs.lemmas.Option.{slice_get_within, get_or_from_slice_get}
use Rattle.cil_stream.specs.declared.sink.SinkFault.{SinkFault}

-- a word, two numbers and a word, with what stands between them, as they are written and in a row
pub in-row : (word other a b c end first second : List ℕ) (m n : ℕ) → first ≡ decimal m → second ≡ decimal n
    → word ++ (a ++ (first ++ (b ++ (second ++ (c ++ (other ++ end)))))) ≡ word ++ a ++ decimal m ++ b ++ decimal n ++ c ++ other ++ end
in-row word other a b c end first second m n one two = (λ i. word ++ (a ++ (one i ++ (b ++ (two i ++ (c ++ (other ++ end))))))) ∙ sym (regroup (decimal m) (decimal n))
  where
    regroup : (x y : List ℕ) → word ++ a ++ x ++ b ++ y ++ c ++ other ++ end ≡ word ++ (a ++ (x ++ (b ++ (y ++ (c ++ (other ++ end))))))
    regroup x y = simp append_assoc

-- the line of the next one
pub line-more : {X : Type 0} (f : X → List ℕ) (old mid new : Option (List ℕ)) (xs : List X) (i : ℕ) (x : X) → Some x ≡ slice_get xs i → Gains old mid (flat_map f (take i xs)) → Gains mid new (f x) → Gains old new (flat_map f (take (i + 1) xs))
line-more f old mid new xs i x is so_far line =
    gains-pieces_more f old mid new xs i x (slice_get_within xs i x (sym is)) so_far (subst (λ y. Gains mid new (f y)) (sym (get_or_from_slice_get xs i x x (sym is))) line)

-- or a beginning of it
pub line-front : {X : Type 0} (f : X → List ℕ) (old mid new : Option (List ℕ)) (xs : List X) (i : ℕ) (x : X) → Some x ≡ slice_get xs i → Gains old mid (flat_map f (take i xs)) → GainsFront mid new (f x) → GainsFront old new (flat_map f xs)
line-front f old mid new xs i x is so_far front =
    gains-pieces_front f old mid new xs i x (slice_get_within xs i x (sym is)) so_far (subst (λ y. GainsFront mid new (f y)) (sym (get_or_from_slice_get xs i x x (sym is))) front)

-- there is one at each place before the end
pub some-within : {X : Type 0} (xs : List X) (i : ℕ) → i < length xs → None ≡ slice_get xs i → ⊥
some-within [] i within none = omega (arith, within)
some-within (x ∷ xs) zero within none = cc
some-within (x ∷ xs) (suc i) within none = some-within xs i (omega (arith, within)) none

-- the lines of a report and a beginning of its last line
pub report-cut : (old mid new : Option (List ℕ)) (lines : List ℕ) (n size : ℕ) → n ≡ size → Gains old mid lines → GainsFront mid new (end_line n) → GainsFront old new (lines ++ end_line size)
report-cut old mid new lines n size is gains front = subst (GainsFront old new) (ap (λ k. lines ++ end_line k) is) (gains-then_front old mid new lines (end_line n) gains front)

-- the lines of a report were written, and then its last line
pub writes-report : {W : Type 0} (taken : W → Option (List ℕ)) (failures : W → ℕ) (old mid new : W) (lines : List ℕ) (n size : ℕ) (result : Result (Unit {0}) SinkFault) → n ≡ size → Gains (taken old) (taken mid) lines → failures old ≤ failures mid
    → Writes taken failures mid new (end_line n) result → Writes taken failures old new (lines ++ end_line size) result
writes-report taken failures old mid new lines n size (Ok _) is gains before more = record {
  ok = subst (Gains (taken old) (taken new)) (ap (λ k. lines ++ end_line k) is) (gains-both (taken old) (taken mid) (taken new) lines (end_line n) gains more.ok);
  err = tt;
  failed = tt;
  counted = omega (arith, before, more.counted);
}
writes-report taken failures old mid new lines n size (Err _) is gains before more = record {
  ok = tt;
  err = report-cut (taken old) (taken mid) (taken new) lines n size is gains more.err;
  failed = failed-later (failures old) (failures mid) (failures new) before more.failed;
  counted = omega (arith, before, more.counted);
}

-- a text was written to a sink that took nothing before
pub writes-later : {W : Type 0} (taken : W → Option (List ℕ)) (failures : W → ℕ) (old mid new : W) (text : List ℕ) (result : Result (Unit {0}) SinkFault) → taken mid ≡ taken old → failures old ≤ failures mid → Writes taken failures mid new text result
    → Writes taken failures old new text result
writes-later taken failures old mid new text (Ok _) same before writes = record { ok = subst (λ t. Gains t (taken new) text) same writes.ok; err = tt; failed = tt; counted = omega (arith, before, writes.counted) }
writes-later taken failures old mid new text (Err _) same before writes = record {
  ok = tt;
  err = subst (λ t. GainsFront t (taken new) text) same writes.err;
  failed = failed-later (failures old) (failures mid) (failures new) before writes.failed;
  counted = omega (arith, before, writes.counted);
}

-- a text was written up to a failure
pub writes-cut : {W : Type 0} (taken : W → Option (List ℕ)) (failures : W → ℕ) (old mid new : W) (text : List ℕ) (result : Result (Unit {0}) SinkFault) → IsErr result → failures old ≤ failures mid → HasFailed (failures mid) (failures new) → failures mid ≤ failures new
    → GainsFront (taken old) (taken new) text → Writes taken failures old new text result
writes-cut taken failures old mid new text (Ok _) is before failed counted front = absurd (cc)
writes-cut taken failures old mid new text (Err _) is before failed counted front = record { ok = tt; err = front; failed = failed-later (failures old) (failures mid) (failures new) before failed; counted = omega (arith, before, counted) }

-- two texts were written, one after another
pub writes-both : {W : Type 0} (taken : W → Option (List ℕ)) (failures : W → ℕ) (old mid new : W) (first second : List ℕ) (done : Unit {0}) (result : Result (Unit {0}) SinkFault) → Writes taken failures old mid first (Ok done) → Writes taken failures mid new second result
    → Writes taken failures old new (first ++ second) result
writes-both taken failures old mid new first second done (Ok _) a b = record { ok = gains-both (taken old) (taken mid) (taken new) first second a.ok b.ok; err = tt; failed = tt; counted = omega (arith, a.counted, b.counted) }
writes-both taken failures old mid new first second done (Err _) a b = record {
  ok = tt;
  err = gains-then_front (taken old) (taken mid) (taken new) first second a.ok b.err;
  failed = failed-later (failures old) (failures mid) (failures new) a.counted b.failed;
  counted = omega (arith, a.counted, b.counted);
}

-- or the sink failed in the first
pub writes-first : {W : Type 0} (taken : W → Option (List ℕ)) (failures : W → ℕ) (old new : W) (first second : List ℕ) (fault : SinkFault) (result : Result (Unit {0}) SinkFault) → IsErr result → Writes taken failures old new first (Err fault)
    → Writes taken failures old new (first ++ second) result
writes-first taken failures old new first second fault (Ok _) is writes = absurd (cc)
writes-first taken failures old new first second fault (Err _) is writes = record { ok = tt; err = front-longer (taken old) (taken new) first second writes.err; failed = writes.failed; counted = writes.counted }

-- the edits of a dump are the installs of the entries, and then the disables of the disabled names
pub edits-are : (store : Store) → flat_map install_command store.entries ++ flat_map disable_command store.disabled ≡ flat_map edit_command (dump_edits store)
edits-are store =
    sym (flat_map-append edit_command (map install_of store.entries) (map disable store.disabled) ∙ (λ i. flat_map-map edit_command install_of store.entries i ++ flat_map-map edit_command disable store.disabled i))

-- a dump is these between a begin and a commit
pub dump-is : (store : Store) → codes "begin\n" ++ (flat_map edit_command (dump_edits store) ++ codes "commit\n") ≡ dump_text store
dump-is store =
    ap (λ l. codes "begin\n" ++ l)
    ((λ i. sym (flat_map-map command_bytes makes (dump_edits store)) i ++ codes "commit\n") ∙ sym (flat_map-append command_bytes (map makes (dump_edits store)) (commits ∷ [])))

pub dump-size : (store : Store) (installs disables : ℕ) → installs ≡ length store.entries → disables ≡ length store.disabled → installs + disables + 2 ≡ length (dump_commands store)
dump-size store installs disables a b =
    omega (arith, a, b, length-append (map install_of store.entries) (map disable store.disabled), length-map store.entries install_of, length-map store.disabled disable, length-append (map makes (dump_edits store)) (commits ∷ []), length-map (dump_edits store) makes)
