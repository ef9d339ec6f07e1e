use Rattle.cil_member_updates.proofs.Common.{◌≡◌, ◌+◌, ◌/◌, ℕ, length, list_any, take, MayHold, is_set, name_holds}
use Rattle.cil_member_updates.proofs.plain_list.listed_types.Given as goal

-- what the names so far hold
abbrev pub invariant-loop-k : goal.invariant-loop-k
invariant-loop-k g l =
    record {
      long : length l.words.items ≡ length l.reading.symbols.now / 64 + 1;
      told : (t : ℕ) → MayHold l.reading t → is_set l.words.items t ≡ list_any (λ e. name_holds l.reading e t) (take l.k l.names);
    }
