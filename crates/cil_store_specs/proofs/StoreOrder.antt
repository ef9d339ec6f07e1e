-- An edit leaves a store in order.
use Rattle.cil_store_specs.proofs.Common.{ℕ, List, Bool, true, false, not, bytes_eq, if◌then◌else◌, sym, subst, IsTotalOrder, IsStrictlySortedBy, nat_cmp_total, nat_list_cmp_total, on_total, then_total, back_total, IsStrictlySortedBy-filter, name_cmp, Entry, Store, IsStore, empty, entry_cmp, is_entry, is_installed, without, without_name, Edit, install, remove, enable, disable, still_disabled, changed, IsTaken, Call, Reply, Step, Run}
use Rattle.cil_store_specs.proofs.PutLemmas.{put-ordered}
use Rattle.cil_store_specs.proofs.RunLemmas.{step-keeps, run-keeps}

pub entry_total : IsTotalOrder entry_cmp
entry_total = then_total (on_total (λ (e : Entry). e.name) nat_list_cmp_total) (on_total (λ (e : Entry). e.priority) (back_total nat_cmp_total))

pub empty-ordered : IsStore empty
unfolding IsStrictlySortedBy
empty-ordered = record { entries = tt; disabled = tt }

still-ordered : (name : List ℕ) (entries : List Entry) (names : List (List ℕ)) → IsStrictlySortedBy name_cmp names → IsStrictlySortedBy name_cmp (still_disabled name entries names)
still-ordered name entries names sorted = by (is_installed name entries)
  where
    by : (b : Bool) → IsStrictlySortedBy name_cmp (if b then names else without_name name names)
    by true = sorted
    by false = IsStrictlySortedBy-filter name_cmp (λ o. not (bytes_eq o name)) names sorted

pub changed-ordered : (store : Store) (edit : Edit) → IsStore store → IsStore (changed store edit)
changed-ordered store (install name priority text) is = record { entries = put-ordered entry_cmp entry_total (record { name = name; priority = priority; text = text }) store.entries is.entries; disabled = is.disabled }
changed-ordered store (remove name priority) is = record {
  entries = IsStrictlySortedBy-filter entry_cmp (λ e. not (is_entry name priority e)) store.entries is.entries;
  disabled = still-ordered name (without name priority store.entries) store.disabled is.disabled;
}
changed-ordered store (enable name) is = record { entries = is.entries; disabled = IsStrictlySortedBy-filter name_cmp (λ o. not (bytes_eq o name)) store.disabled is.disabled }
changed-ordered store (disable name) is = record { entries = is.entries; disabled = put-ordered name_cmp nat_list_cmp_total name store.disabled is.disabled }

pub taken-ordered : (store new : Store) (edit : Edit) → IsStore store → IsTaken store edit new → IsStore new
taken-ordered store new edit is taken = subst IsStore (sym taken.is) (changed-ordered store edit is)

pub step-ordered : (old new : Store) (call : Call) (reply : Reply) → IsStore old → Step old call reply new → IsStore new
step-ordered = step-keeps IsStore taken-ordered

pub run-ordered : (old new : Store) (calls : List Call) (replies : List Reply) → IsStore old → Run old calls replies new → IsStore new
run-ordered = run-keeps IsStore taken-ordered
