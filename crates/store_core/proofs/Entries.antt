-- What a new core begins with: nothing is born, and the store holds the records.
use Rattle.std.proofs.Common.{◌≡◌, ℕ, Option, None, Some, refl, sym, ap, ◌∙◌}
use Rattle.std.specs.Option.{option_or}
use Rattle.std.specs.Prelude.{Bool, true, false, not, ◌&&◌, is_some}
use Rattle.std.specs.FinMap as map
use Rattle.std.specs.FinSet as set
use Rattle.std.specs.FinSet.{contains-difference, same_set}
use Rattle.std.specs.FinMap.{nat_cmp-IsAntisymmetric, slice_cmp-IsAntisymmetric}
use Rattle.std.specs.Cmp.Lexicographic.{nat_list_cmp_total}
use Rattle.rotating_store.proofs.shared.Merging.{contains_hashes}
use Rattle.ledger_spec.specs.Bytes.{Hash, Nodes}
use Rattle.ledger_spec.specs.Maps.{hashes_in, hash_cmp}
use Rattle.ledger_machine.specs.State.{opening}
use Rattle.rotating_store.specs.Stores.{Store, merged}
use Rattle.rotating_store.proofs.shared.Merging.{get-merged, same_nodes}
use Rattle.node_offer.specs.Stored as store
use Rattle.core_machine.specs.Desks.{over}
use Rattle.core_machine.proofs.shared.Entries.{over_self}

-- nothing was born where nothing is held
abbrev none : Nodes
none = map.empty

unheld : (q : Hash) → set.contains (hashes_in none) q ≡ false
unheld q = contains_hashes none q ∙ ap is_some (map.get-empty hash_cmp q)

and_true : (b : Bool) → (b && true) ≡ b
and_true true = refl
and_true false = refl

or_none : {X : Type 0} (o : Option X) → option_or o None ≡ o
or_none None = refl
or_none (Some x) = refl

-- all that the writable backend alone holds was born
all_born : (m : Nodes) → set.difference (hashes_in m) (hashes_in none) ≡ hashes_in m
all_born m = same_set nat_list_cmp_total (slice_cmp-IsAntisymmetric nat_cmp-IsAntisymmetric) _ _ (λ q.
    contains-difference nat_list_cmp_total _ _ q ∙ ap (λ (b : Bool). set.contains (hashes_in m) q && not b) (unheld q)
    ∙ and_true (set.contains (hashes_in m) q))

-- and it is all that is held
all_held : (m : Nodes) → merged m none ≡ m
all_held m = same_nodes _ _ (λ q.
    get-merged m none q ∙ ap (option_or (map.get m q)) (map.get-empty hash_cmp q) ∙ or_none (map.get m q))

-- the opening state over a store whose writable backend alone holds something
pub over_open : (st : Store) (interval : ℕ) (records : Nodes) → st.writable ≡ records → st.archive ≡ map.empty → st.epoch ≡ 0
    → over st (opening map.empty interval) ≡ opening records interval
over_open st interval records writable archive epoch =
    over_self st (opening records interval) (record {
      nodes = sym (ap (λ (m : Nodes). merged m st.archive) writable ∙ ap (merged records) archive ∙ all_held records);
      born = sym (ap (λ (m : Nodes). set.difference (hashes_in m) (hashes_in st.archive)) writable
          ∙ ap (λ (m : Nodes). set.difference (hashes_in records) (hashes_in m)) archive ∙ all_born records);
      epoch = sym epoch;
    })
