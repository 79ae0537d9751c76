-- Why a store wasn't opened.
use Rattle.std.proofs.Common.{◌≡◌, ◌⊎◌, inl, inr, ℕ, refl}
use Rattle.run_io.specs.Bytes.{Rose}
use Rattle.rotating_store.specs.Stores as stores
use Rattle.rotating_store.specs.declared.store.Unopened.{Unopened}
use Rattle.rotating_store.specs.declared.store.Unopened.TheVariants.{Shelf, Store, Memory}
use Rattle.top_call.specs.declared.status.TheConstants.{STORE_FAILED, NO_MEMORY}

-- the status tells what is left
pub opened_by : {S B : Type 0} (faults : S → ℕ) (before status : ℕ) (u : Unopened S B)
    → ((s : S) → u ≡ Unopened.Shelf s → status ≡ STORE_FAILED) → ((t : stores.Store) → u ≡ Unopened.Store t → status ≡ STORE_FAILED)
    → (u ≡ Unopened.Memory → status ≡ NO_MEMORY)
    → ((s : S) → u ≡ Unopened.Shelf s → Rose before (faults s)) → ((t : stores.Store) → u ≡ Unopened.Store t → Rose before t.faults)
    → ((status ≡ STORE_FAILED) × (((s : S) × (u ≡ Unopened.Shelf s) × Rose before (faults s))
    ⊎ ((t : stores.Store) × (u ≡ Unopened.Store t) × Rose before t.faults)))
    ⊎ ((status ≡ NO_MEMORY) × (u ≡ Unopened.Memory))
opened_by faults before status (Shelf s) failed stored wanted shelf store = inl (failed s refl, inl (s, refl, shelf s refl))
opened_by faults before status (Store t) failed stored wanted shelf store = inl (stored t refl, inr (t, refl, store t refl))
opened_by faults before status Memory failed stored wanted shelf store = inr (wanted refl, refl)
