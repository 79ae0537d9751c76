-- The state over a store, as the store changes.
use Rattle.std.proofs.Common.{◌≡◌, List, [], ◌∷◌, Option, None, Some, refl, sym, ap, ◌∙◌, subst}
use Rattle.std.specs.Prelude.{is_some, if◌then◌else◌}
use Rattle.std.specs.FinMap as map
use Rattle.std.specs.FinSet as set
use Rattle.ledger_spec.specs.Bytes.{Bytes, Half, Nodes}
use Rattle.ledger_spec.specs.Maps.{SetOf}
use Rattle.ledger_spec.specs.Own.{AreStored}
use Rattle.ledger_machine.specs.State.{State, form_in, with_form, with_forms}
use Rattle.rotating_store.specs.Stores.{Store, nodes_of, born_of, Counted, with_pair}
use Rattle.rotating_store.proofs.shared.Merging.{merged-insert, born_put}
use Rattle.node_offer.specs.Stored as store
use Rattle.core_machine.specs.Desks.{over}

-- this is the state over this store
pub record IsOver (st : Store) (s : State) : Type 0 where
  pub nodes : s.nodes ≡ nodes_of st
  pub born : s.born ≡ born_of st
  pub epoch : s.epoch ≡ st.epoch

pub over_self : (st : Store) (s : State) → IsOver st s → over st s ≡ s
over_self st s is =
    ap (λ (n : Nodes). record s { nodes = n; born = born_of st; epoch = st.epoch }) (sym is.nodes)
    ∙ ap (λ (b : SetOf). record s { born = b; epoch = st.epoch }) (sym is.born)
    ∙ ap (λ n. record s { epoch = n }) (sym is.epoch)

-- one form more
one_over : (half : Half) (st : Store) (s : State) (form : Bytes) → with_form half (over st s) form ≡ over (store.with_form half st form) s
one_over half st s form = at (map.get (nodes_of st) (half form)) refl
  where
    at : (o : Option Bytes) → map.get (nodes_of st) (half form) ≡ o
        → (if is_some o then over st s
        else record (over st s) { nodes = map.insert (nodes_of st) (half form) form; born = set.insert (born_of st) (half form) })
        ≡ over (if is_some o then st else with_pair st (half form) form) s
    at (Some old) e = refl
    at None e =
        ap (λ (n : Nodes). record (over st s) { nodes = n; born = set.insert (born_of st) (half form) })
        (sym (merged-insert st.writable st.archive (half form) form))
        ∙ ap (λ (b : SetOf). record (over st s) { nodes = nodes_of (with_pair st (half form) form); born = b })
        (sym (born_put st.writable st.archive (half form) form e))

all_over : (half : Half) (st : Store) (s : State) (forms : List Bytes)
    → with_forms half (over st s) forms ≡ over (store.with_forms half st forms) s
all_over half st s [] = refl
all_over half st s (form ∷ forms) =
    ap (λ (x : State). with_forms half x forms) (one_over half st s form) ∙ all_over half (store.with_form half st form) s forms

-- but for the counts
pub same_over : (st st' : Store) (s : State) → IsOver st s → Counted st st' → over st' s ≡ s
same_over st st' s is e = ap (λ (x : Store). over x s) e ∙ over_self st s is

-- these forms are stored
pub stored_over : (half : Half) (st st' : Store) (s : State) (forms : List Bytes) → IsOver st s → store.HasForms half forms st st'
    → over st' s ≡ with_forms half s forms
stored_over half st st' s forms is e =
    ap (λ (x : Store). over x s) e ∙ sym (all_over half st s forms) ∙ ap (λ (x : State). with_forms half x forms) (over_self st s is)

pub filed_over : (half : Half) (st : Store) (s : State) → IsOver st s → AreStored half (form_in s) → AreStored half (map.get (nodes_of st))
filed_over half st s is all = subst (λ (n : Nodes). AreStored half (map.get n)) is.nodes all
