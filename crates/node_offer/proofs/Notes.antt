-- Notes through a put: true ones stay true.
use Rattle.std.proofs.Common.{◌≡◌, Bool, true, false, is_some, cond, IsTrue, Some, Result, Ok, Err, inl, inr, refl}
use Rattle.std.proofs.Common.{sym, ap, ◌∙◌, subst}
use Rattle.std.proofs.lemmas.Option.{same_Some}
use Rattle.std.specs.Ordering.{eq_by_cmp}
use Rattle.std.specs.Cmp.{eq_by_cmp_equiv}
use Rattle.std.specs.Cmp.Lexicographic.{nat_list_cmp_total}
use Rattle.std.specs.FinMap as map
use Rattle.std.specs.FinMap.{get-insert}
use Rattle.std.proofs.lemmas.Map.Lookups.{exact_bytes}
use Rattle.std.proofs.lemmas.Map.Views.{tells_apart}
use Rattle.ledger_spec.specs.Bytes.{Bytes, Hash, Half, Nodes, same_bytes}
use Rattle.ledger_spec.specs.Findings.{held_of}
use Rattle.ledger_spec.specs.Forms.{Held, Form}
use Rattle.ledger_spec.proofs.shared.Seeing.{sees}
use Rattle.ledger_spec.specs.Maps.{hash_cmp}
use Rattle.ledger_spec.specs.Own.{is_own}
use Rattle.ledger_spec.proofs.shared.Owning.{same_self}
use Rattle.rotating_store.specs.Stores.{Store, nodes_of, with_pair, is_noted, IsNoted, Counted}
use Rattle.rotating_store.specs.Puts.{Puts, TellsWrongHash, MayStore}
use Rattle.rotating_store.specs.declared.outcome.Put.{Put}
use Rattle.rotating_store.specs.declared.outcome.Put.TheVariants as put
use Rattle.rotating_store.specs.declared.outcome.StoreFault.{StoreFault}
use Rattle.rotating_store.specs.declared.outcome.StoreFault.TheVariants as fault
use Rattle.rotating_store.proofs.shared.Merging.{merged-insert}
use Rattle.rotating_store.specs.Reading.{AreNotedOwn}
use Rattle.rotating_store.proofs.shared.Reading.{note_is_true, notes_stay}

module _ (half : Half) (s : Store) (h : Hash) (form : Bytes) where
  after_pair : (q : Hash) → map.get (nodes_of (with_pair s h form)) q ≡ cond (eq_by_cmp hash_cmp q h) (Some form) (map.get (nodes_of s) q)
  after_pair q =
      ap (λ (m : Nodes). map.get m q) (merged-insert s.writable s.archive h form) ∙ get-insert nat_list_cmp_total (nodes_of s) h form q

  pair_held : map.get (nodes_of (with_pair s h form)) h ≡ Some form
  pair_held = after_pair h ∙ ap (λ (b : Bool). cond b (Some form) (map.get (nodes_of s) h)) ((eq_by_cmp_equiv nat_list_cmp_total).refl h)

  pair_notes : IsTrue (is_own half h form) → AreNotedOwn half s → AreNotedOwn half (with_pair s h form)
  pair_notes own before = record { own = λ q f noted held. by_hash q f noted (eq_by_cmp hash_cmp q h) refl (sym (after_pair q) ∙ held) }
    where
      by_hash : (q : Hash) (f : Bytes) → IsTrue (is_noted s q) → (b : Bool) → eq_by_cmp hash_cmp q h ≡ b
          → cond b (Some form) (map.get (nodes_of s) q) ≡ Some f → IsTrue (is_own half q f)
      by_hash q f noted true same is =
          let e : h ≡ q = sym (tells_apart exact_bytes q h same) in
          subst (λ (x : Hash). IsTrue (is_own half x f)) e (subst (λ (x : Bytes). IsTrue (is_own half h x)) (same_Some form f is) own)
      by_hash q f noted false other is = before.own q f noted is

  own_by : IsTrue (is_some (held_of half form)) → half form ≡ h → IsTrue (is_own half h form)
  own_by held same =
      let e : same_bytes (half form) h ≡ true = ap (same_bytes (half form)) (sym same) ∙ same_self (half form) in
      rw (e, held) refl

  module _ (s' : Store) (held : IsTrue (is_some (held_of half form))) (notes : s'.noted ≡ s.noted) (before : AreNotedOwn half s) where
    same_notes : Counted s s' → AreNotedOwn half s'
    same_notes same = notes_stay half s s' (ap nodes_of same) notes before

    new_notes : half form ≡ h → Counted (with_pair s h form) s' → AreNotedOwn half s'
    new_notes own new =
        notes_stay half (with_pair s h form) s' (ap nodes_of new) notes (pair_notes (own_by held own) before)

    may_notes : half form ≡ h → MayStore s h form s' → AreNotedOwn half s'
    may_notes own (inl same) = same_notes same
    may_notes own (inr new) = new_notes own new.1

    -- true notes stay true through a put
    pub put_notes : (r : Result Put StoreFault) → Puts s h form r s' → TellsWrongHash half h form r → AreNotedOwn half s'
    put_notes (Ok put.New) p own = new_notes own p.1
    put_notes (Ok put.Same) p own = same_notes p.1
    put_notes (Err (fault.WrongHash hash found)) p own = same_notes p
    put_notes (Err (fault.Clash hash old new)) p own = same_notes p.4
    put_notes (Err fault.Fault) p own = may_notes own p
    put_notes (Err fault.Memory) p own = may_notes own p

    -- and a note of what was put is true
    pub put_noted : (s'' : Store) → half form ≡ h → map.get (nodes_of s') h ≡ Some form → IsNoted s' h s''
        → AreNotedOwn half s' → AreNotedOwn half s''
    put_noted s'' own there noted after = note_is_true half s' s'' h form (own_by held own) noted there after

    pub new_there : Counted (with_pair s h form) s' → map.get (nodes_of s') h ≡ Some form
    new_there new = ap (λ (m : Nodes). map.get m h) (ap nodes_of new) ∙ pair_held

    pub same_there : map.get (nodes_of s) h ≡ Some form → Counted s s' → map.get (nodes_of s') h ≡ Some form
    same_there is same = ap (λ (m : Nodes). map.get m h) (ap nodes_of same) ∙ is

-- what is held is read back from its form
pub held_back : (half : Half) (n : Held) (form : Bytes) → Form half n form → IsTrue (is_some (held_of half form))
held_back half n form is = ap is_some (sees half n form is)
