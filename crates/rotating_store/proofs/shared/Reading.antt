-- Calls that only read a store, one after the other. For proofs of other crates.
use Rattle.std.proofs.Common.{◌≡◌, ◌≤◌, ℕ, Bool, IsTrue, Some, inl, inr, refl, sym, ap, subst, ◌∙◌, arith}
use Rattle.std.specs.FinSet as set
use Rattle.std.specs.FinMap as map
use Rattle.ledger_spec.specs.Bytes.{Bytes, Hash, Half}
use Rattle.ledger_spec.specs.Maps.{SetOf}
use Rattle.ledger_spec.specs.Own.{AreStored, is_own}
use Rattle.ledger_spec.proofs.shared.Owning.{own_is}
use Rattle.run_io.specs.Bytes.{Rose}
use Rattle.rotating_store.specs.Stores.{Store, nodes_of, Counted, IsNoted}
use Rattle.rotating_store.specs.Reading.{AreNotedOwn, IsLater, MayNote, WasRead}

-- what is stored doesn't hang on the counts
pub same_nodes : (s s' : Store) → Counted s s' → nodes_of s' ≡ nodes_of s
same_nodes s s' e = ap nodes_of e

pub counted_then : (a b c : Store) → Counted a b → Counted b c → Counted a c
counted_then a b c first second = second ∙ ap (λ (x : Store). record x { faults = c.faults; gets = c.gets; noted = c.noted }) first

pub later_same : (s : Store) → IsLater s s
later_same s = record { past = (refl, refl, refl, refl, refl); ready = refl; faults = omega arith; gets = omega arith }

pub later_then : (a b c : Store) → IsLater a b → IsLater b c → IsLater a c
later_then a b c p q = record {
  past = (q.past.0 ∙ p.past.0, q.past.1 ∙ p.past.1, q.past.2 ∙ p.past.2, q.past.3 ∙ p.past.3, q.past.4 ∙ p.past.4);
  ready = q.ready ∙ p.ready;
  faults = omega (arith, p.faults, q.faults);
  gets = omega (arith, p.gets, q.gets);
}

pub read_same : (tells : Bool) (half : Half) (s : Store) → WasRead tells half s s
read_same tells half s = record { same = λ t. refl; later = later_same s; notes = λ n. n }

pub read_then : (tells : Bool) (half : Half) (a b c : Store) → WasRead tells half a b → WasRead tells half b c → WasRead tells half a c
read_then tells half a b c p q = record {
  same = λ t. counted_then a b c (p.same t) (q.same t);
  later = later_then a b c p.later q.later;
  notes = λ n. q.notes (p.notes n);
}

-- where all that is stored are forms under their own hashes, all notes are true
pub stored_notes : (half : Half) (s : Store) → AreStored half (map.get (nodes_of s)) → AreNotedOwn half s
stored_notes half s all = record { own = λ h form noted held. own_is half h form (all h form held) }

-- notes stay true where neither they nor what is held changes
pub notes_stay : (half : Half) (s s' : Store) → nodes_of s' ≡ nodes_of s → s'.noted ≡ s.noted → AreNotedOwn half s → AreNotedOwn half s'
notes_stay half s s' nodes notes true_then = record {
  own = λ h form noted held. true_then.own h form
      (subst (λ (ns : SetOf). IsTrue (set.contains ns h)) notes noted)
      (sym (ap (λ n. map.get n h) nodes) ∙ held);
}

-- a call that asks for nothing but what is held
pub got : (tells : Bool) (half : Half) (s s' : Store) → (IsTrue tells → Counted s s') → IsLater s s' → s'.noted ≡ s.noted
    → WasRead tells half s s'
got tells half s s' same later notes = record {
  same = same;
  later = later;
  notes = λ n. (n.0, notes_stay half s s' (same_nodes s s' (same n.0)) notes n.1);
}

some_is : {X : Type 0} {a b : X} → Some a ≡ Some b → a ≡ b
some_is e = cc

-- a true note
module _ (half : Half) (s s' : Store) (h : Hash) (form : Bytes) (own : IsTrue (is_own half h form)) (noted : IsNoted s h s') where
  nodes_stay : nodes_of s' ≡ nodes_of s
  nodes_stay = ap nodes_of noted.rest

  own_there : (q : Hash) (other : Bytes) → q ≡ h → map.get (nodes_of s) h ≡ Some form → map.get (nodes_of s) q ≡ Some other
      → IsTrue (is_own half q other)
  own_there q other same there held =
      let e : other ≡ form = some_is (sym held ∙ ap (map.get (nodes_of s)) same ∙ there) in
      subst (λ (x : Hash). IsTrue (is_own half x other)) (sym same) (subst (λ (f : Bytes). IsTrue (is_own half h f)) (sym e) own)

  pub note_is_true : map.get (nodes_of s) h ≡ Some form → AreNotedOwn half s → AreNotedOwn half s'
  note_is_true there before = record {
    own = λ q other has held.
        let now : map.get (nodes_of s) q ≡ Some other = sym (ap (λ n. map.get n q) nodes_stay) ∙ held in
        elim (noted.notes q has) [
          | inl earlier ↦ before.own q other earlier now
          | inr same ↦ own_there q other same there now
        ];
  }

  pub note_is_later : IsLater s s'
  note_is_later = subst (λ (x : Store). IsLater s x) (sym noted.rest)
      (record { past = (refl, refl, refl, refl, refl); ready = refl; faults = omega arith; gets = omega arith })

-- a note, where the form was own
pub may_note : (tells : Bool) (half : Half) (s s' : Store) (h : Hash) (form : Bytes)
    → (IsTrue tells → map.get (nodes_of s) h ≡ Some form) → MayNote half s h form s' → WasRead tells half s s'
may_note tells half s s' h form there (inl same) = subst (λ (x : Store). WasRead tells half s x) (sym same) (read_same tells half s)
may_note tells half s s' h form there (inr noted) = record {
  same = λ t. subst (λ (y : Store). Counted s y) (sym noted.1.rest) refl;
  later = note_is_later half s s' h form noted.0 noted.1;
  notes = λ n. (n.0, note_is_true half s s' h form noted.0 noted.1 (there n.0) n.1);
}

-- a count that rose later rose
pub rose_then : (a b c : ℕ) → a ≤ b → Rose b c → Rose a c
rose_then a b c before (inl more) = inl (omega (arith, before, more))
rose_then a b c before (inr end) = inr end
