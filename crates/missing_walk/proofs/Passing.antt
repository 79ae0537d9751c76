-- A search passes marked places.
use Rattle.std.proofs.Common.{◌≡◌, ◌≤◌, Bool, true, false, List, [], ◌∷◌, ◌++◌, length, Option, None, Some, Result, Ok, Err}
use Rattle.std.proofs.Common.{refl, sym, ap, ◌∙◌, subst, arith, length-append}
use Rattle.full_below.specs.declared.key.MarkKey.{MarkKey}
use Rattle.full_below.specs.declared.marks.Marks.{Marks}
use Rattle.full_below.specs.Marking.{is_marked, after_use}
use Rattle.full_below.proofs.shared.Marked.{use_stays}
use Rattle.missing_walk.specs.declared.todo.Todo.{Todo}
use Rattle.missing_walk.specs.declared.sight.View.{View}
use Rattle.missing_walk.specs.declared.search.Search.{Search}
use Rattle.missing_walk.specs.Pending.{Pending, pending_of, stacked}
use Rattle.missing_walk.specs.Passes.{IsNothing, SeesNothing, StillMarked, key_of, AllMarked, IsIdle, Skips, PassesOne}
use Rattle.missing_walk.proofs.Stacking.{stacked_top, length_stacked}
use Rattle.missing_walk.proofs.Apart.{all_join}
use Rattle.std.proofs.Common.{if◌then◌else◌, is_some, IfSome}
use Rattle.ledger_spec.specs.declared.Kind.{Kind}
use Rattle.ledger_spec.specs.declared.Kind.TheVariants.{State, Tx}
use Rattle.ledger_spec.specs.Bytes.{Hash, Lookup, is_zero}
use Rattle.ledger_spec.specs.Header.{header_bytes}
use Rattle.ledger_header.specs.declared.Header.{Header}
use Rattle.ledger_header.specs.Fields.{fields}
use Rattle.missing_walk.specs.Sees.{IsHeaderOf}
use Rattle.missing_walk.specs.Begins.{Begins, root_place}
use Rattle.missing_walk.specs.Ends.{root_key}
use Rattle.missing_walk.specs.Passes.{IsReady, StaysPut, IsDone, HasMarkedRoots}
use Rattle.missing_walk.specs.declared.search.Slice.{Slice}
use Rattle.std.proofs.Common.{IfOk}

pub use_still : (m m' : Marks) (key : MarkKey) → m' ≡ after_use m key → StillMarked m m'
use_still m m' key is = record { still = λ k there. subst (λ x. is_marked x k ≡ true) (sym is) (use_stays m key k there) }

pub still_same : (m : Marks) → StillMarked m m
still_same m = record { still = λ k there. there }

all_still : (m m' : Marks) → StillMarked m m' → (ps : List Pending) → AllMarked m ps → AllMarked m' ps
all_still m m' s [] all = tt
all_still m m' s (p ∷ ps) all = (s.still (key_of p) all.0, all_still m m' s ps all.1)

pub top_marked : (m : Marks) (items rest : List Todo) (top : Todo) → items ≡ rest ++ top ∷ [] → AllMarked m (stacked items)
    → (is_marked m top.at ≡ true) × AllMarked m (stacked rest)
top_marked m items rest top e all =
    let both : AllMarked m (pending_of top ∷ stacked rest) = subst (AllMarked m) (ap stacked e ∙ stacked_top rest top) all in
    (both.0, both.1)

-- the place on top is marked, so it goes
pub passes_one : (s mid s' : Search) (m m' : Marks) (rest : List Todo) (top : Todo) → s.stack.items ≡ rest ++ top ∷ []
    → mid.opened.items ≡ [] → mid.missing.items ≡ s.missing.items → mid.broken ≡ s.broken → Skips mid s' rest
    → StillMarked m m' → IsIdle s m → PassesOne s s' m'
passes_one s mid s' m m' rest top e opened missing broken k still idle = record {
  idle = record {
    opened = k.opened ∙ opened;
    missing = k.missing ∙ missing ∙ idle.missing;
    broken = k.broken ∙ broken ∙ idle.broken;
    marked = subst (λ l. AllMarked m' (stacked l)) (sym k.stack)
        (all_still m m' still (stacked rest) (top_marked m s.stack.items rest top e idle.marked).1);
  };
  shorter = omega (arith, ap length k.stack, ap length e, length-append rest (top ∷ []));
}

pub seen_nothing : {E : Type 0} (r : Result View E) (v : View) → r ≡ Ok v → SeesNothing r → IsNothing v
seen_nothing (Ok w) v e s = let same : w ≡ v = cc in subst IsNothing same s
seen_nothing (Err x) v e s = absurd s

pub seen_no_err : {E A : Type 0} (r : Result View E) (e : E) → r ≡ Err e → SeesNothing r → A
seen_no_err (Ok w) e is s = cc
seen_no_err (Err x) e is s = absurd s

pub no_err : false ≡ true → ⊥
no_err e = cc

root_marked : (m : Marks) (kind : Kind) (h : Hash) → (is_zero h ≡ false → is_marked m (root_key kind h) ≡ true) → (z : Bool)
    → is_zero h ≡ z
    → AllMarked m (if z then [] else record { kind = kind; path = []; hash = h; parent = None } ∷ [])
root_marked m kind h is true e = tt
root_marked m kind h is false e = (is e, tt)

one_root : (kind : Kind) (h : Hash) → length (root_place kind h) ≤ 1
one_root kind h = by (is_zero h)
  where
    by : (z : Bool) → length {A = Pending} (if z then [] else record { kind = kind; path = []; hash = h; parent = None } ∷ []) ≤ 1
    by true = omega arith
    by false = omega arith

ready_by : (nodes : Lookup) (m : Marks) (s s' : Search) (h : Header) → IsHeaderOf nodes s'.target (Some h) → Begins h s s'
    → HasMarkedRoots nodes s'.target m → IsReady s' m
ready_by nodes m s s' h head b marked = record {
  missing = b.missing;
  opened = b.opened;
  marked = subst (AllMarked m) (sym b.places) (all_join (λ p. is_marked m (key_of p) ≡ true) (root_place State h.state_root)
      (root_place Tx h.tx_root)
      (root_marked m State h.state_root (subst (λ r. is_zero r ≡ false → is_marked m (root_key State r) ≡ true) head.reads.state_root
      (marked.state (header_bytes (fields h)) head.bytes)) (is_zero h.state_root) refl)
      (root_marked m Tx h.tx_root (subst (λ r. is_zero r ≡ false → is_marked m (root_key Tx r) ≡ true) head.reads.tx_root
      (marked.tx (header_bytes (fields h)) head.bytes)) (is_zero h.tx_root) refl));
  few = omega (
    arith,
    length_stacked s'.stack.items,
    ap length b.places,
    length-append (root_place State h.state_root) (root_place Tx h.tx_root),
    one_root State h.state_root,
    one_root Tx h.tx_root,
  );
}

pub ready : (nodes : Lookup) (m : Marks) (s s' : Search) (o : Option Header) → is_some o ≡ true → IsHeaderOf nodes s'.target o
    → IfSome o (λ h. Begins h s s') → HasMarkedRoots nodes s'.target m → IsReady s' m
ready nodes m s s' None there head b marked = cc
ready nodes m s s' (Some h) there head b marked = ready_by nodes m s s' h head b marked

pub idle_from : (s s' : Search) (m : Marks) → IsReady s m → StaysPut s s' → s'.broken ≡ None → IsIdle s' m × (length s'.stack.items ≤ 2)
idle_from s s' m r p broken = (
  record {
    opened = p.opened ∙ r.opened;
    missing = p.missing;
    broken = broken;
    marked = subst (λ l. AllMarked m (stacked l)) (sym p.stack) r.marked;
  },
  omega (arith, r.few, ap length p.stack),
)

pub answers_no : (b : Bool) → b ≡ true → b ≡ false → ⊥
answers_no b e f = let never : true ≡ false = sym e ∙ f in cc

-- a refusal ends no search
pub none_done : {E : Type 0} (r : Result Slice E) (e : E) → r ≡ Err e → IfOk r IsDone
none_done (Ok x) e is = cc
none_done (Err x) e is = tt

pub no_some : {A : Type 0} (o : Option A) → o ≡ None → is_some o ≡ true → ⊥
no_some None e is = cc
no_some (Some x) e is = cc
