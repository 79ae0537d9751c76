-- The roots of a ledger without findings are marked.
use Rattle.std.proofs.Common.{◌≡◌, ◌≤◌, ◌&&◌, ◌==◌, not, Bool, true, false, is_some, List, [], ◌∷◌, length, Option, None, Some}
use Rattle.std.proofs.Common.{refl, sym, ap}
use Rattle.std.proofs.Common.{◌∙◌, subst, Result, Ok, Err, IfOk, if◌then◌else◌}
use Rattle.std.specs.Prelude.{map}
use Rattle.half_hash.specs.declared.Memory.{Memory}
use Rattle.ledger_spec.specs.declared.Kind.{Kind}
use Rattle.ledger_spec.specs.declared.Kind.TheVariants.{State, Tx}
use Rattle.ledger_spec.specs.Bytes.{Hash, is_zero, same_bytes}
use Rattle.ledger_header.specs.declared.Header.{Header}
use Rattle.full_below.specs.declared.marks.Marks.{Marks}
use Rattle.full_below.specs.Marking.{is_marked, after_mark}
use Rattle.full_below.proofs.shared.Marked.{mark_is, mark_leads, first_stays}
use Rattle.missing_walk.specs.declared.Found.{Found}
use Rattle.missing_walk.specs.declared.todo.Todo.{Todo}
use Rattle.missing_walk.specs.declared.search.Search.{Search}
use Rattle.missing_walk.specs.Searching.{place_of}
use Rattle.missing_walk.specs.Ends.{IsClean, AreRootsMarked, found_whole, root_key, with_root, marks_of_roots}

chosen : {A : Type 0} (z : Bool) (x y : A) → z ≡ false → (if z then x else y) ≡ y
chosen true x y e = cc
chosen false x y e = refl

kinds_differ : (x y : Bool) → (x && false && y) ≡ false
kinds_differ true y = refl
kinds_differ false y = refl

state_marked : (h : Hash) (m : Marks) → is_zero h ≡ false → is_marked (with_root State h m) (root_key State h) ≡ true
state_marked h m nonzero =
    ap (λ k. is_marked k (root_key State h)) (chosen (is_zero h) m (after_mark m (root_key State h)) nonzero) ∙ mark_is m
    (root_key State h)

tx_by : (t s : Hash) (m : Marks) (z : Bool) → 2 ≤ m.entries.cap
    → is_marked (if z then after_mark m (root_key Tx t) else after_mark (after_mark m (root_key Tx t)) (root_key State s))
    (root_key Tx t) ≡ true
tx_by t s m true room = mark_is m (root_key Tx t)
tx_by t s m false room =
    first_stays (after_mark m (root_key Tx t)) (root_key Tx t) (root_key State s) (mark_leads m (root_key Tx t))
    (kinds_differ (same_bytes s t) (same_bytes [] [])) room

tx_marked : (t s : Hash) (m : Marks) → is_zero t ≡ false → 2 ≤ m.entries.cap
    → is_marked (with_root State s (with_root Tx t m)) (root_key Tx t) ≡ true
tx_marked t s m nonzero room =
    ap (λ k. is_marked (with_root State s k) (root_key Tx t)) (chosen (is_zero t) m (after_mark m (root_key Tx t)) nonzero)
    ∙ tx_by t s m (is_zero s) room

room_with : (kind : Kind) (h : Hash) (m : Marks) → (with_root kind h m).entries.cap ≡ m.entries.cap
room_with kind h m = by (is_zero h)
  where
    by : (z : Bool) → (if z then m else after_mark m (root_key kind h)).entries.cap ≡ m.entries.cap
    by true = refl
    by false = refl

roots_are : (o : Option Header) (m m' : Marks) → m' ≡ marks_of_roots o m → 2 ≤ m'.entries.cap → AreRootsMarked o m'
roots_are None m m' is room = tt
roots_are (Some h) m m' is room =
    let cap : m'.entries.cap ≡ m.entries.cap =
    ap (λ (k : Marks). k.entries.cap) is ∙ room_with State h.state_root (with_root Tx h.tx_root m) ∙ room_with Tx h.tx_root m in (
      λ nonzero. ap (λ k. is_marked k (root_key State h.state_root)) is ∙ state_marked h.state_root (with_root Tx h.tx_root m) nonzero,
      λ nonzero. ap (λ k. is_marked k (root_key Tx h.tx_root)) is
          ∙ tx_marked h.tx_root h.state_root m nonzero (subst (λ n. 2 ≤ n) cap room),
    )

no_places : (ts : List Todo) → map place_of ts ≡ [] → ts ≡ []
no_places [] e = refl
no_places (t ∷ ts) e = cc

whole_is : (s : Search) (f : Found) → f.broken ≡ s.broken → f.missing ≡ map place_of s.missing.items → IsClean f → found_whole s ≡ true
whole_is s f broken missing clean =
    let none : s.missing.items ≡ [] = no_places s.missing.items (sym missing ∙ clean.missing) in
    let sound : s.broken ≡ None = sym broken ∙ clean.broken in
    λ i. (length (none i) == 0) && not (is_some (sound i))

pub roots_ok : (r : Result Found Memory) (s : Search) (m m' : Marks) → IfOk r (λ f. f.header ≡ s.header)
    → IfOk r (λ f. f.broken ≡ s.broken)
    → IfOk r (λ f. f.missing ≡ map place_of s.missing.items) → (found_whole s ≡ true → m' ≡ marks_of_roots s.header m)
    → IfOk r (λ f. IsClean f → 2 ≤ m'.entries.cap → AreRootsMarked f.header m')
roots_ok (Ok f) s m m' head broken missing whole = λ clean room.
    subst (λ o. AreRootsMarked o m') (sym head) (roots_are s.header m m' (whole (whole_is s f broken missing clean)) room)
roots_ok (Err e) s m m' head broken missing whole = tt
